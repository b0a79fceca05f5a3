-- Images that spell a legal order are good.
use Rattle.std.proofs.Common.{◌≡◌, inl, inr, ℕ, ◌+◌, List, Ok, Err, sym, ◌∙◌, subst}
use Rattle.fx_spec.specs.Plans.{Turn}
use Rattle.fx_spec.specs.Order.{IsLegal}
use Rattle.fx_durable.specs.Journal.{Spells, Breaks}
use Rattle.fx_audit.proofs.Legal.{legal_take}
use Rattle.fx_commands.specs.Recoveries.Wrong.{LegalImagesAreGood}

not_broken : (order : List Turn) (image : List ℕ) (place : ℕ) → Spells order image → Breaks place image → ⊥
not_broken order image place spells broken = let both : Err place ≡ Ok order = sym broken ∙ spells in cc

pub legal_images_are_good : LegalImagesAreGood
legal_images_are_good base order image place kept (inl broken) = not_broken order image place kept.spells broken
legal_images_are_good base order image place kept (inr (other, spells, illegal)) =
    let both : Ok order ≡ Ok other = sym kept.spells ∙ spells in
    let same : order ≡ other = cc in
    illegal.here (legal_take base other (place + 1) (subst (IsLegal base) same kept.legal))
