-- Where a journal goes wrong.
use Rattle.std.specs.Prelude.{◌⊎◌, ℕ, List}
use Rattle.fx_spec.specs.Plans.{Turn}
use Rattle.fx_spec.specs.Order.{BaseTree}
use Rattle.fx_durable.specs.Journal.{Spells, Breaks}
use Rattle.fx_durable.specs.Legal.{SpellsLegal}
use Rattle.fx_audit.specs.Legal.{IsFirstIllegal}

-- the record of this number breaks, or its transaction is the first with which the order that the image spells is not legal
abbrev pub GoesWrong : BaseTree → List ℕ → ℕ → Type 0
GoesWrong base image place = Breaks place image ⊎ ((order : List Turn) × Spells order image × IsFirstIllegal base order place)

abbrev pub LegalImagesAreGood : Type 0
LegalImagesAreGood = (base : BaseTree) (order : List Turn) (image : List ℕ) (place : ℕ) → SpellsLegal base order image → GoesWrong base image place → ⊥
