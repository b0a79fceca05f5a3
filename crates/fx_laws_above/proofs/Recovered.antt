-- The order that `recover` reads is the one that the journal kept.
use Rattle.std.proofs.Common.{◌≡◌, ◌⊎◌, inl, inr, ℕ, List, length, Some, Ok, IfSome, refl, sym, ap, subst, ◌∙◌}
use Rattle.fx_store.specs.Whole.{Nodes}
use Rattle.fx_outside.specs.Tree.{Tree}
use Rattle.fx_spec.specs.Plans.{Turn}
use Rattle.fx_spec.specs.Order.{BaseTree, state}
use Rattle.fx_words.specs.Job.{RecoverJob}
use Rattle.fx_inputs.specs.Inputs.{HasBase}
use Rattle.fx_durable.specs.Disk.{File, DiskView}
use Rattle.fx_durable.specs.Journal.{Spells}
use Rattle.fx_durable.specs.Legal.{SpellsLegal}
use Rattle.fx_journaling.specs.Kept.{SpellsFront}
use Rattle.fx_commands.specs.Recoveries.Recovered.{IsRecoveryOutcome, recovered_line}
use Rattle.fx_laws_above.specs.Recovering.{IsAfter, GivesTold, RecoversTold, RecoversFront}

-- the outcome of a file that spells this order of this base is that after the order
after : (t : Tree) (j : RecoverJob) (disk : DiskView) (base : BaseTree) (order : List Turn) (file : File) (nodes : Nodes) (output : List ℕ) → HasBase t j.inputs base → disk.told ≡ Some file → Spells order file.seen → IsRecoveryOutcome t j disk nodes output → IsAfter base order nodes output
after t j disk base order file nodes output begins told spells outcome =
    let image = subst (λ o. IfSome o (λ file. (file.path ≡ j.journal) × Spells outcome.order file.seen)) told outcome.read.spelled in
    let same_base : base ≡ outcome.base = outcome.read.only base begins in
    let both : Ok order ≡ Ok outcome.order = sym spells ∙ image.1 in
    let same_order : order ≡ outcome.order = cc in
    record {
      last = outcome.last ∙ ap (λ b. state b outcome.order (length outcome.order)) (sym same_base) ∙ ap (λ o. state base o (length o)) (sym same_order);
      printed = outcome.printed ∙ ap (λ o. recovered_line (length o)) (sym same_order);
    }

pub recovers_told : RecoversTold
recovers_told t j disk base order old new file nodes output begins keeps told image outcome = by (keeps.leaves.now file.seen image)
  where
    by : SpellsLegal base order file.seen ⊎ SpellsLegal base keeps.longer file.seen → GivesTold base order nodes output
    by (inl spells) = record { longer = order; more = inl refl; after = after t j disk base order file nodes output begins told spells.spells outcome }
    by (inr spells) = record { longer = keeps.longer; more = keeps.more; after = after t j disk base keeps.longer file nodes output begins told spells.spells outcome }

pub recovers_front : RecoversFront
recovers_front t j disk base order old new file nodes output begins keeps told image outcome =
    let spells : SpellsFront base keeps.longer file.seen = keeps.leaves.since file.seen image in
    record {
      longer = keeps.longer;
      more = keeps.more;
      front = spells.front;
      rest = spells.rest;
      whole = spells.whole;
      after = after t j disk base spells.front file nodes output begins told spells.spells.spells outcome;
    }
