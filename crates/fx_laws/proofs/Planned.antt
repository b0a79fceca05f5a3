-- Each entry of a legal order has its transaction.
use Rattle.std.proofs.Common.{◌<◌, get_or, []}
use Rattle.std.proofs.lemmas.List.Elements.{All-weaker}
use Rattle.std.proofs.lemmas.Option.{slice_get-get_or}
use Rattle.fx_spec.specs.Plans.{Turn, script_of, count_of}
use Rattle.fx_laws.specs.Swapped.{HasTransaction, EntriesAreOfThePlan}
use Rattle.fx_laws.proofs.Spelled.{planned}

pub entries_are_of_the_plan : EntriesAreOfThePlan
entries_are_of_the_plan base o legal =
    All-weaker (λ (t : Turn). t.1 < count_of base.plan t.0) (HasTransaction base) (λ t h. (get_or (script_of base.plan t.0) t.1 [], slice_get-get_or (script_of base.plan t.0) t.1 [] h)) o (planned base o legal)
