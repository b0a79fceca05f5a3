use Rattle.std.proofs.Common.{◌≡◌, map, Some}
use Rattle.fx_words.specs.Job.{shells_named}
use Rattle.fx_words.proofs.schedule.shells_of.Given as goal

abbrev pub invariant-loop-part : goal.invariant-loop-part
invariant-loop-part l =
    (goal.iterator-loop-part).can_next l.part-iterator ×
    (goal.iterator-loop-part).is_finite l.part-iterator ×
    (shells_named l.count (map (λ x. x.now) l.yielded) ≡ Some l.shells.items)
