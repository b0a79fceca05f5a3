use Rattle.std.proofs.Common.{◌≡◌, ◌++◌}
use Rattle.fx_text.specs.Sets.{IsAscending, set_of}
use Rattle.fx_text.proofs.set.TextSet.with_each.Given as goal

abbrev pub invariant-loop-text : goal.invariant-loop-text
invariant-loop-text l = IsAscending l.set × (set_of (l.text-iterator ++ l.set) ≡ set_of (l.self ++ l.other))
