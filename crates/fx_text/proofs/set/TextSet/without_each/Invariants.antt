use Rattle.std.proofs.Common.{◌≡◌}
use Rattle.fx_text.specs.Sets.{without}
use Rattle.fx_text.proofs.set.TextSet.without_each.Given as goal

abbrev pub invariant-loop-text : goal.invariant-loop-text
invariant-loop-text l = without l.set l.text-iterator ≡ without l.self l.other
