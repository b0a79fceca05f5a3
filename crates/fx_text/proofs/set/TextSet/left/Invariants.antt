use Rattle.std.proofs.Common.{◌≡◌, ◌++◌}
use Rattle.fx_text.specs.Sets.{without}
use Rattle.fx_text.proofs.set.TextSet.left.Given as goal

abbrev pub invariant-loop-text : goal.invariant-loop-text
invariant-loop-text l = l.kept.items ++ without l.text-iterator l.other ≡ without l.self l.other
