use Rattle.std.proofs.Common.{◌≡◌, ◌++◌}
use Rattle.fx_view.proofs.table.all_behind.Given as goal

abbrev pub invariant-loop-path : goal.invariant-loop-path
invariant-loop-path g l = l.entries.items ++ l.path-iterator ≡ l.fn.few.items ++ l.fn.map.entries
