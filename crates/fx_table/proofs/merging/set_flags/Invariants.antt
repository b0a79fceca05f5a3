use Rattle.fx_table.proofs.Prelude.{◌≡◌, ◌++◌, map, take, drop, flag_change}
use Rattle.fx_table.proofs.merging.set_flags.Given as goal

abbrev pub invariant-loop-i : goal.invariant-loop-i
invariant-loop-i l = l.found.items ≡ map (flag_change l.lines) (take l.i l.fn.found.items) ++ drop l.i l.fn.found.items
