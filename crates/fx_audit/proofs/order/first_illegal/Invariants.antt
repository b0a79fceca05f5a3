use Rattle.std.proofs.Common.{take}
use Rattle.fx_spec.specs.Bases.{base_tree}
use Rattle.fx_audit.specs.Places.{ArePlaces}
use Rattle.fx_audit.specs.Verdicts.{order_told}
use Rattle.fx_audit.proofs.order.first_illegal.Given as goal

abbrev pub invariant-loop-i : goal.invariant-loop-i
invariant-loop-i l = ArePlaces (base_tree l.base) (order_told (take l.i l.entries)) l.table
