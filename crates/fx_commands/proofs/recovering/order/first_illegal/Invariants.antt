use Rattle.std.proofs.Common.{take}
use Rattle.fx_spec.specs.Bases.{base_tree}
use Rattle.fx_durable.specs.Journal.{turns_of}
use Rattle.fx_commands.specs.Recoveries.Orders.{AreCounts}
use Rattle.fx_commands.proofs.recovering.order.first_illegal.Given as goal

abbrev pub invariant-loop-i : goal.invariant-loop-i
invariant-loop-i l = AreCounts (base_tree l.base) (turns_of (take l.i l.order)) l.counts.items
