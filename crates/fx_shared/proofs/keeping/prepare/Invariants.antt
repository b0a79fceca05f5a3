use Rattle.std.proofs.Common.{take}
use Rattle.fx_shared.specs.Tables.{HaveRoom, IsRoomier}
use Rattle.fx_shared.proofs.keeping.prepare.Given as goal

abbrev pub invariant-loop-change : goal.invariant-loop-change
invariant-loop-change l = record {
  room : HaveRoom l.table.entries (take l.change-index l.changes);
  roomier : IsRoomier l.initial.table.entries l.table.entries;
}
