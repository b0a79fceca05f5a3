use Rattle.std.proofs.Common.{◌≡◌, ◌+◌, None, vec_len}
use Rattle.std.specs.List.{All}
use Rattle.fx_turn.specs.Views.{joins}
use Rattle.fx_turn.specs.Seats.{view, IsSeatOf, IsReady}
use Rattle.test_threads.proofs.turns.join_all.Given as goal

abbrev pub invariant-loop-seat : goal.invariant-loop-seat
invariant-loop-seat l = record {
  turn : IsSeatOf l.turn l.maker;
  maker : (view l.maker).number ≡ None;
  splits : (view l.maker).splits ≡ (view l.initial.maker).splits;
  joins : joins (view l.maker) + vec_len l.seats ≡ joins (view l.initial.maker) + vec_len l.initial.seats;
  ready : All (IsReady l.turn) l.seats.items;
}

abbrev pub decreases-loop-seat : goal.decreases-loop-seat
decreases-loop-seat l = vec_len l.seats
