use Rattle.std.proofs.Common.{◌≡◌, ◌+◌, None, vec_len}
use Rattle.std.specs.List.{All}
use Rattle.fx_turn.specs.Views.{joins}
use Rattle.fx_turn.specs.Seats.{view, IsSeatOf, IsReady}
use Rattle.test_threads.proofs.turns.split_all.Given as goal

abbrev pub invariant-loop : goal.invariant-loop
invariant-loop l = record {
  turn : IsSeatOf l.turn l.maker;
  maker : (view l.maker).number ≡ None;
  joins : joins (view l.maker) ≡ joins (view l.initial.maker);
  splits : (view l.maker).splits ≡ (view l.initial.maker).splits + l.counter;
  ready : All (IsReady l.turn) l.seats.items;
  all : vec_len l.seats ≡ l.counter;
}
