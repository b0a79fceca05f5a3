use Rattle.fx_turn.specs.Seats.{IsReady}
use Rattle.test_threads.proofs.turns.append_all.Given as goal

abbrev pub invariant-loop : goal.invariant-loop
invariant-loop g l = IsReady l.turn l.seat
