use Rattle.std.proofs.Common.{◌≡◌, length}
use Rattle.fx_turn.specs.Seats.{view}
use Rattle.fx_turn.specs.Views.{joins}
use Rattle.fx_shared.specs.Shared.{IsPassOf}
use Rattle.fx_shared.specs.Crews.{base_of}
use Rattle.fx_crew.specs.Workers.{HasGathered}
use Rattle.fx_workers.proofs.running.gather.Given as goal

abbrev pub invariant-loop-worked : goal.invariant-loop-worked
invariant-loop-worked g l = record {
  pass : IsPassOf l.crew.shares.now l.maker;
  splits : (view l.maker).splits ≡ (view l.initial.maker).splits;
  joins : joins (view l.maker) ≡ length l.yielded;
  gathered : HasGathered (base_of l.crew) (view l.maker) l.retries;
}
