use Rattle.std.proofs.Common.{◌≡◌, length}
use Rattle.fx_turn.specs.Seats.{view}
use Rattle.fx_shared.specs.Crews.{base_of}
use Rattle.fx_shared.specs.Shared.{AreFresh, IsMakerOf}
use Rattle.fx_shared.proofs.passes.passes_of.Given as goal

abbrev pub invariant-loop-shell : goal.invariant-loop-shell
invariant-loop-shell g l = record {
  maker : IsMakerOf (base_of l.crew) l.crew.shares.now l.maker;
  splits : (view l.maker).splits ≡ l._shell;
  joined : (view l.maker).joined ≡ (view l.initial.maker).joined;
  all : length l.passes.items ≡ l._shell;
  fresh : AreFresh (base_of l.crew) l.crew.shares.now l.passes.items;
}
