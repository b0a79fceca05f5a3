use Rattle.std.proofs.Common.{◌≡◌}
use Rattle.fx_turn.specs.Places.{IsSamePlace}
use Rattle.fx_turn.proofs.steps.is_soon_home.Given as goal

abbrev pub invariant-loop : goal.invariant-loop
invariant-loop g l = record { same : IsSamePlace l.initial.place l.place; view : l.place.me ≡ l.initial.place.me }
