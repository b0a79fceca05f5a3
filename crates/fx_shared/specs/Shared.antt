-- The passes of a shared log.
use Rattle.std.specs.Prelude.{◌≡◌, ℕ, ◌<◌, false, List, All, length, slice_index_or, Some, None}
use Rattle.fx_spec.specs.Plans.{Turn}
use Rattle.fx_spec.specs.Order.{BaseTree}
use Rattle.fx_turn.specs.declared.kept.Kept.{Ghosts}
use Rattle.fx_turn.specs.declared.seat.Seat.{Seat}
use Rattle.fx_turn.specs.Views.{IsNumbered}
use Rattle.fx_turn.specs.Seats.{view, IsSeatOf}
use Rattle.fx_shared.specs.declared.shares.Shares.{Shares}
use Rattle.fx_shared.specs.Passes.{HasBase}

module _ {T : Type 0} {g : Ghosts T BaseTree Turn} where
  -- the pass is one of this log's
  abbrev pub IsPassOf : Shares T → Seat T BaseTree Turn g → Type 0
  IsPassOf shares pass = IsSeatOf shares.turn pass

  -- it has a number and a base besides, and is not in its turn
  pub record IsReadyPass (shares : Shares T) (pass : Seat T BaseTree Turn g) : Type 0 where
    pub turn : IsPassOf shares pass
    pub numbered : IsNumbered (view pass)
    pub idle : (view pass).in_turn ≡ false
    pub based : HasBase (view pass) (λ _. Unit {0})

  -- the pass is the maker's, of a log with this base
  pub record IsMakerOf (base : BaseTree) (shares : Shares T) (pass : Seat T BaseTree Turn g) : Type 0 where
    pub pass_of : IsPassOf shares pass
    pub number : (view pass).number ≡ None
    pub based : (view pass).base ≡ Some base

  -- a pass with no entries yet
  pub record IsFresh (base : BaseTree) (shares : Shares T) (pass : Seat T BaseTree Turn g) : Type 0 where
    pub ready : IsReadyPass shares pass
    pub based : (view pass).base ≡ Some base
    pub none : (view pass).mine ≡ 0

  -- one for each shell in turn
  pub record AreFresh (base : BaseTree) (shares : Shares T) (passes : List (Seat T BaseTree Turn g)) : Type 0 where
    pub each : All (IsFresh base shares) passes
    pub numbered : (k : ℕ) (d : Seat T BaseTree Turn g) → k < length passes → (view (slice_index_or passes k d)).number ≡ Some k
