-- Passes of a shared log, whatever keeps it, after their shells' work.
use Rattle.std.specs.Prelude.{◌≡◌, ℕ, zero, suc, ◌<◌, List, [], ◌∷◌, length, slice_index_or, Some, None, Result, IfOk}
use Rattle.std.specs.List.{flat_map}
use Rattle.fx_base.specs.declared.NoMemory.{NoMemory}
use Rattle.fx_spec.specs.CommandTree.{CommandTree}
use Rattle.fx_spec.specs.Plans.{Turn, count_of}
use Rattle.fx_spec.specs.Order.{BaseTree, first_numbers}
use Rattle.fx_machine.specs.declared.retry.Retry.{Retry}
use Rattle.fx_diaries.specs.Runs.{HasWorked}
use Rattle.fx_turn.specs.declared.kept.Kept.{Ghosts}
use Rattle.fx_turn.specs.declared.seat.Seat.{Seat}
use Rattle.fx_turn.specs.Views.{joins}
use Rattle.fx_turn.specs.Seats.{view}
use Rattle.fx_shared.specs.declared.shares.Shares.{Shares}
use Rattle.fx_shared.specs.Passes.{LogView}
use Rattle.fx_shared.specs.Shared.{IsReadyPass}
use Rattle.fx_crew.specs.declared.worker.Worked.{Worked}

module _ {T : Type 0} {g : Ghosts T BaseTree Turn} where
  -- all transactions of the shell's script are settled, and these are its retries, by its diary
  pub record IsDone (base : BaseTree) (shares : Shares T) (shell : ℕ) (w : Worked T g) : Type 0 where
    pub ready : IsReadyPass shares w.pass
    pub number : (view w.pass).number ≡ Some shell
    pub based : (view w.pass).base ≡ Some base
    pub all : (view w.pass).mine ≡ count_of base.plan shell
    pub worked : HasWorked base (view w.pass).seen shell w.retries.items

  -- of each shell in turn
  abbrev pub AreDone : BaseTree → Shares T → List (Result (Worked T g) NoMemory) → Type 0
  AreDone base shares all = (k : ℕ) (d : Result (Worked T g) NoMemory) → k < length all → IfOk (slice_index_or all k d) (IsDone base shares k)

  -- the worker is done with the script of the pass's shell
  abbrev pub IsDoneBy : BaseTree → Shares T → Seat T BaseTree Turn g → Worked T g → Type 0
  IsDoneBy base shares pass w = (shell : ℕ) × ((view pass).number ≡ Some shell) × IsDone base shares shell w

-- the shells below a number, each with the number of its transactions; the last comes first
abbrev pub counts_below : List (List (List CommandTree)) → ℕ → List (ℕ × ℕ)
counts_below plan zero = []
counts_below plan (suc n) = (n, count_of plan n) ∷ counts_below plan n

-- the maker has taken in the passes of some shells, from 0 on, each done with its script, and these are their retries, by their
-- diaries
pub record HasGathered (base : BaseTree) (maker : LogView) (retries : List Retry) : Type 0 where
  pub number : maker.number ≡ None
  pub based : maker.base ≡ Some base
  pub joined : maker.joined ≡ counts_below base.plan (joins maker)
  pub own : ℕ → List Retry
  pub worked : (shell : ℕ) → shell < joins maker → HasWorked base maker.seen shell (own shell)
  pub all : retries ≡ flat_map own (first_numbers (joins maker))
