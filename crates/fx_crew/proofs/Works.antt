-- Workers that are done, and their passes.
use Rattle.std.proofs.Common.{◌≡◌, ℕ, ◌<◌, List, length, Some, Result, Ok, Err, sym, subst, ◌∙◌}
use Rattle.std.specs.Prelude.{IfOk, slice_index_or}
use Rattle.std.proofs.lemmas.Option.{same_Some}
use Rattle.fx_base.specs.declared.NoMemory.{NoMemory}
use Rattle.fx_spec.specs.Plans.{Turn}
use Rattle.fx_spec.specs.Order.{BaseTree}
use Rattle.fx_turn.specs.declared.kept.Kept.{Ghosts}
use Rattle.fx_turn.specs.declared.seat.Seat.{Seat}
use Rattle.fx_turn.specs.Seats.{view}
use Rattle.fx_shared.specs.declared.shares.Shares.{Shares}
use Rattle.fx_crew.specs.declared.worker.Worked.{Worked}
use Rattle.fx_crew.specs.Workers.{IsDone, IsDoneBy, AreDone}

module _ {E X : Type 0} (P Q S : X → Type 0) (f : (x : X) → P x → Q x → S x) where
  pub mapped : (r : Result X E) → IfOk r P → IfOk r Q → IfOk r S
  mapped (Ok x) p q = f x p q
  mapped (Err e) p q = tt

module _ {T : Type 0} {g : Ghosts T BaseTree Turn} where
  -- the worker is done with the script of the shell that the pass is numbered by
  pub done_by : (base : BaseTree) (shares : Shares T) (pass : Seat T BaseTree Turn g) (k : ℕ) (r : Result (Worked T g) NoMemory) → (view pass).number ≡ Some k → IfOk r (IsDoneBy base shares pass) → IfOk r (IsDone base shares k)
  done_by base shares pass k (Ok w) number d = subst (λ shell. IsDone base shares shell w) (same_Some d.0 k (sym d.1 ∙ number)) d.2
  done_by base shares pass k (Err e) number d = tt

  -- the worker at a place among all
  pub done_at : (base : BaseTree) (shares : Shares T) (all : List (Result (Worked T g) NoMemory)) (k : ℕ) (r : Result (Worked T g) NoMemory) (w : Worked T g) → AreDone base shares all → k < length all → r ≡ slice_index_or all k r → r ≡ Ok w → IsDone base shares k w
  done_at base shares all k r w done h at ok = subst (λ r. IfOk r (IsDone base shares k)) (sym at ∙ ok) (done k r h)
