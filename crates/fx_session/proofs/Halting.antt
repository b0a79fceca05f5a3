-- Errors that `?` passes on, as the rules have them.
use Rattle.std.proofs.Common.{◌≡◌, Result, Err, refl, ap, sym, subst}
use Rattle.std.specs.Prelude.{IsErrAnd}
use Rattle.fx_store.specs.Rule.{Ask, ◌>>=◌}
use Rattle.fx_spec.specs.declared.refusal.Refusal.{Refusal}
use Rattle.fx_spec.specs.Move.{Answered, unrefused}
use Rattle.fx_view.specs.declared.reader.Stop.{Stop}
use Rattle.fx_view.specs.declared.reader.Stop.TheVariants as stop
use Rattle.fx_view.specs.Meaning.{Meaning}
use Rattle.fx_base.proofs.Errors.{err_of}
use Rattle.fx_session.specs.declared.halt.Halt.{Halt}
use Rattle.fx_session.specs.declared.halt.Halt.TheVariants as halt
use Rattle.fx_session.specs.declared.session.Session.{Session}
use Rattle.fx_session.specs.Answering.{answered}
use Rattle.fx_session.specs.Halts.{split}
use Rattle.fx_session.specs.Implements.{Implements, Answers}
use Rattle.fx_session.proofs.Calls.{refused, then_answers, stops}

-- ---- a call that stops

module _ {X : Type 0} (r : Result X Halt) where
  pub split_stopped : (why : Stop) → IsErrAnd r (λ h. h ≡ halt.Stopped why) → split r ≡ Err why
  split_stopped why is = ap split (err_of r (halt.Stopped why) is)

-- ---- a call that ends at once

module _ {R L B Y : Type 0} {m : Meaning R} {then_view : Y → B} {s : Session R L} where
  -- for want of memory
  pub no_memory_at_once : (rule : Ask (Answered B)) (r : Result Y Halt) → IsErrAnd r (λ h. h ≡ halt.Stopped stop.NoMemory) → Answers m then_view s s rule r
  no_memory_at_once rule r is =
      subst (λ (o : Result (Result Y Refusal) Stop). Implements m (answered then_view) s s rule o) (sym (split_stopped r stop.NoMemory is)) (refused rule (Err stop.NoMemory) refl)

-- ---- a call that ends behind a first one

module _ {R L A B X Y : Type 0} {m : Meaning R} {view : X → A} {then_view : Y → B} {old mid : Session R L} where
  -- the first call stops
  pub stop_halts : {why : Stop} (rule : Ask A) (f : A → Ask (Answered B)) (r : Result Y Halt) → IsErrAnd r (λ h. h ≡ halt.Stopped why) → Implements {A = A} {X = X} m view old mid rule (Err why) → Answers m then_view old mid (rule >>= f) r
  stop_halts {why = why} rule f r is first =
      subst (λ (o : Result (Result Y Refusal) Stop). Implements m (answered then_view) old mid (rule >>= f) o) (sym (split_stopped r why is)) (stops rule f (Err why) refl first)

  -- where a first call is refused or stopped, so is the whole
  pub step_halt : (rule : Ask (Answered A)) (next : A → Ask (Answered B)) (e : Halt) → Answers {A = A} {X = X} m view old mid rule (Err e) → Answers {A = B} {X = Y} m then_view old mid (rule >>= unrefused next) (Err e)
  step_halt rule next (halt.Refused refusal) first = then_answers rule (unrefused next) (Err refusal) first refl
  step_halt rule next (halt.Stopped why) first = stops rule (unrefused next) (Err why) refl first
