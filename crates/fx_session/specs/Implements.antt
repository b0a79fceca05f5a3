-- What a call says that follows a rule through a session.
use Rattle.std.specs.Prelude.{◌≡◌, ℕ, ◌+◌, Result}
use Rattle.fx_store.specs.Rule.{Ask}
use Rattle.fx_view.specs.declared.reader.Stop.{Stop}
use Rattle.fx_view.specs.Follows.{Follows}
use Rattle.fx_view.specs.Meaning.{Meaning}
use Rattle.fx_view.specs.Own.{own_at}
use Rattle.fx_spec.specs.Move.{Answered}
use Rattle.fx_session.specs.declared.halt.Halt.{Halt}
use Rattle.fx_session.specs.declared.session.Session.{Session}
use Rattle.fx_session.specs.Answering.{answered}
use Rattle.fx_session.specs.Halts.{split}

-- the call answers what the rule gives, within what it consults and evaluates, and leaves the own changes as they are
pub record Implements {R L A X : Type 0} (m : Meaning R) (view : X → A) (old new : Session R L) (rule : Ask A) (result : Result X Stop) : Type 0 where
  pub own : new.own ≡ old.own
  pub follows : Follows m view (own_at old.own) (old.reader.now, old.steps) (new.reader.now, new.steps) rule result
  -- the same reader stays lent
  pub lent : new.reader.ghost_name ≡ old.reader.ghost_name

-- the session after so many evaluations
abbrev pub ticked_by : {R L : Type 0} → ℕ → Session R L → Session R L
ticked_by n s = record { alloc = s.alloc; reader = s.reader; own = s.own; steps = s.steps + n }

abbrev pub ticked : {R L : Type 0} → Session R L → Session R L
ticked s = ticked_by 1 s

-- the same of a call that the rules may refuse
abbrev pub Answers : {R L A X : Type 0} → Meaning R → (X → A) → Session R L → Session R L → Ask (Answered A) → Result X Halt → Type 0
Answers m view old new rule result = Implements m (answered view) old new rule (split result)
