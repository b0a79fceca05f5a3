-- What a call says that has made an act.
use Rattle.std.specs.Prelude.{◌≡◌, Result, Ok, Err, IfOk}
use Rattle.fx_store.specs.Rule.{Ask}
use Rattle.fx_expr.specs.Shapes.{BindingsHave}
use Rattle.fx_spec.specs.CommandTree.{ActTree}
use Rattle.fx_spec.specs.Describe.{Bindings}
use Rattle.fx_spec.specs.Move.{Answered}
use Rattle.fx_spec.specs.Transaction.{Effect, Moves, Changes}
use Rattle.fx_spec.specs.WellShaped.{Scope, IsAct}
use Rattle.fx_session.specs.declared.halt.Halt.{Halt}
use Rattle.fx_session.specs.declared.halt.Halt.TheVariants as halt
use Rattle.fx_session.specs.declared.session.Session.{Session}
use Rattle.fx_session.specs.Halts.{parted}
use Rattle.fx_view.specs.declared.reader.Stop.{Stop}
use Rattle.fx_view.specs.Follows.{GoesBy}
use Rattle.fx_view.specs.Meaning.{Meaning}
use Rattle.fx_view.specs.Own.{own_at, put_all, AreRead}
use Rattle.fx_zip.specs.Fresh.{IsFreshIn}
use Rattle.fx_run.specs.declared.walk.Walk.{Walk}

-- the act's own expression is well shaped with these variables
pub record HasAct (vars : Bindings) (a : ActTree) : Type 0 where
  pub scope : Scope
  pub bindings : BindingsHave vars scope
  pub shaped : IsAct scope a

-- the effect has taken place, and nothing else
abbrev pub Took : {R L : Type 0} → Effect → Walk R L → Walk R L → Type 0
Took (Moves a) old new = (new.zip.address ≡ a) × (new.session.own ≡ old.session.own)
Took (Changes changes) old new = (new.zip.address ≡ old.zip.address) × (new.session.own ≡ put_all old.session.own changes)

-- the call goes by the rule, under the own changes from before
abbrev pub Goes : {R L A X : Type 0} → Meaning R → (X → A) → Session R L → Session R L → Ask A → Result X Stop → Type 0
Goes m view old new rule result = GoesBy m view (own_at old.own) old.reader.now new.reader.now rule result

-- the effect that the rule answers has taken place, or the refusal that it answers has changed nothing; the rule is followed
-- under the own changes from before
abbrev pub HasTakenPlace : {R L : Type 0} → Meaning R → Walk R L → Walk R L → Ask (Answered Effect) → Result (Unit {0}) Halt → Type 0
HasTakenPlace m old new rule (Ok u) =
    (effect : Effect) × (Goes {X = Unit {0}} m (λ u. Ok effect) old.session new.session rule (Ok tt)) × Took effect old new
HasTakenPlace m old new rule (Err (halt.Refused refusal)) =
    (Goes {X = Unit {0}} m (λ u. Err refusal) old.session new.session rule (Ok tt)) × (new.zip.address ≡ old.zip.address) × (new.session.own ≡ old.session.own)
HasTakenPlace m old new rule (Err (halt.Stopped why)) =
    Goes {X = Unit {0}} m (λ u. Ok (Moves old.zip.address)) old.session new.session rule (Err why)

-- the call makes the act whose effect the rule answers
pub record Acts {R L : Type 0} (m : Meaning R) (old new : Walk R L) (rule : Ask (Answered Effect)) (result : Result (Unit {0}) Halt) : Type 0 where
  pub taken : HasTakenPlace m old new rule result
  -- the zipper is fresh over what is known then, unless the call stops
  pub fresh : IfOk (parted result) (λ _. IsFreshIn m new.session new.zip)
  pub root : new.zip.root ≡ old.zip.root
  -- where each path of the own changes was read before, each was after, unless the call stops
  pub read : AreRead old.session.own (m.reads old.session.reader.now) → IfOk (parted result) (λ _. AreRead new.session.own (m.reads new.session.reader.now))
  -- the same reader stays lent
  pub lent : new.session.reader.ghost_name ≡ old.session.reader.ghost_name
