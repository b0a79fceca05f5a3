-- What a call says that consults nothing: it answers what a rule answers, and evaluates no more often.
use Rattle.std.specs.Prelude.{◌≡◌, ℕ, ◌+◌, ◌≤◌, List, [], ◌∷◌, Option, Some, None, Result, Ok, Err}
use Rattle.fx_store.specs.Rule.{Ask, Answer, Look, Tick}
use Rattle.fx_expr.specs.Eval.{Outcome, names_in}
use Rattle.fx_expr.specs.ExprTree.{ExprTree}
use Rattle.fx_expr.specs.Shapes.{IsWellShaped}
use Rattle.fx_expr.specs.Tree.{Tree}
use Rattle.fx_expr.specs.declared.fault.ExprFault.{ExprFault}
use Rattle.fx_spec.specs.declared.refusal.Refusal.{Refusal}
use Rattle.fx_spec.specs.Describe.{Bindings}
use Rattle.fx_spec.specs.Move.{Answered}
use Rattle.fx_view.specs.declared.reader.Stop.{Stop}
use Rattle.fx_view.specs.declared.reader.Stop.TheVariants as stop
use Rattle.fx_session.specs.declared.halt.Halt.{Halt}
use Rattle.fx_session.specs.declared.session.Session.{Session}
use Rattle.fx_session.specs.declared.halt.Halt.TheVariants as halt

-- the answer of a rule that consults nothing
abbrev pub told : {A : Type 0} → Ask A → Option A
told (Answer a) = Some a
told (Look p next) = None
told (Tick rule) = told rule

-- how often such a rule evaluates
abbrev pub costs : {A : Type 0} → Ask A → ℕ
costs (Answer a) = 0
costs (Look p next) = 0
costs (Tick rule) = 1 + costs rule

-- nothing but the count of a session's evaluations changes
abbrev pub OnlyCounts : {R L : Type 0} → Session R L → Session R L → Type 0
OnlyCounts old new = new ≡ record { alloc = old.alloc; reader = old.reader; own = old.own; steps = new.steps }

-- the answer, unless memory was refused
abbrev pub Says : {A X : Type 0} → (X → A) → Option A → Result X Stop → Type 0
Says view answer (Ok x) = answer ≡ Some (view x)
Says view answer (Err stop.NoMemory) = Unit {0}
Says view answer (Err (stop.Needs p)) = ⊥

pub record TellsWithin {A X : Type 0} (view : X → A) (was now : ℕ) (rule : Ask A) (result : Result X Stop) : Type 0 where
  pub says : Says view (told rule) result
  pub most : now ≤ was + costs rule

-- the set of a comprehension, or the fault of its expression
abbrev pub set_answer : Outcome → Answered (List (List ℕ))
set_answer (Ok v) = Ok (names_in v)
set_answer (Err f) = Err (Refusal.Expr f)

-- the names in a call's body, or the first fault of its arguments
abbrev pub names_answer : Result Bindings ExprFault → Answered Bindings
names_answer (Ok names) = Ok names
names_answer (Err f) = Err (Refusal.Expr f)

-- nothing, where each argument has a value, or their first fault
abbrev pub arguments_tried : Result (List Tree) ExprFault → Answered (Unit {0})
arguments_tried (Ok vs) = Ok tt
arguments_tried (Err f) = Err (Refusal.Expr f)

-- each argument of a call is well shaped
abbrev pub AreWellShaped : Bindings → List ExprTree → Type 0
AreWellShaped env [] = Unit {0}
AreWellShaped env (e ∷ es) = IsWellShaped env e × AreWellShaped env es

-- what there is where a call is not refused
abbrev pub given : {X : Type 0} → Result X Halt → Result (Option X) Stop
given (Ok x) = Ok (Some x)
given (Err (halt.Refused refusal)) = Ok None
given (Err (halt.Stopped why)) = Err why
