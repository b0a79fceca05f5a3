-- How often a value, a place, a move and a fetch evaluate an expression, form by form.
use Rattle.std.specs.Prelude.{◌≡◌, ℕ, ◌+◌, cond, List, [], ◌∷◌, Option, Some, None, Result, Ok, Err}
use Rattle.fx_store.specs.Rule.{answer, ticks}
use Rattle.fx_store.specs.Whole.{Store}
use Rattle.fx_expr.specs.Bindings.{bind}
use Rattle.fx_expr.specs.Eval.{Outcome, eval_of, names_in}
use Rattle.fx_expr.specs.declared.fault.ExprFault.{ExprFault}
use Rattle.fx_expr.specs.ShapeTree.{ShapeTree}
use Rattle.fx_expr.specs.Tree.{Tree}
use Rattle.fx_spec.specs.declared.refusal.Refusal.{Refusal}
use Rattle.fx_spec.specs.SpecTree.{SpecTree}
use Rattle.fx_spec.specs.Describe.{Bindings, exists, focus_path, arguments, argument_evals, with_values, value}
use Rattle.fx_spec.specs.Move.{go_into, go_to, go_down, another, fetched, flag_at}
use Rattle.fx_spec.specs.Place.{Step, Second, Down, Body, Elem, Address, place}

-- at a focus once, and in its part, where its path is formed
abbrev pub focus_evals : (List (List ℕ) → ℕ) → Result (List (List ℕ)) Refusal → ℕ
focus_evals part (Ok q) = 1 + part q
focus_evals part (Err f) = 1

-- where there is a value
abbrev pub evals_with : {A : Type 0} → (A → ℕ) → Option A → ℕ
evals_with count None = 0
evals_with count (Some a) = count a

-- in the part at each element in turn, up to the first at which it has no value, that one too
abbrev pub rows_evals : (List ℕ → ℕ) → (List ℕ → Option Tree) → List (List ℕ) → ℕ
rows_evals count part [] = 0
rows_evals count part (t ∷ ts) = count t + evals_with (λ v. rows_evals count part ts) (part t)

-- at a comprehension once, and in its part at the elements, where its set has a value
abbrev pub table_evals : (List ℕ → ℕ) → (List ℕ → Option Tree) → Outcome → ℕ
table_evals count part (Ok set) = 1 + rows_evals count part (names_in set)
table_evals count part (Err f) = 1

-- in a body, where the arguments have values
abbrev pub body_evals : List (List ℕ × ShapeTree) → (Bindings → ℕ) → Result (List Tree) ExprFault → ℕ
body_evals params count (Ok vs) = count (with_values params vs)
body_evals params count (Err f) = 0

unfoldable pub evals : Store → List (List ℕ) → Bindings → SpecTree → ℕ
evals S p env SpecTree.file = 0
evals S p env SpecTree.dir = 0
evals S p env SpecTree.link = 0
evals S p env (SpecTree.focus e s) = focus_evals (λ q. evals S q env s) (focus_path p (eval_of env e))
evals S p env (SpecTree.pair x a b) = evals S p env a + evals_with (λ v. evals S p (bind env x v) b) (answer S (value p env a))
evals S p env (SpecTree.comp s x e) =
    table_evals (λ t. evals S p (bind env x (Tree.str t)) s) (λ t. answer S (value p (bind env x (Tree.str t)) s)) (eval_of env e)
evals S p env (SpecTree.opt s) = cond (answer S (exists p)) (evals S p env s) 0
evals S p env (SpecTree.pred e) = 1
evals S p env (SpecTree.call args params s) = argument_evals env args + body_evals params (λ inner. evals S p inner s) (arguments env args)
evals S p env (SpecTree.last args params) = 0

-- the rule of a value evaluates just as often
abbrev pub ValuesEvaluate : Type 0
ValuesEvaluate = (S : Store) (p : List (List ℕ)) (env : Bindings) (s : SpecTree) → ticks S (value p env s) ≡ evals S p env s

-- a step to a second part as often as the first part's value; to an element and down once; to a first part and inside never
abbrev pub step_evals : Store → Step → List (List ℕ) → Bindings → SpecTree → ℕ
step_evals S Second p env (SpecTree.pair x a b) = evals S p env a
step_evals S (Elem t) p env (SpecTree.comp s x e) = 1
step_evals S Down p env (SpecTree.focus e s) = 1
step_evals S Body p env (SpecTree.call args params s) = argument_evals env args
step_evals S _ p env _ = 0

-- an address as often as its steps
abbrev pub address_evals : Store → SpecTree → Address → ℕ
address_evals S root [] = 0
address_evals S root (step ∷ above) =
    address_evals S root above + evals_with (λ at. step_evals S step at.path at.env at.spec) (answer S (place root above))

-- a move into once at a comprehension, at a call as often as it has arguments up to the first that faults
abbrev pub into_evals : Bindings → SpecTree → ℕ
into_evals env (SpecTree.comp s x e) = 1
into_evals env (SpecTree.call args params s) = argument_evals env args
into_evals env (SpecTree.last args params) = argument_evals env args
into_evals env _ = 0

-- a move to an element and to another once, at a comprehension
abbrev pub table_move_evals : SpecTree → ℕ
table_move_evals (SpecTree.comp s x e) = 1
table_move_evals _ = 0

-- a move down once, at a focus
abbrev pub down_evals : SpecTree → ℕ
down_evals (SpecTree.focus e s) = 1
down_evals _ = 0

-- a fetch once, at a focus, a comprehension and a predicate; that of a flag never
abbrev pub fetch_evals : SpecTree → ℕ
fetch_evals (SpecTree.focus e s) = 1
fetch_evals (SpecTree.comp s x e) = 1
fetch_evals (SpecTree.pred e) = 1
fetch_evals _ = 0

-- the rules evaluate just as often
abbrev pub PlacesEvaluate : Type 0
PlacesEvaluate = (S : Store) (root : SpecTree) (a : Address) → ticks S (place root a) ≡ address_evals S root a

pub record MovesEvaluate (S : Store) (a : Address) (p : List (List ℕ)) (env : Bindings) (s : SpecTree) : Type 0 where
  pub into : ticks S (go_into a p env s) ≡ into_evals env s
  pub to_text : (t : List ℕ) → ticks S (go_to t a p env s) ≡ table_move_evals s
  pub to_other : (choice : List (List ℕ) → Option (List ℕ)) → ticks S (another a choice p env s) ≡ table_move_evals s
  pub down : ticks S (go_down a p env s) ≡ down_evals s
  pub fetch : ticks S (fetched p env s) ≡ fetch_evals s
  pub flag : ticks S (flag_at p) ≡ 0

abbrev pub MovesEvaluateOnce : Type 0
MovesEvaluateOnce = (S : Store) (a : Address) (p : List (List ℕ)) (env : Bindings) (s : SpecTree) → MovesEvaluate S a p env s
