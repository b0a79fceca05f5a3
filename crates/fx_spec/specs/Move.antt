-- What moves and fetches answer, as rules that consult a filestore and evaluate expressions. A refusal is the first that
-- applies, in the order in which each rule asks.
use Rattle.std.specs.Prelude.{ℕ, Bool, true, false, cond, ◌&&◌, List, [], ◌∷◌, Option, Some, None, is_some, Result, Ok, Err}
use Rattle.fx_store.specs.Rule.{Ask, Answer, Tick, ◌>>=◌}
use Rattle.fx_expr.specs.Eval.{Outcome, eval_of, names_in}
use Rattle.fx_expr.specs.Sets.{has_text, least, least_above, greatest_below}
use Rattle.fx_expr.specs.declared.fault.ExprFault.{ExprFault}
use Rattle.fx_expr.specs.ShapeTree.{ShapeTree}
use Rattle.fx_expr.specs.Tree.{Tree}
use Rattle.fx_spec.specs.declared.refusal.Refusal.{Refusal}
use Rattle.fx_spec.specs.SpecTree.{SpecTree}
use Rattle.fx_spec.specs.Describe.{Bindings, content, file_value, flag_value, dir_value, link_value, exists, focus_path, arguments, argument_evals, behind, value}
use Rattle.fx_spec.specs.Place.{Step, First, Second, Inside, Down, Body, Elem, Address, PlaceTree, where_true, place}

-- an answer or a refusal
abbrev pub Answered : Type 0 → Type 0
Answered A = Result A Refusal

-- the rule that goes on with an answer, where it isn't refused
abbrev pub unrefused : {A B : Type 0} → (A → Ask (Answered B)) → Answered A → Ask (Answered B)
unrefused next (Ok a) = next a
unrefused next (Err f) = Answer (Err f)

-- the value of a command's own expression
abbrev pub evaluated : Outcome → Answered Tree
evaluated (Ok v) = Ok v
evaluated (Err f) = Err (Refusal.Expr f)

-- a value that has to be there
abbrev pub needed : {A : Type 0} → Refusal → Option A → Answered A
needed refusal None = Err refusal
needed refusal (Some a) = Ok a

-- the rule for a command that needs its place
abbrev pub at_place : {B : Type 0} → SpecTree → Address → (PlaceTree → Ask (Answered B)) → Ask (Answered B)
at_place root a next = place root a >>= λ at. unrefused next (needed Refusal.NoPlace at)

-- the address with one more step, where the step's path is formed
abbrev pub then_step : {A : Type 0} → Step → Address → Answered A → Answered Address
then_step step a (Ok q) = Ok (step ∷ a)
then_step step a (Err f) = Err f

-- the element of a comprehension that is asked for
abbrev pub element : Address → Option (List ℕ) → Answered Address
element a None = Err Refusal.NoElement
element a (Some t) = Ok (Elem t ∷ a)

-- a choice among the elements of a comprehension's set
abbrev pub chosen : Address → (List (List ℕ) → Option (List ℕ)) → Outcome → Answered Address
chosen a choice (Ok set) = element a (choice (names_in set))
chosen a choice (Err f) = Err (Refusal.Expr f)

-- the answer where a call's arguments have values, or their first fault
abbrev pub with_arguments : {A : Type 0} → Answered A → Result (List Tree) ExprFault → Answered A
with_arguments answer (Ok vs) = answer
with_arguments answer (Err f) = Err (Refusal.Expr f)

-- `into`: to the first part, to the least element, inside an entry, or into a call's body
abbrev pub go_into : Address → List (List ℕ) → Bindings → SpecTree → Ask (Answered Address)
go_into a p env (SpecTree.pair x s₁ s₂) = Answer (Ok (First ∷ a))
go_into a p env (SpecTree.comp s x e) = Tick (Answer (chosen a least (eval_of env e)))
go_into a p env (SpecTree.opt s) = exists p >>= λ there. Answer (cond there (Ok (Inside ∷ a)) (Err Refusal.Lacks))
go_into a p env (SpecTree.call args params s) = behind (argument_evals env args) (Answer (with_arguments (Ok (Body ∷ a)) (arguments env args)))
go_into a p env (SpecTree.last args params) =
    behind (argument_evals env args) (Answer (with_arguments (Err Refusal.TooUnfolded) (arguments env args)))
go_into a p env _ = Answer (Err Refusal.NoStep)

-- `to`: to the element that is this text
abbrev pub go_to : List ℕ → Address → List (List ℕ) → Bindings → SpecTree → Ask (Answered Address)
go_to t a p env (SpecTree.comp s x e) = Tick (Answer (chosen a (λ set. where_true (has_text t set) t) (eval_of env e)))
go_to t a p env _ = Answer (Err Refusal.NoStep)

-- `down`: to the part at the focus's path, which need not be there
abbrev pub go_down : Address → List (List ℕ) → Bindings → SpecTree → Ask (Answered Address)
go_down a p env (SpecTree.focus e s) = Tick (Answer (then_step Down a (focus_path p (eval_of env e))))
go_down a p env _ = Answer (Err Refusal.NoStep)

-- to another element of the comprehension around the place, by its set as it is now
abbrev pub another : Address → (List (List ℕ) → Option (List ℕ)) → List (List ℕ) → Bindings → SpecTree → Ask (Answered Address)
another a choice p env (SpecTree.comp s x e) = Tick (Answer (chosen a choice (eval_of env e)))
another a choice p env _ = Answer (Err Refusal.NoStep)

-- `next`: from the first part, which needs a value, to the second; or to the next greater element
abbrev pub go_next : SpecTree → Address → Ask (Answered Address)
go_next root (First ∷ a) =
    at_place root (First ∷ a) λ at. value at.path at.env at.spec >>= λ v. Answer (cond (is_some v) (Ok (Second ∷ a)) (Err Refusal.Lacks))
go_next root (Elem t ∷ a) =
    at_place root (Elem t ∷ a) λ at. at_place root a λ above. another a (least_above t) above.path above.env above.spec
go_next root a = at_place root a λ at. Answer (Err Refusal.NoStep)

-- `prev`: from the second part to the first, or to the next smaller element
abbrev pub go_prev : SpecTree → Address → Ask (Answered Address)
go_prev root (Second ∷ a) = at_place root (Second ∷ a) λ at. Answer (Ok (First ∷ a))
go_prev root (Elem t ∷ a) =
    at_place root (Elem t ∷ a) λ at. at_place root a λ above. another a (greatest_below t) above.path above.env above.spec
go_prev root a = at_place root a λ at. Answer (Err Refusal.NoStep)

-- `out`: back from a part, an element, an entry or a body; `up`: back from a focus's path
abbrev pub go_out : Address → Answered Address
go_out [] = Err Refusal.NoStep
go_out (Down ∷ a) = Err Refusal.NoStep
go_out (step ∷ a) = Ok a

abbrev pub go_up : Address → Answered Address
go_up (Down ∷ a) = Ok a
go_up a = Err Refusal.NoStep

-- the shape of a description's value
abbrev pub value_shape : SpecTree → ShapeTree
value_shape SpecTree.file = ShapeTree.str
value_shape SpecTree.dir = ShapeTree.names
value_shape SpecTree.link = ShapeTree.str
value_shape (SpecTree.focus e s) = value_shape s
value_shape (SpecTree.pair x a b) = ShapeTree.pair (value_shape a) (value_shape b)
value_shape (SpecTree.comp s x e) = ShapeTree.table (value_shape s)
value_shape (SpecTree.opt s) = ShapeTree.opt (value_shape s)
value_shape _ = ShapeTree.bool

-- the shape of what a fetch gives at a form; a pair and a call have no fetch, and a file has another, of its flag
abbrev pub fetch_shape : SpecTree → Option ShapeTree
fetch_shape SpecTree.file = Some ShapeTree.str
fetch_shape SpecTree.dir = Some ShapeTree.names
fetch_shape SpecTree.link = Some ShapeTree.str
fetch_shape (SpecTree.focus e s) = Some ShapeTree.str
fetch_shape (SpecTree.comp s x e) = Some ShapeTree.names
fetch_shape (SpecTree.opt s) = Some ShapeTree.bool
fetch_shape (SpecTree.pred e) = Some ShapeTree.bool
fetch_shape _ = None

abbrev pub same_shape : ShapeTree → ShapeTree → Bool
same_shape ShapeTree.str ShapeTree.str = true
same_shape ShapeTree.int ShapeTree.int = true
same_shape ShapeTree.bool ShapeTree.bool = true
same_shape ShapeTree.names ShapeTree.names = true
same_shape (ShapeTree.pair a b) (ShapeTree.pair c d) = same_shape a c && same_shape b d
same_shape (ShapeTree.opt a) (ShapeTree.opt b) = same_shape a b
same_shape (ShapeTree.table a) (ShapeTree.table b) = same_shape a b
same_shape _ _ = false

abbrev pub has_fetch_shape : ShapeTree → Option ShapeTree → Bool
has_fetch_shape wanted None = false
has_fetch_shape wanted (Some shape) = same_shape shape wanted

-- what a fetch gives at a form: a file's bytes, a directory's names, a link's text, a focus's text, a comprehension's set,
-- whether an option's entry is there, or whether a predicate is true
abbrev pub fetched : List (List ℕ) → Bindings → SpecTree → Ask (Answered Tree)
fetched p env SpecTree.file = content file_value true p >>= λ v. Answer (needed Refusal.Lacks v)
fetched p env SpecTree.dir = content dir_value true p >>= λ v. Answer (needed Refusal.Lacks v)
fetched p env SpecTree.link = content link_value false p >>= λ v. Answer (needed Refusal.Lacks v)
fetched p env (SpecTree.focus e s) = Tick (Answer (evaluated (eval_of env e)))
fetched p env (SpecTree.comp s x e) = Tick (Answer (evaluated (eval_of env e)))
fetched p env (SpecTree.opt s) = exists p >>= λ there. Answer (Ok (Tree.bool there))
fetched p env (SpecTree.pred e) = Tick (Answer (evaluated (eval_of env e)))
fetched p env _ = Answer (Err Refusal.WrongForm)

-- the rule, where the form has the wanted shape
abbrev pub of_shape : Bool → Ask (Answered Tree) → Ask (Answered Tree)
of_shape false rule = Answer (Err Refusal.WrongForm)
of_shape true rule = rule

-- a truth value that is fetched at a file is the file's flag
abbrev pub asks_flag : ShapeTree → SpecTree → Bool
asks_flag ShapeTree.bool SpecTree.file = true
asks_flag _ _ = false

abbrev pub flag_at : List (List ℕ) → Ask (Answered Tree)
flag_at p = content flag_value true p >>= λ v. Answer (needed Refusal.Lacks v)

-- `fetch x : shape` and `value x : shape`
abbrev pub fetch_at : ShapeTree → PlaceTree → Ask (Answered Tree)
fetch_at shape at =
    let form = of_shape (has_fetch_shape shape (fetch_shape at.spec)) (fetched at.path at.env at.spec) in
    cond (asks_flag shape at.spec) (flag_at at.path) form

abbrev pub whole_at : ShapeTree → PlaceTree → Ask (Answered Tree)
whole_at shape at =
    of_shape (same_shape (value_shape at.spec) shape) (value at.path at.env at.spec >>= λ v. Answer (needed Refusal.Lacks v))

-- `validate x`: whether there is a value
abbrev pub validate_at : PlaceTree → Ask (Answered Tree)
validate_at at = value at.path at.env at.spec >>= λ v. Answer (Ok (Tree.bool (is_some v)))
