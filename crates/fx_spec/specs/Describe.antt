-- The value of a description at a path, as a rule that consults a filestore. It is partial: a description whose file is not
-- there, say, has none.
use Rattle.std.specs.Prelude.{ℕ, zero, suc, ◌+◌, Bool, true, false, cond, List, [], ◌∷◌, Option, Some, None, Result, Ok, Err}
use Rattle.std.specs.Option.{option_map}
use Rattle.fx_store.specs.declared.node.Node.{Node}
use Rattle.fx_store.specs.declared.node.Node.TheVariants.{File, Dir, Link}
use Rattle.fx_store.specs.declared.node.Landing.{Landing}
use Rattle.fx_store.specs.declared.node.Landing.TheVariants.{At}
use Rattle.fx_store.specs.declared.name.PathFault.{PathFault}
use Rattle.fx_store.specs.declared.name.PathFault.TheVariants.{TooDeep}
use Rattle.fx_store.specs.Faults.{extended}
use Rattle.fx_store.specs.Rule.{Ask, Answer, Look, Tick, ◌>>=◌}
use Rattle.fx_store.specs.Resolve.{resolve}
use Rattle.fx_expr.specs.Bindings.{bind}
use Rattle.fx_expr.specs.Eval.{Outcome, eval_of, text_in, names_in, truth_in}
use Rattle.fx_expr.specs.declared.fault.ExprFault.{ExprFault}
use Rattle.fx_expr.specs.ExprTree.{ExprTree}
use Rattle.fx_expr.specs.ShapeTree.{ShapeTree}
use Rattle.fx_expr.specs.Tree.{Tree, TreeRows, no_rows, row}
use Rattle.fx_spec.specs.declared.refusal.Refusal.{Refusal}
use Rattle.fx_spec.specs.SpecTree.{SpecTree}

-- the values of the names bound so far, the newest last
abbrev pub Bindings : Type 0
Bindings = List (List ℕ × Tree)

-- the rule that goes on with a value, where there is one
abbrev pub with_some : {A B : Type 0} → (A → Ask (Option B)) → Option A → Ask (Option B)
with_some next None = Answer None
with_some next (Some a) = next a

-- what a file, a directory and a link hold
abbrev pub file_value : Option Node → Option Tree
file_value (Some (File bytes exec)) = Some (Tree.str bytes)
file_value _ = None

-- whether a file is executable; a description's value does not tell
abbrev pub flag_value : Option Node → Option Tree
flag_value (Some (File bytes exec)) = Some (Tree.bool exec)
flag_value _ = None

abbrev pub dir_value : Option Node → Option Tree
dir_value (Some (Dir names)) = Some (Tree.names names)
dir_value _ = None

abbrev pub link_value : Option Node → Option Tree
link_value (Some (Link text)) = Some (Tree.str text)
link_value _ = None

-- what the node holds where the landing is at one
abbrev pub landed_value : (Option Node → Option Tree) → Landing → Ask (Option Tree)
landed_value held (At q) = Look q (λ n. Answer (held n))
landed_value held _ = Answer None

abbrev pub content : (Option Node → Option Tree) → Bool → List (List ℕ) → Ask (Option Tree)
content held follow p = resolve p follow >>= landed_value held

-- an entry exists where its path lands at one, the last link not followed
abbrev pub is_at : Landing → Bool
is_at (At q) = true
is_at _ = false

abbrev pub exists : List (List ℕ) → Ask Bool
exists p = resolve p false >>= λ l. Answer (is_at l)

-- the path of a focus: the place's path, extended by the text of its expression
abbrev pub extension : Result (List (List ℕ)) PathFault → Result (List (List ℕ)) Refusal
extension (Ok q) = Ok q
extension (Err TooDeep) = Err Refusal.TooDeep
extension (Err _) = Err Refusal.BadName

abbrev pub focus_path : List (List ℕ) → Outcome → Result (List (List ℕ)) Refusal
focus_path p (Ok v) = extension (extended p (text_in v))
focus_path p (Err f) = Err (Refusal.Expr f)

abbrev pub at_focus : (List (List ℕ) → Ask (Option Tree)) → Result (List (List ℕ)) Refusal → Ask (Option Tree)
at_focus part (Ok q) = part q
at_focus part (Err f) = Answer None

-- the rows of a comprehension: the part at each element in turn, up to the first at which it has no value
abbrev pub rows : (List ℕ → Ask (Option Tree)) → List (List ℕ) → Ask (Option TreeRows)
rows part [] = Answer (Some no_rows)
rows part (t ∷ ts) = part t >>= with_some λ v. rows part ts >>= λ rest. Answer (option_map (row t v) rest)

abbrev pub table : (List ℕ → Ask (Option Tree)) → Outcome → Ask (Option Tree)
table part (Ok set) = rows part (names_in set) >>= λ r. Answer (option_map Tree.table r)
table part (Err f) = Answer None

-- an option is there with its part's value, or is not there
abbrev pub option : Ask (Option Tree) → Bool → Ask (Option Tree)
option part false = Answer (Some Tree.nothing)
option part true = part >>= λ v. Answer (option_map Tree.some v)

-- a predicate's value, where its expression is true
abbrev pub truth : Outcome → Option Tree
truth (Ok v) = cond (truth_in v) (Some (Tree.bool true)) None
truth (Err f) = None

-- the values of a call's arguments, or the first fault
abbrev pub onto : Tree → Result (List Tree) ExprFault → Result (List Tree) ExprFault
onto v (Ok vs) = Ok (v ∷ vs)
onto v (Err f) = Err f

abbrev pub then_others : Outcome → Result (List Tree) ExprFault → Result (List Tree) ExprFault
then_others (Ok v) others = onto v others
then_others (Err f) others = Err f

abbrev pub arguments : Bindings → List ExprTree → Result (List Tree) ExprFault
arguments env [] = Ok []
arguments env (e ∷ es) = then_others (eval_of env e) (arguments env es)

-- how many of them are evaluated: up to the first that faults, that one too
abbrev pub unless_fault : Outcome → ℕ → ℕ
unless_fault (Ok v) n = n
unless_fault (Err f) n = 0

abbrev pub argument_evals : Bindings → List ExprTree → ℕ
argument_evals env [] = 0
argument_evals env (e ∷ es) = 1 + unless_fault (eval_of env e) (argument_evals env es)

-- the parameters with these values
abbrev pub with_values : List (List ℕ × ShapeTree) → List Tree → Bindings
with_values (p ∷ ps) (v ∷ vs) = (p.0, v) ∷ with_values ps vs
with_values _ _ = []

-- a rule behind so many evaluations
abbrev pub behind : {A : Type 0} → ℕ → Ask A → Ask A
behind zero rule = rule
behind (suc n) rule = Tick (behind n rule)

-- a call has the value true where its body has a value, in which the parameters alone are bound
abbrev pub is_true : Tree → Tree
is_true v = Tree.bool true

abbrev pub at_body : List (List ℕ × ShapeTree) → (Bindings → Ask (Option Tree)) → Result (List Tree) ExprFault → Ask (Option Tree)
at_body params body (Ok vs) = body (with_values params vs) >>= λ v. Answer (option_map is_true v)
at_body params body (Err f) = Answer None

-- the value of a description at a path, where these names are bound; a focus, a comprehension and a predicate evaluate their
-- expression, and a call its arguments
unfoldable pub value : List (List ℕ) → Bindings → SpecTree → Ask (Option Tree)
value p env SpecTree.file = content file_value true p
value p env SpecTree.dir = content dir_value true p
value p env SpecTree.link = content link_value false p
value p env (SpecTree.focus e s) = Tick (at_focus (λ q. value q env s) (focus_path p (eval_of env e)))
value p env (SpecTree.pair x a b) =
    value p env a >>= with_some λ v. value p (bind env x v) b >>= λ w. Answer (option_map (Tree.pair v) w)
value p env (SpecTree.comp s x e) = Tick (table (λ t. value p (bind env x (Tree.str t)) s) (eval_of env e))
value p env (SpecTree.opt s) = exists p >>= option (value p env s)
value p env (SpecTree.pred e) = Tick (Answer (truth (eval_of env e)))
value p env (SpecTree.call args params s) = behind (argument_evals env args) (at_body params (λ inner. value p inner s) (arguments env args))
value p env (SpecTree.last args params) = Answer None
