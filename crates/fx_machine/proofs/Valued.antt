-- The rules of values, places, moves and questions look at paths alone, and each place has a path.
use Rattle.std.proofs.Common.{◌≡◌, ℕ, zero, suc, Bool, true, false, cond, refl, List, [], ◌∷◌, ◌++◌, length, Option, Some, None, is_some, Result, Ok, Err, nat_lt}
use Rattle.std.specs.List.{All, list_all, slice_split}
use Rattle.std.specs.Option.{option_map}
use Rattle.std.proofs.lemmas.Bool.{ltb-false}
use Rattle.std.proofs.lemmas.List.Elements.{All-append}
use Rattle.fx_store.specs.declared.node.Node.{Node}
use Rattle.fx_store.specs.declared.node.Landing.{Landing}
use Rattle.fx_store.specs.declared.node.Landing.TheVariants.{At, Absent, Blocked, TooManyLinks}
use Rattle.fx_store.specs.declared.name.PathFault.TheVariants.{BadName, TooDeep}
use Rattle.fx_store.specs.Faults.{path_of}
use Rattle.fx_store.specs.Names.{is_slash, is_name, IsName, IsPath}
use Rattle.fx_store.specs.Resolve.{resolve}
use Rattle.fx_store.specs.Rule.{Ask, Answer, ◌>>=◌}
use Rattle.fx_store.proofs.WholeStores.{IsPath-root}
use Rattle.fx_store.proofs.PathLists.{all_names}
use Rattle.fx_expr.specs.Bindings.{bind}
use Rattle.fx_expr.specs.Eval.{Outcome, eval_of, text_in, names_in}
use Rattle.fx_expr.specs.Sets.{least_above, greatest_below}
use Rattle.fx_expr.specs.declared.fault.ExprFault.{ExprFault}
use Rattle.fx_expr.specs.ShapeTree.{ShapeTree}
use Rattle.fx_expr.specs.Tree.{Tree, row}
use Rattle.fx_spec.specs.declared.refusal.Refusal.{Refusal}
use Rattle.fx_spec.specs.SpecTree.{SpecTree}
use Rattle.fx_spec.specs.Describe.{Bindings, with_some, file_value, flag_value, dir_value, link_value, landed_value, content, is_at, exists, extension, focus_path, at_focus, rows, table, option, arguments, argument_evals, with_values, behind, is_true, at_body, value}
use Rattle.fx_spec.specs.Place.{Step, First, Second, Inside, Down, Body, Elem, Address, PlaceTree, placed, where_true, has_element, at_path, in_body, lead, place}
use Rattle.fx_spec.specs.Move.{Answered, unrefused, needed, at_place, with_arguments, go_into, go_to, go_down, another, go_next, go_prev, value_shape, fetch_shape, same_shape, has_fetch_shape, fetched, of_shape, asks_flag, flag_at, fetch_at, whole_at, validate_at}
use Rattle.fx_machine.specs.Asks.{AsksPaths}
use Rattle.fx_machine.proofs.Asking.{asks_then, IsLanding}
use Rattle.fx_machine.proofs.Resolving.{resolve_asks}

-- ------------------------------------------------------------------------------------------------------------- rules of any answer

-- the rule looks at paths alone, whatever it answers
abbrev pub Asks : {A : Type 0} → Ask A → Type 0
Asks rule = AsksPaths (λ _. Unit {0}) rule

asks_any : {A B : Type 0} (rule : Ask A) (f : A → Ask B) → Asks rule → ((a : A) → Asks (f a)) → Asks (rule >>= f)
asks_any rule f is next = asks_then (λ _. Unit {0}) (λ _. Unit {0}) rule f is (λ a _. next a)

with_some_asks : {A B : Type 0} (next : A → Ask (Option B)) (o : Option A) → ((a : A) → Asks (next a)) → Asks (with_some next o)
with_some_asks next None each = tt
with_some_asks next (Some a) each = each a

cond_asks : {A : Type 0} (b : Bool) (one other : Ask A) → Asks one → Asks other → Asks (cond b one other)
cond_asks true one other is isnt = is
cond_asks false one other is isnt = isnt

behind_asks : {A : Type 0} (P : A → Type 0) (n : ℕ) (rule : Ask A) → AsksPaths P rule → AsksPaths P (behind n rule)
behind_asks P zero rule is = is
behind_asks P (suc n) rule is = behind_asks P n rule is

-- ------------------------------------------------------------------------------------------------------------- values

landed_asks : (held : Option Node → Option Tree) (l : Landing) → IsLanding l → Asks (landed_value held l)
landed_asks held (At q) is = (is, λ found may. tt)
landed_asks held (Absent here names) is = tt
landed_asks held (Blocked q) is = tt
landed_asks held TooManyLinks is = tt

content_asks : (held : Option Node → Option Tree) (follow : Bool) (p : List (List ℕ)) → IsPath p → Asks (content held follow p)
content_asks held follow p is = asks_then IsLanding (λ _. Unit {0}) (resolve p follow) (landed_value held) (resolve_asks p follow is) (landed_asks held)

exists_asks : (p : List (List ℕ)) → IsPath p → Asks (exists p)
exists_asks p is = asks_then IsLanding (λ _. Unit {0}) (resolve p false) (λ l. Answer (is_at l)) (resolve_asks p false is) (λ l _. tt)

-- a focus that has a place has it at a path
abbrev IsAnyPath : Result (List (List ℕ)) Refusal → Type 0
IsAnyPath (Ok q) = IsPath q
IsAnyPath (Err f) = Unit {0}

focus_is_path : (p : List (List ℕ)) (o : Outcome) → IsPath p → IsAnyPath (focus_path p o)
focus_is_path p (Err f) is = tt
focus_is_path p (Ok v) is = at (slice_split is_slash (text_in v)) (list_all is_name (slice_split is_slash (text_in v))) refl
  where
    short : (q : List (List ℕ)) (b : Bool) → nat_lt 64 (length q) ≡ b → All IsName q → IsAnyPath (extension (cond b (Err TooDeep) (Ok q)))
    short q true f names = tt
    short q false f names = record { names = names; short = ltb-false 64 (length q) f }

    at : (more : List (List ℕ)) (b : Bool) → list_all is_name more ≡ b → IsAnyPath (extension (cond b (path_of (p ++ more)) (Err BadName)))
    at more true f = short (p ++ more) (nat_lt 64 (length (p ++ more))) refl (All-append IsName p more is.names (all_names more f))
    at more false f = tt

at_focus_asks : (part : List (List ℕ) → Ask (Option Tree)) (x : Result (List (List ℕ)) Refusal) → IsAnyPath x → ((q : List (List ℕ)) → IsPath q → Asks (part q)) → Asks (at_focus part x)
at_focus_asks part (Ok q) is each = each q is
at_focus_asks part (Err f) is each = tt

rows_asks : (part : List ℕ → Ask (Option Tree)) → ((t : List ℕ) → Asks (part t)) → (ts : List (List ℕ)) → Asks (rows part ts)
rows_asks part each [] = tt
rows_asks part each (t ∷ ts) =
    asks_any (part t) (with_some λ v. rows part ts >>= λ rest. Answer (option_map (row t v) rest)) (each t)
    (λ o. with_some_asks (λ v. rows part ts >>= λ rest. Answer (option_map (row t v) rest)) o
    (λ v. asks_any (rows part ts) (λ rest. Answer (option_map (row t v) rest)) (rows_asks part each ts) (λ rest. tt)))

table_asks : (part : List ℕ → Ask (Option Tree)) (o : Outcome) → ((t : List ℕ) → Asks (part t)) → Asks (table part o)
table_asks part (Ok set) each = asks_any (rows part (names_in set)) (λ r. Answer (option_map Tree.table r)) (rows_asks part each (names_in set)) (λ r. tt)
table_asks part (Err f) each = tt

option_asks : (rule : Ask (Option Tree)) (b : Bool) → Asks rule → Asks (option rule b)
option_asks rule false is = tt
option_asks rule true is = asks_any rule (λ v. Answer (option_map Tree.some v)) is (λ v. tt)

body_asks : (params : List (List ℕ × ShapeTree)) (body : Bindings → Ask (Option Tree)) (x : Result (List Tree) ExprFault) → ((env : Bindings) → Asks (body env)) → Asks (at_body params body x)
body_asks params body (Ok vs) each = asks_any (body (with_values params vs)) (λ v. Answer (option_map is_true v)) (each (with_values params vs)) (λ v. tt)
body_asks params body (Err f) each = tt

pub value_asks : (p : List (List ℕ)) (env : Bindings) (s : SpecTree) → IsPath p → Asks (value p env s)
unfolding value
value_asks p env SpecTree.file is = content_asks file_value true p is
value_asks p env SpecTree.dir is = content_asks dir_value true p is
value_asks p env SpecTree.link is = content_asks link_value false p is
value_asks p env (SpecTree.focus e s) is =
    at_focus_asks (λ q. value q env s) (focus_path p (eval_of env e)) (focus_is_path p (eval_of env e) is) (λ q there. value_asks q env s there)
value_asks p env (SpecTree.pair x a b) is =
    asks_any (value p env a) (with_some λ v. value p (bind env x v) b >>= λ w. Answer (option_map (Tree.pair v) w)) (value_asks p env a is)
    (λ o. with_some_asks (λ v. value p (bind env x v) b >>= λ w. Answer (option_map (Tree.pair v) w)) o
    (λ v. asks_any (value p (bind env x v) b) (λ w. Answer (option_map (Tree.pair v) w)) (value_asks p (bind env x v) b is) (λ w. tt)))
value_asks p env (SpecTree.comp s x e) is = table_asks (λ t. value p (bind env x (Tree.str t)) s) (eval_of env e) (λ t. value_asks p (bind env x (Tree.str t)) s is)
value_asks p env (SpecTree.opt s) is = asks_any (exists p) (option (value p env s)) (exists_asks p is) (λ b. option_asks (value p env s) b (value_asks p env s is))
value_asks p env (SpecTree.pred e) is = tt
value_asks p env (SpecTree.call args params s) is =
    behind_asks (λ _. Unit {0}) (argument_evals env args) (at_body params (λ inner. value p inner s) (arguments env args)) (body_asks params (λ inner. value p inner s) (arguments env args) (λ inner. value_asks p inner s is))
value_asks p env (SpecTree.last args params) is = tt

-- ------------------------------------------------------------------------------------------------------------- places

-- a place that is there has a path
abbrev pub IsAnyPlace : Option PlaceTree → Type 0
IsAnyPlace None = Unit {0}
IsAnyPlace (Some at) = IsPath at.path

true_place : (b : Bool) (at : PlaceTree) → IsPath at.path → IsAnyPlace (where_true b at)
true_place true at is = is
true_place false at is = tt

focus_place : (env : Bindings) (s : SpecTree) (x : Result (List (List ℕ)) Refusal) → IsAnyPath x → IsAnyPlace (at_path env s x)
focus_place env s (Ok q) is = is
focus_place env s (Err f) is = tt

body_place : (p : List (List ℕ)) (params : List (List ℕ × ShapeTree)) (s : SpecTree) (x : Result (List Tree) ExprFault) → IsPath p → IsAnyPlace (in_body p params s x)
body_place p params s (Ok vs) is = is
body_place p params s (Err f) is = tt

second_place : (p : List (List ℕ)) (env : Bindings) (x : List ℕ) (b : SpecTree) (o : Option Tree) → IsPath p → IsAnyPlace (option_map (λ v. placed p (bind env x v) b) o)
second_place p env x b None is = tt
second_place p env x b (Some v) is = is

lead_asks : (step : Step) (p : List (List ℕ)) (env : Bindings) (s : SpecTree) → IsPath p → AsksPaths IsAnyPlace (lead step p env s)
lead_asks First p env (SpecTree.pair x a b) is = is
lead_asks Second p env (SpecTree.pair x a b) is =
    asks_then (λ _. Unit {0}) IsAnyPlace (value p env a) (λ v. Answer (option_map (λ v. placed p (bind env x v) b) v)) (value_asks p env a is) (λ o _. second_place p env x b o is)
lead_asks (Elem t) p env (SpecTree.comp s x e) is = true_place (has_element t (eval_of env e)) (placed p (bind env x (Tree.str t)) s) is
lead_asks Inside p env (SpecTree.opt s) is =
    asks_then (λ _. Unit {0}) IsAnyPlace (exists p) (λ there. Answer (where_true there (placed p env s))) (exists_asks p is) (λ there _. true_place there (placed p env s) is)
lead_asks Down p env (SpecTree.focus e s) is = focus_place env s (focus_path p (eval_of env e)) (focus_is_path p (eval_of env e) is)
lead_asks Body p env (SpecTree.call args params s) is =
    behind_asks IsAnyPlace (argument_evals env args) (Answer (in_body p params s (arguments env args))) (body_place p params s (arguments env args) is)
lead_asks _ p env _ is = tt

step_asks : (step : Step) (o : Option PlaceTree) → IsAnyPlace o → AsksPaths IsAnyPlace (with_some (λ (at : PlaceTree). lead step at.path at.env at.spec) o)
step_asks step None is = tt
step_asks step (Some at) is = lead_asks step at.path at.env at.spec is

pub place_asks : (root : SpecTree) (a : Address) → AsksPaths IsAnyPlace (place root a)
unfolding place
place_asks root [] = IsPath-root
place_asks root (step ∷ above) = asks_then IsAnyPlace IsAnyPlace (place root above) (with_some λ at. lead step at.path at.env at.spec) (place_asks root above) (step_asks step)

-- what is asked at the place of an address, which has a path
pub at_place_asks : {B : Type 0} (P : Answered B → Type 0) (root : SpecTree) (a : Address) (next : PlaceTree → Ask (Answered B)) → ((f : Refusal) → P (Err f)) → ((at : PlaceTree) → IsPath at.path → AsksPaths P (next at)) → AsksPaths P (at_place root a next)
at_place_asks {B} P root a next refused each = asks_then IsAnyPlace P (place root a) (λ at. unrefused next (needed Refusal.NoPlace at)) (place_asks root a) go
  where
    go : (o : Option PlaceTree) → IsAnyPlace o → AsksPaths P (unrefused next (needed Refusal.NoPlace o))
    go None is = refused Refusal.NoPlace
    go (Some at) is = each at is

pub asks_at_place : {B : Type 0} (root : SpecTree) (a : Address) (next : PlaceTree → Ask (Answered B)) → ((at : PlaceTree) → IsPath at.path → Asks (next at)) → Asks (at_place root a next)
asks_at_place root a next each = at_place_asks (λ _. Unit {0}) root a next (λ f. tt) each

-- ------------------------------------------------------------------------------------------------------------- moves

pub go_into_asks : (a : Address) (p : List (List ℕ)) (env : Bindings) (s : SpecTree) → IsPath p → Asks (go_into a p env s)
go_into_asks a p env (SpecTree.opt s) is = asks_any (exists p) (λ there. Answer (cond there (Ok (Inside ∷ a)) (Err Refusal.Lacks))) (exists_asks p is) (λ there. tt)
go_into_asks a p env (SpecTree.call args params s) is = behind_asks (λ _. Unit {0}) (argument_evals env args) (Answer (with_arguments (Ok (Body ∷ a)) (arguments env args))) tt
go_into_asks a p env (SpecTree.last args params) is = behind_asks (λ _. Unit {0}) (argument_evals env args) (Answer (with_arguments (Err Refusal.TooUnfolded) (arguments env args))) tt
go_into_asks a p env _ is = tt

pub go_to_asks : (t : List ℕ) (a : Address) (p : List (List ℕ)) (env : Bindings) (s : SpecTree) → Asks (go_to t a p env s)
go_to_asks t a p env (SpecTree.comp s x e) = tt
go_to_asks t a p env _ = tt

pub go_down_asks : (a : Address) (p : List (List ℕ)) (env : Bindings) (s : SpecTree) → Asks (go_down a p env s)
go_down_asks a p env (SpecTree.focus e s) = tt
go_down_asks a p env _ = tt

another_asks : (a : Address) (choice : List (List ℕ) → Option (List ℕ)) (p : List (List ℕ)) (env : Bindings) (s : SpecTree) → Asks (another a choice p env s)
another_asks a choice p env (SpecTree.comp s x e) = tt
another_asks a choice p env _ = tt

no_step_asks : (root : SpecTree) (a : Address) → Asks {A = Answered Address} (at_place root a (λ at. Answer (Err Refusal.NoStep)))
no_step_asks root a = asks_at_place root a (λ at. Answer (Err Refusal.NoStep)) (λ at is. tt)

element_asks : (root : SpecTree) (t : List ℕ) (a : Address) (choice : List (List ℕ) → Option (List ℕ)) → Asks (at_place root (Elem t ∷ a) (λ at. at_place root a λ above. another a choice above.path above.env above.spec))
element_asks root t a choice =
    asks_at_place root (Elem t ∷ a) (λ at. at_place root a λ above. another a choice above.path above.env above.spec)
    (λ at is. asks_at_place root a (λ above. another a choice above.path above.env above.spec) (λ above there. another_asks a choice above.path above.env above.spec))

pub go_next_asks : (root : SpecTree) (a : Address) → Asks (go_next root a)
go_next_asks root (First ∷ a) =
    asks_at_place root (First ∷ a) (λ at. value at.path at.env at.spec >>= λ v. Answer (cond (is_some v) (Ok (Second ∷ a)) (Err Refusal.Lacks)))
    (λ at is. asks_any (value at.path at.env at.spec) (λ v. Answer (cond (is_some v) (Ok (Second ∷ a)) (Err Refusal.Lacks))) (value_asks at.path at.env at.spec is) (λ v. tt))
go_next_asks root (Elem t ∷ a) = element_asks root t a (least_above t)
go_next_asks root a = no_step_asks root a

pub go_prev_asks : (root : SpecTree) (a : Address) → Asks (go_prev root a)
go_prev_asks root (Second ∷ a) = asks_at_place root (Second ∷ a) (λ at. Answer (Ok (First ∷ a))) (λ at is. tt)
go_prev_asks root (Elem t ∷ a) = element_asks root t a (greatest_below t)
go_prev_asks root a = no_step_asks root a

-- ------------------------------------------------------------------------------------------------------------- questions

needed_asks : (rule : Ask (Option Tree)) → Asks rule → Asks (rule >>= λ v. Answer (needed Refusal.Lacks v))
needed_asks rule is = asks_any rule (λ v. Answer (needed Refusal.Lacks v)) is (λ v. tt)

fetched_asks : (p : List (List ℕ)) (env : Bindings) (s : SpecTree) → IsPath p → Asks (fetched p env s)
fetched_asks p env SpecTree.file is = needed_asks (content file_value true p) (content_asks file_value true p is)
fetched_asks p env SpecTree.dir is = needed_asks (content dir_value true p) (content_asks dir_value true p is)
fetched_asks p env SpecTree.link is = needed_asks (content link_value false p) (content_asks link_value false p is)
fetched_asks p env (SpecTree.focus e s) is = tt
fetched_asks p env (SpecTree.pair x a b) is = tt
fetched_asks p env (SpecTree.comp s x e) is = tt
fetched_asks p env (SpecTree.opt s) is = asks_any (exists p) (λ there. Answer (Ok (Tree.bool there))) (exists_asks p is) (λ there. tt)
fetched_asks p env (SpecTree.pred e) is = tt
fetched_asks p env (SpecTree.call args params s) is = tt
fetched_asks p env (SpecTree.last args params) is = tt

of_shape_asks : (b : Bool) (rule : Ask (Answered Tree)) → Asks rule → Asks (of_shape b rule)
of_shape_asks false rule is = tt
of_shape_asks true rule is = is

pub fetch_asks : (shape : ShapeTree) (at : PlaceTree) → IsPath at.path → Asks (fetch_at shape at)
fetch_asks shape at is =
    cond_asks (asks_flag shape at.spec) (flag_at at.path) (of_shape (has_fetch_shape shape (fetch_shape at.spec)) (fetched at.path at.env at.spec))
    (needed_asks (content flag_value true at.path) (content_asks flag_value true at.path is))
    (of_shape_asks (has_fetch_shape shape (fetch_shape at.spec)) (fetched at.path at.env at.spec) (fetched_asks at.path at.env at.spec is))

pub whole_asks : (shape : ShapeTree) (at : PlaceTree) → IsPath at.path → Asks (whole_at shape at)
whole_asks shape at is =
    of_shape_asks (same_shape (value_shape at.spec) shape) (value at.path at.env at.spec >>= λ v. Answer (needed Refusal.Lacks v)) (needed_asks (value at.path at.env at.spec) (value_asks at.path at.env at.spec is))

pub validate_asks : (at : PlaceTree) → IsPath at.path → Asks (validate_at at)
validate_asks at is = asks_any (value at.path at.env at.spec) (λ v. Answer (Ok (Tree.bool (is_some v)))) (value_asks at.path at.env at.spec is) (λ v. tt)
