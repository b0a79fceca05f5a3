-- A value has the shape that its description says.
use Rattle.std.proofs.Common.{◌≡◌, ℕ, Bool, true, false, cond, ◌&&◌, refl, ap, subst, sym, List, [], ◌∷◌, Option, Some, None, Result, Ok, Err, IfOk}
use Rattle.std.proofs.lemmas.Bool.{true≢false, and_parts}
use Rattle.std.specs.Option.{IfSome, option_map}
use Rattle.fx_store.specs.declared.node.Node.{Node}
use Rattle.fx_store.specs.declared.node.Node.TheVariants.{File, Dir, Link}
use Rattle.fx_store.specs.declared.node.Landing.{Landing}
use Rattle.fx_store.specs.declared.node.Landing.TheVariants.{At, Absent, Blocked, TooManyLinks}
use Rattle.fx_store.specs.Rule.{Ask, Answer, answer, ◌>>=◌}
use Rattle.fx_store.specs.Resolve.{resolve}
use Rattle.fx_store.specs.Whole.{Store}
use Rattle.fx_store.proofs.Asks.{answer-bind}
use Rattle.fx_expr.specs.Bindings.{bind}
use Rattle.fx_expr.specs.Eval.{Outcome, eval_of, names_in, truth_in}
use Rattle.fx_expr.specs.Shapes.{ValueHas, RowsHave, BindingsHave}
use Rattle.fx_expr.specs.declared.fault.ExprFault.{ExprFault}
use Rattle.fx_expr.specs.ExprTree.{ExprTree}
use Rattle.fx_expr.specs.ShapeTree.{ShapeTree}
use Rattle.fx_expr.specs.Tree.{Tree, row}
use Rattle.fx_expr.proofs.Shaping.{eval_has}
use Rattle.fx_spec.specs.declared.refusal.Refusal.{Refusal}
use Rattle.fx_spec.specs.SpecTree.{SpecTree}
use Rattle.fx_spec.specs.Describe.{Bindings, with_some, file_value, flag_value, dir_value, link_value, landed_value, content, exists, focus_path, at_focus, rows, table, option, truth, then_others, arguments, argument_evals, with_values, is_true, at_body, value}
use Rattle.fx_spec.specs.Move.{Answered, evaluated, needed, unrefused, value_shape, fetch_shape, same_shape, has_fetch_shape, fetched, of_shape, asks_flag, flag_at, at_place, fetch_at, whole_at}
use Rattle.fx_spec.specs.Place.{Step, First, Second, Inside, Down, Body, Elem, Address, PlaceTree, placed, where_true, has_element, at_path, in_body, lead, place}
use Rattle.fx_spec.specs.WellShaped.{Scope, AreArguments, IsDescription}
use Rattle.fx_spec.proofs.Behind.{answer-behind}
use Rattle.fx_spec.specs.Shaped.{IsDescribed, DescribedHaveShapes, RootsHaveShapes, FetchedHaveShapes, IsDescribedPlace, PlacesAreDescribed, FetchesHaveShapes, WholesHaveShapes}
use Rattle.fx_spec.proofs.Scoped.{bind_has}

-- ------------------------------------------------------------------------------------------------- values of descriptions

-- the value has the shape, where there is one
abbrev pub Has : ShapeTree → Option Tree → Type 0
Has s v = IfSome v (λ v. ValueHas v s)

some_bind : {A B : Type 0} (S : Store) (rule : Ask (Option A)) (next : A → Ask (Option B)) (P : A → Type 0) (Q : B → Type 0) → IfSome (answer S rule) P → ((a : A) → P a → IfSome (answer S (next a)) Q) → IfSome (answer S (rule >>= with_some next)) Q
some_bind {A} S rule next P Q h on = subst (λ o. IfSome o Q) (sym (answer-bind S rule (with_some next))) (at (answer S rule) h)
  where
    at : (o : Option A) → IfSome o P → IfSome (answer S (with_some next o)) Q
    at None g = tt
    at (Some a) g = on a g

some_map : {A B : Type 0} (o : Option A) (f : A → B) (P : A → Type 0) (Q : B → Type 0) → IfSome o P → ((a : A) → P a → Q (f a)) → IfSome (option_map f o) Q
some_map None f P Q h on = tt
some_map (Some a) f P Q h on = on a h

-- the same of an answer that is mapped
map_answer : {A B : Type 0} (S : Store) (rule : Ask (Option A)) (f : A → B) (P : A → Type 0) (Q : B → Type 0) → IfSome (answer S rule) P → ((a : A) → P a → Q (f a)) → IfSome (answer S (rule >>= λ o. Answer (option_map f o))) Q
map_answer S rule f P Q h on = subst (λ o. IfSome o Q) (sym (answer-bind S rule (λ o. Answer (option_map f o)))) (some_map (answer S rule) f P Q h on)

content_has : (S : Store) (held : Option Node → Option Tree) (follow : Bool) (p : List (List ℕ)) (s : ShapeTree) → ((n : Option Node) → Has s (held n)) → Has s (answer S (content held follow p))
content_has S held follow p s h = subst (Has s) (sym (answer-bind S (resolve p follow) (landed_value held))) (at (answer S (resolve p follow)))
  where
    at : (l : Landing) → Has s (answer S (landed_value held l))
    at (At q) = h (S q)
    at (Absent here names) = tt
    at (Blocked q) = tt
    at TooManyLinks = tt

file_has : (n : Option Node) → Has ShapeTree.str (file_value n)
file_has None = tt
file_has (Some (File bytes exec)) = refl
file_has (Some (Dir names)) = tt
file_has (Some (Link text)) = tt

flag_has : (n : Option Node) → Has ShapeTree.bool (flag_value n)
flag_has None = tt
flag_has (Some (File bytes exec)) = refl
flag_has (Some (Dir names)) = tt
flag_has (Some (Link text)) = tt

dir_has : (n : Option Node) → Has ShapeTree.names (dir_value n)
dir_has None = tt
dir_has (Some (File bytes exec)) = tt
dir_has (Some (Dir names)) = refl
dir_has (Some (Link text)) = tt

link_has : (n : Option Node) → Has ShapeTree.str (link_value n)
link_has None = tt
link_has (Some (File bytes exec)) = tt
link_has (Some (Dir names)) = tt
link_has (Some (Link text)) = refl

focus_has : (S : Store) (part : List (List ℕ) → Ask (Option Tree)) (q : Result (List (List ℕ)) Refusal) (s : ShapeTree) → ((q : List (List ℕ)) → Has s (answer S (part q))) → Has s (answer S (at_focus part q))
focus_has S part (Ok q) s h = h q
focus_has S part (Err f) s h = tt

rows_have : (S : Store) (part : List ℕ → Ask (Option Tree)) (s : ShapeTree) → ((t : List ℕ) → Has s (answer S (part t))) → (ts : List (List ℕ)) → IfSome (answer S (rows part ts)) (λ r. RowsHave r s)
rows_have S part s h [] = tt
rows_have S part s h (t ∷ ts) =
    some_bind S (part t) (λ v. rows part ts >>= λ rest. Answer (option_map (row t v) rest)) (λ v. ValueHas v s) (λ r. RowsHave r s) (h t)
    (λ v g. map_answer S (rows part ts) (row t v) (λ r. RowsHave r s) (λ r. RowsHave r s) (rows_have S part s h ts) (λ r k. (g, k)))

table_has : (S : Store) (part : List ℕ → Ask (Option Tree)) (s : ShapeTree) (o : Outcome) → ((t : List ℕ) → Has s (answer S (part t))) → Has (ShapeTree.table s) (answer S (table part o))
table_has S part s (Err f) h = tt
table_has S part s (Ok set) h =
    map_answer S (rows part (names_in set)) Tree.table (λ r. RowsHave r s) (λ v. ValueHas v (ShapeTree.table s)) (rows_have S part s h (names_in set)) (λ r g. (s, refl, g))

option_has : (S : Store) (part : Ask (Option Tree)) (s : ShapeTree) → Has s (answer S part) → (b : Bool) → Has (ShapeTree.opt s) (answer S (option part b))
option_has S part s h false = (s, refl)
option_has S part s h true = map_answer S part Tree.some (λ v. ValueHas v s) (λ v. ValueHas v (ShapeTree.opt s)) h (λ v g. (s, refl, g))

truth_has : (o : Outcome) → Has ShapeTree.bool (truth o)
truth_has (Err f) = tt
truth_has (Ok v) = at (truth_in v)
  where
    at : (b : Bool) → Has ShapeTree.bool (cond b (Some (Tree.bool true)) None)
    at true = refl
    at false = tt

-- a call's value is a truth value, whatever its body has
body_has : (S : Store) (params : List (List ℕ × ShapeTree)) (body : Bindings → Ask (Option Tree)) (vs : Result (List Tree) ExprFault) → Has ShapeTree.bool (answer S (at_body params body vs))
body_has S params body (Ok vs) = subst (Has ShapeTree.bool) (sym (answer-bind S (body (with_values params vs)) (λ v. Answer (option_map is_true v)))) (at (answer S (body (with_values params vs))))
  where
    at : (o : Option Tree) → Has ShapeTree.bool (option_map is_true o)
    at None = tt
    at (Some v) = refl
body_has S params body (Err f) = tt

-- the values of arguments have the shapes of their parameters
abbrev ValuesHave : List Tree → List (List ℕ × ShapeTree) → Type 0
ValuesHave vs params = BindingsHave (with_values params vs) params

values_then : (p : List ℕ × ShapeTree) (params : List (List ℕ × ShapeTree)) (o : Outcome) (others : Result (List Tree) ExprFault) → IfOk o (λ v. ValueHas v p.1) → IfOk others (λ vs. ValuesHave vs params) → IfOk (then_others o others) (λ vs. ValuesHave vs (p ∷ params))
values_then p params (Ok v) (Ok vs) h hs = (refl, h, hs)
values_then p params (Ok v) (Err f) h hs = tt
values_then p params (Err f) others h hs = tt

pub arguments_have : (scope : Scope) (env : Bindings) (args : List ExprTree) (params : List (List ℕ × ShapeTree)) → BindingsHave env scope → AreArguments scope args params → IfOk (arguments env args) (λ vs. ValuesHave vs params)
arguments_have scope env [] [] b d = tt
arguments_have scope env [] (p ∷ ps) b d = absurd d
arguments_have scope env (e ∷ es) [] b d = absurd d
arguments_have scope env (e ∷ es) (p ∷ ps) b d =
    values_then p ps (eval_of env e) (arguments env es) (eval_has scope env e p.1 b d.0) (arguments_have scope env es ps b d.1)

value_has : (S : Store) (spec : SpecTree) (scope : Scope) (env : Bindings) (p : List (List ℕ)) → IsDescription scope spec → BindingsHave env scope → Has (value_shape spec) (answer S (value p env spec))
unfolding value
value_has S SpecTree.file scope env p d b = content_has S file_value true p ShapeTree.str file_has
value_has S SpecTree.dir scope env p d b = content_has S dir_value true p ShapeTree.names dir_has
value_has S SpecTree.link scope env p d b = content_has S link_value false p ShapeTree.str link_has
value_has S (SpecTree.focus e s) scope env p d b = focus_has S (λ q. value q env s) (focus_path p (eval_of env e)) (value_shape s) (λ q. value_has S s scope env q d.1 b)
value_has S (SpecTree.pair x s₁ s₂) scope env p d b =
    some_bind S (value p env s₁) (λ v. value p (bind env x v) s₂ >>= λ w. Answer (option_map (Tree.pair v) w)) (λ v. ValueHas v (value_shape s₁)) (λ v. ValueHas v (ShapeTree.pair (value_shape s₁) (value_shape s₂)))
    (value_has S s₁ scope env p d.0 b)
    (λ v g. map_answer S (value p (bind env x v) s₂) (Tree.pair v) (λ w. ValueHas w (value_shape s₂)) (λ w. ValueHas w (ShapeTree.pair (value_shape s₁) (value_shape s₂)))
    (value_has S s₂ (bind scope x (value_shape s₁)) (bind env x v) p d.2 (bind_has env scope x v (value_shape s₁) b g)) (λ w k. (value_shape s₁, value_shape s₂, refl, g, k)))
value_has S (SpecTree.comp s x e) scope env p d b =
    table_has S (λ t. value p (bind env x (Tree.str t)) s) (value_shape s) (eval_of env e)
    (λ t. value_has S s (bind scope x ShapeTree.str) (bind env x (Tree.str t)) p d.2 (bind_has env scope x (Tree.str t) ShapeTree.str b refl))
value_has S (SpecTree.opt s) scope env p d b =
    subst (Has (ShapeTree.opt (value_shape s))) (sym (answer-bind S (exists p) (option (value p env s)))) (option_has S (value p env s) (value_shape s) (value_has S s scope env p d b) (answer S (exists p)))
value_has S (SpecTree.pred e) scope env p d b = truth_has (eval_of env e)
value_has S (SpecTree.call args params s) scope env p d b =
    subst (Has ShapeTree.bool) (sym (answer-behind S (argument_evals env args) (at_body params (λ inner. value p inner s) (arguments env args)))) (body_has S params (λ inner. value p inner s) (arguments env args))
value_has S (SpecTree.last args params) scope env p d b = tt

pub described_have_shapes : DescribedHaveShapes
described_have_shapes scope env spec d S p = value_has S spec scope env p d.shapes d.bindings

pub roots_have_shapes : RootsHaveShapes
roots_have_shapes root d S = value_has S root [] [] [] d tt

-- ------------------------------------------------------------------------------------------------------------- fetches

-- the answer has the shape, where it is not refused
abbrev Gets : ShapeTree → Answered Tree → Type 0
Gets s o = IfOk o (λ v. ValueHas v s)

needed_has : (f : Refusal) (o : Option Tree) (s : ShapeTree) → Has s o → Gets s (needed f o)
needed_has f None s h = tt
needed_has f (Some v) s h = h

evaluated_has : (o : Outcome) (s : ShapeTree) → IfOk o (λ v. ValueHas v s) → Gets s (evaluated o)
evaluated_has (Ok v) s h = h
evaluated_has (Err f) s h = tt

needed_value : (S : Store) (rule : Ask (Option Tree)) (s : ShapeTree) → Has s (answer S rule) → Gets s (answer S (rule >>= λ v. Answer (needed Refusal.Lacks v)))
needed_value S rule s h = subst (Gets s) (sym (answer-bind S rule (λ v. Answer (needed Refusal.Lacks v)))) (needed_has Refusal.Lacks (answer S rule) s h)

of_that_shape : (s shape : ShapeTree) (o : Answered Tree) → ◌≡◌ {A = Option ShapeTree} (Some s) (Some shape) → Gets s o → Gets shape o
of_that_shape s shape o e h = let same : s ≡ shape = cc in subst (λ t. Gets t o) same h

pub fetched_have_shapes : FetchedHaveShapes
fetched_have_shapes scope env SpecTree.file d shape e S p = of_that_shape ShapeTree.str shape _ e (needed_value S (content file_value true p) ShapeTree.str (content_has S file_value true p ShapeTree.str file_has))
fetched_have_shapes scope env SpecTree.dir d shape e S p = of_that_shape ShapeTree.names shape _ e (needed_value S (content dir_value true p) ShapeTree.names (content_has S dir_value true p ShapeTree.names dir_has))
fetched_have_shapes scope env SpecTree.link d shape e S p = of_that_shape ShapeTree.str shape _ e (needed_value S (content link_value false p) ShapeTree.str (content_has S link_value false p ShapeTree.str link_has))
fetched_have_shapes scope env (SpecTree.focus t s) d shape e S p = of_that_shape ShapeTree.str shape _ e (evaluated_has (eval_of env t) ShapeTree.str (eval_has scope env t ShapeTree.str d.bindings d.shapes.0))
fetched_have_shapes scope env (SpecTree.pair x a b) d shape e S p = tt
fetched_have_shapes scope env (SpecTree.comp s x t) d shape e S p = of_that_shape ShapeTree.names shape _ e (evaluated_has (eval_of env t) ShapeTree.names (eval_has scope env t ShapeTree.names d.bindings d.shapes.0))
fetched_have_shapes scope env (SpecTree.opt s) d shape e S p =
    of_that_shape ShapeTree.bool shape _ e (subst (Gets ShapeTree.bool) (sym (answer-bind S (exists p) (λ there. Answer (Ok (Tree.bool there))))) refl)
fetched_have_shapes scope env (SpecTree.pred t) d shape e S p = of_that_shape ShapeTree.bool shape _ e (evaluated_has (eval_of env t) ShapeTree.bool (eval_has scope env t ShapeTree.bool d.bindings d.shapes))
fetched_have_shapes scope env (SpecTree.call args params s) d shape e S p = tt
fetched_have_shapes scope env (SpecTree.last args params) d shape e S p = tt

-- -------------------------------------------------------------------------------------------------------------- places

true_described : (b : Bool) (at : PlaceTree) → IsDescribedPlace at → IfSome (where_true b at) IsDescribedPlace
true_described true at h = h
true_described false at h = tt

path_described : (env : Bindings) (s : SpecTree) (q : Result (List (List ℕ)) Refusal) (scope : Scope) → IsDescribed scope env s → IfSome (at_path env s q) IsDescribedPlace
path_described env s (Ok q) scope d = (scope, d)
path_described env s (Err f) scope d = tt

body_described : (p : List (List ℕ)) (params : List (List ℕ × ShapeTree)) (s : SpecTree) (vs : Result (List Tree) ExprFault) → IsDescription params s → IfOk vs (λ vs. ValuesHave vs params) → IfSome (in_body p params s vs) IsDescribedPlace
body_described p params s (Ok vs) d h = (params, record { shapes = d; bindings = h })
body_described p params s (Err f) d h = tt

lead_described : (S : Store) (step : Step) (p : List (List ℕ)) (env : Bindings) (spec : SpecTree) (scope : Scope) → IsDescribed scope env spec → IfSome (answer S (lead step p env spec)) IsDescribedPlace
lead_described S First p env (SpecTree.pair x a b) scope d = (scope, record { shapes = d.shapes.0; bindings = d.bindings })
lead_described S Second p env (SpecTree.pair x a b) scope d =
    map_answer S (value p env a) (λ v. placed p (bind env x v) b) (λ v. ValueHas v (value_shape a)) IsDescribedPlace (value_has S a scope env p d.shapes.0 d.bindings)
    (λ v h. (bind scope x (value_shape a), record { shapes = d.shapes.2; bindings = bind_has env scope x v (value_shape a) d.bindings h }))
lead_described S (Elem t) p env (SpecTree.comp s x e) scope d =
    true_described (has_element t (eval_of env e)) (placed p (bind env x (Tree.str t)) s)
    (bind scope x ShapeTree.str, record { shapes = d.shapes.2; bindings = bind_has env scope x (Tree.str t) ShapeTree.str d.bindings refl })
lead_described S Inside p env (SpecTree.opt s) scope d =
    subst (λ o. IfSome o IsDescribedPlace) (sym (answer-bind S (exists p) (λ there. Answer (where_true there (placed p env s)))))
    (true_described (answer S (exists p)) (placed p env s) (scope, record { shapes = d.shapes; bindings = d.bindings }))
lead_described S Down p env (SpecTree.focus e s) scope d = path_described env s (focus_path p (eval_of env e)) scope (record { shapes = d.shapes.1; bindings = d.bindings })
lead_described S Body p env (SpecTree.call args params s) scope d =
    subst (λ o. IfSome o IsDescribedPlace) (sym (answer-behind S (argument_evals env args) (Answer (in_body p params s (arguments env args)))))
    (body_described p params s (arguments env args) d.shapes.1 (arguments_have scope env args params d.bindings d.shapes.0))
lead_described S _ p env _ scope d = tt

pub places_are_described : PlacesAreDescribed
unfolding place
places_are_described root d S [] = ([], record { shapes = d; bindings = tt })
places_are_described root d S (step ∷ above) =
    some_bind S (place root above) (λ at. lead step at.path at.env at.spec) IsDescribedPlace IsDescribedPlace (places_are_described root d S above) (λ at h. lead_described S step at.path at.env at.spec h.0 h.1)

-- ---------------------------------------------------------------------------------------------- the commands of fetching

pub same_shapes : (s t : ShapeTree) → same_shape s t ≡ true → s ≡ t
same_shapes ShapeTree.str ShapeTree.str e = refl
same_shapes ShapeTree.int ShapeTree.int e = refl
same_shapes ShapeTree.bool ShapeTree.bool e = refl
same_shapes ShapeTree.names ShapeTree.names e = refl
same_shapes (ShapeTree.pair a b) (ShapeTree.pair c d) e =
    let both : (same_shape a c ≡ true) × (same_shape b d ≡ true) = and_parts (same_shape a c) (same_shape b d) e in
    λ i. ShapeTree.pair (same_shapes a c both.0 i) (same_shapes b d both.1 i)
same_shapes (ShapeTree.opt a) (ShapeTree.opt b) e = ap ShapeTree.opt (same_shapes a b e)
same_shapes (ShapeTree.table a) (ShapeTree.table b) e = ap ShapeTree.table (same_shapes a b e)
same_shapes _ _ e = absurd (true≢false (sym e))

placed_has : (S : Store) (root : SpecTree) (a : Address) (next : PlaceTree → Ask (Answered Tree)) (s : ShapeTree) → IfSome (answer S (place root a)) IsDescribedPlace → ((at : PlaceTree) → IsDescribedPlace at → Gets s (answer S (next at))) → Gets s (answer S (at_place root a next))
placed_has S root a next s h on = subst (Gets s) (sym (answer-bind S (place root a) (λ at. unrefused next (needed Refusal.NoPlace at)))) (go (answer S (place root a)) h)
  where
    go : (o : Option PlaceTree) → IfSome o IsDescribedPlace → Gets s (answer S (unrefused next (needed Refusal.NoPlace o)))
    go None g = tt
    go (Some at) g = on at g

of_shape_has : (S : Store) (b : Bool) (rule : Ask (Answered Tree)) (s : ShapeTree) → (b ≡ true → Gets s (answer S rule)) → Gets s (answer S (of_shape b rule))
of_shape_has S true rule s h = h refl
of_shape_has S false rule s h = tt

shape_fetched : (shape : ShapeTree) (o : Option ShapeTree) → has_fetch_shape shape o ≡ true → o ≡ Some shape
shape_fetched shape None e = absurd (true≢false (sym e))
shape_fetched shape (Some s) e = ap Some (same_shapes s shape e)

flag_fetched : (shape : ShapeTree) (spec : SpecTree) → asks_flag shape spec ≡ true → ShapeTree.bool ≡ shape
flag_fetched ShapeTree.bool spec e = refl
flag_fetched _ spec e = absurd (true≢false (sym e))

flag_at_has : (S : Store) (p : List (List ℕ)) → Gets ShapeTree.bool (answer S (flag_at p))
flag_at_has S p = needed_value S (content flag_value true p) ShapeTree.bool (content_has S flag_value true p ShapeTree.bool flag_has)

fetch_at_has : (S : Store) (shape : ShapeTree) (at : PlaceTree) → IsDescribedPlace at → Gets shape (answer S (fetch_at shape at))
fetch_at_has S shape at h = go (asks_flag shape at.spec) (flag_fetched shape at.spec)
  where
    form : Ask (Answered Tree)
    form = of_shape (has_fetch_shape shape (fetch_shape at.spec)) (fetched at.path at.env at.spec)

    go : (b : Bool) → (b ≡ true → ShapeTree.bool ≡ shape) → Gets shape (answer S (cond b (flag_at at.path) form))
    go true same = subst (λ s. Gets s (answer S (flag_at at.path))) (same refl) (flag_at_has S at.path)
    go false same =
        of_shape_has S (has_fetch_shape shape (fetch_shape at.spec)) (fetched at.path at.env at.spec) shape
        (λ e. fetched_have_shapes h.0 at.env at.spec h.1 shape (shape_fetched shape (fetch_shape at.spec) e) S at.path)

pub fetches_have_shapes : FetchesHaveShapes
fetches_have_shapes root d S a shape = placed_has S root a (fetch_at shape) shape (places_are_described root d S a) (fetch_at_has S shape)

pub wholes_have_shapes : WholesHaveShapes
wholes_have_shapes root d S a shape =
    placed_has S root a (whole_at shape) shape (places_are_described root d S a)
    (λ at h. of_shape_has S (same_shape (value_shape at.spec) shape) (value at.path at.env at.spec >>= λ v. Answer (needed Refusal.Lacks v)) shape
    (λ e. subst (λ s. Gets s (answer S (value at.path at.env at.spec >>= λ v. Answer (needed Refusal.Lacks v)))) (same_shapes (value_shape at.spec) shape e)
    (needed_value S (value at.path at.env at.spec) (value_shape at.spec) (value_has S at.spec h.0 at.env at.path h.1.shapes h.1.bindings))))

-- ------------------------------------------------------------------------------------------------------- a shape and itself

pub shape_itself : (s : ShapeTree) → same_shape s s ≡ true
shape_itself ShapeTree.str = refl
shape_itself ShapeTree.int = refl
shape_itself ShapeTree.bool = refl
shape_itself ShapeTree.names = refl
shape_itself (ShapeTree.pair a b) = (λ i. shape_itself a i && shape_itself b i)
shape_itself (ShapeTree.opt a) = shape_itself a
shape_itself (ShapeTree.table a) = shape_itself a
