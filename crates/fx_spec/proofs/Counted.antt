-- The rule of a value evaluates as often as the count says.
use Rattle.std.proofs.Common.{◌≡◌, ℕ, ◌+◌, Bool, true, false, cond, List, [], ◌∷◌, Option, Some, None, Result, Ok, Err, refl, ap, ◌∙◌, arith}
use Rattle.std.specs.Option.{option_map}
use Rattle.fx_store.specs.declared.node.Node.{Node}
use Rattle.fx_store.specs.declared.node.Landing.{Landing}
use Rattle.fx_store.specs.declared.node.Landing.TheVariants.{At, Absent, Blocked, TooManyLinks}
use Rattle.fx_store.specs.Resolve.{resolve}
use Rattle.fx_store.specs.Rule.{Ask, Answer, answer, ticks, ◌>>=◌}
use Rattle.fx_store.specs.Whole.{Store}
use Rattle.fx_store.proofs.Asks.{ticks-bind}
use Rattle.fx_store.proofs.Quiet.{ticks-resolve}
use Rattle.fx_expr.specs.Bindings.{bind}
use Rattle.fx_expr.specs.Eval.{Outcome, eval_of, names_in}
use Rattle.fx_expr.specs.declared.fault.ExprFault.{ExprFault}
use Rattle.fx_expr.specs.ShapeTree.{ShapeTree}
use Rattle.fx_expr.specs.Tree.{Tree, row}
use Rattle.fx_spec.specs.declared.refusal.Refusal.{Refusal}
use Rattle.fx_spec.specs.SpecTree.{SpecTree}
use Rattle.fx_spec.specs.Describe.{Bindings, with_some, file_value, flag_value, dir_value, link_value, landed_value, content, is_at, exists, focus_path, at_focus, rows, table, option, arguments, argument_evals, with_values, behind, is_true, at_body, value}
use Rattle.fx_spec.proofs.Behind.{ticks-behind}
use Rattle.fx_spec.specs.Move.{needed, with_arguments, go_into, go_to, go_down, another, fetched}
use Rattle.fx_spec.specs.Place.{Step, First, Second, Inside, Down, Body, Elem, Address, placed, where_true, in_body, lead, place}
use Rattle.fx_spec.specs.Evals.{focus_evals, evals_with, rows_evals, table_evals, body_evals, evals, ValuesEvaluate, step_evals, address_evals, into_evals, table_move_evals, down_evals, fetch_evals, PlacesEvaluate, MovesEvaluateOnce}

module _ (S : Store) where
  -- an answer made of a rule's answer costs nothing more
  pub ticks-mapped : {A B : Type 0} (rule : Ask A) (f : A → B) → ticks S (rule >>= λ a. Answer (f a)) ≡ ticks S rule
  ticks-mapped rule f = ticks-bind S rule (λ a. Answer (f a)) ∙ (omega arith)

  -- a rule that evaluates nothing, and then the next
  ticks-after : {A B : Type 0} (rule : Ask A) (f : A → Ask B) → ticks S rule ≡ 0 → ticks S (rule >>= f) ≡ ticks S (f (answer S rule))
  ticks-after rule f none = let both = ticks-bind S rule f in omega (arith, both, none)

  pub ticks-exists : (p : List (List ℕ)) → ticks S (exists p) ≡ 0
  ticks-exists p = ticks-mapped (resolve p false) is_at ∙ ticks-resolve S p false

  pub ticks-content : (held : Option Node → Option Tree) (follow : Bool) (p : List (List ℕ)) → ticks S (content held follow p) ≡ 0
  ticks-content held follow p = ticks-after (resolve p follow) (landed_value held) (ticks-resolve S p follow) ∙ at (answer S (resolve p follow))
    where
      at : (l : Landing) → ticks S (landed_value held l) ≡ 0
      at (At q) = refl
      at (Absent q names) = refl
      at (Blocked q) = refl
      at TooManyLinks = refl

  ticks-with_some : {A B : Type 0} (rule : Ask (Option A)) (next : A → Ask (Option B)) (count : A → ℕ) → ((a : A) → ticks S (next a) ≡ count a) → ticks S (rule >>= with_some next) ≡ ticks S rule + evals_with count (answer S rule)
  ticks-with_some {A} rule next count same = ticks-bind S rule (with_some next) ∙ ap (λ n. ticks S rule + n) (at (answer S rule))
    where
      at : (o : Option A) → ticks S (with_some next o) ≡ evals_with count o
      at None = refl
      at (Some a) = same a

  ticks-focus : (part : List (List ℕ) → Ask (Option Tree)) (count : List (List ℕ) → ℕ) → ((q : List (List ℕ)) → ticks S (part q) ≡ count q) → (r : Result (List (List ℕ)) Refusal) → 1 + ticks S (at_focus part r) ≡ focus_evals count r
  ticks-focus part count same (Ok q) = ap (λ n. 1 + n) (same q)
  ticks-focus part count same (Err f) = refl

  module _ (part : List ℕ → Ask (Option Tree)) (count : List ℕ → ℕ) (same : (t : List ℕ) → ticks S (part t) ≡ count t) where
    ticks-rows : (ts : List (List ℕ)) → ticks S (rows part ts) ≡ rows_evals count (λ t. answer S (part t)) ts
    ticks-rows [] = refl
    ticks-rows (t ∷ ts) =
        ticks-with_some (part t) (λ v. rows part ts >>= λ rest. Answer (option_map (row t v) rest)) (λ v. rows_evals count (λ t. answer S (part t)) ts) (λ v. ticks-mapped (rows part ts) (option_map (row t v)) ∙ ticks-rows ts)
        ∙ ap (λ n. n + evals_with (λ v. rows_evals count (λ t. answer S (part t)) ts) (answer S (part t))) (same t)

    ticks-table : (o : Outcome) → 1 + ticks S (table part o) ≡ table_evals count (λ t. answer S (part t)) o
    ticks-table (Ok set) = ap (λ n. 1 + n) (ticks-mapped (rows part (names_in set)) (option_map Tree.table) ∙ ticks-rows (names_in set))
    ticks-table (Err f) = refl

  ticks-option : (part : Ask (Option Tree)) (n : ℕ) → ticks S part ≡ n → (b : Bool) → ticks S (option part b) ≡ cond b n 0
  ticks-option part n same false = refl
  ticks-option part n same true = ticks-mapped part (option_map Tree.some) ∙ same

  ticks-body : (params : List (List ℕ × ShapeTree)) (body : Bindings → Ask (Option Tree)) (count : Bindings → ℕ) → ((inner : Bindings) → ticks S (body inner) ≡ count inner) → (vs : Result (List Tree) ExprFault) → ticks S (at_body params body vs) ≡ body_evals params count vs
  ticks-body params body count same (Ok vs) = ticks-mapped (body (with_values params vs)) (option_map is_true) ∙ same (with_values params vs)
  ticks-body params body count same (Err f) = refl

  -- an answer behind some evaluations
  ticks-answer : {A : Type 0} (n : ℕ) (a : A) → ticks S (behind n (Answer a)) ≡ n
  ticks-answer n a = ticks-behind S n (Answer a) ∙ (omega arith)

  pub ticks-value : (p : List (List ℕ)) (env : Bindings) (s : SpecTree) → ticks S (value p env s) ≡ evals S p env s
  unfolding value evals
  ticks-value p env SpecTree.file = ticks-content file_value true p
  ticks-value p env SpecTree.dir = ticks-content dir_value true p
  ticks-value p env SpecTree.link = ticks-content link_value false p
  ticks-value p env (SpecTree.focus e s) = ticks-focus (λ q. value q env s) (λ q. evals S q env s) (λ q. ticks-value q env s) (focus_path p (eval_of env e))
  ticks-value p env (SpecTree.pair x a b) =
      ticks-with_some (value p env a) (λ v. value p (bind env x v) b >>= λ w. Answer (option_map (Tree.pair v) w)) (λ v. evals S p (bind env x v) b) (λ v. ticks-mapped (value p (bind env x v) b) (option_map (Tree.pair v)) ∙ ticks-value p (bind env x v) b)
      ∙ ap (λ n. n + evals_with (λ v. evals S p (bind env x v) b) (answer S (value p env a))) (ticks-value p env a)
  ticks-value p env (SpecTree.comp s x e) = ticks-table (λ t. value p (bind env x (Tree.str t)) s) (λ t. evals S p (bind env x (Tree.str t)) s) (λ t. ticks-value p (bind env x (Tree.str t)) s) (eval_of env e)
  ticks-value p env (SpecTree.opt s) =
      ticks-after (exists p) (option (value p env s)) (ticks-exists p) ∙ ticks-option (value p env s) (evals S p env s) (ticks-value p env s) (answer S (exists p))
  ticks-value p env (SpecTree.pred e) = refl
  ticks-value p env (SpecTree.call args params s) =
      ticks-behind S (argument_evals env args) (at_body params (λ inner. value p inner s) (arguments env args))
      ∙ ap (λ n. argument_evals env args + n) (ticks-body params (λ inner. value p inner s) (λ inner. evals S p inner s) (λ inner. ticks-value p inner s) (arguments env args))
  ticks-value p env (SpecTree.last args params) = refl

  -- ---- places

  ticks-lead : (step : Step) (p : List (List ℕ)) (env : Bindings) (s : SpecTree) → ticks S (lead step p env s) ≡ step_evals S step p env s
  ticks-lead First p env (SpecTree.pair x a b) = refl
  ticks-lead First p env s = refl
  ticks-lead Second p env (SpecTree.pair x a b) = ticks-mapped (value p env a) (option_map (λ v. placed p (bind env x v) b)) ∙ ticks-value p env a
  ticks-lead Second p env s = refl
  ticks-lead (Elem t) p env (SpecTree.comp s x e) = refl
  ticks-lead (Elem t) p env s = refl
  ticks-lead Inside p env (SpecTree.opt s) = ticks-mapped (exists p) (λ there. where_true there (placed p env s)) ∙ ticks-exists p
  ticks-lead Inside p env s = refl
  ticks-lead Down p env (SpecTree.focus e s) = refl
  ticks-lead Body p env (SpecTree.call args params s) = ticks-answer (argument_evals env args) (in_body p params s (arguments env args))
  ticks-lead Body p env s = refl
  ticks-lead Down p env s = refl

  pub ticks-place : (root : SpecTree) (a : Address) → ticks S (place root a) ≡ address_evals S root a
  unfolding place
  ticks-place root [] = refl
  ticks-place root (step ∷ above) =
      ticks-with_some (place root above) (λ at. lead step at.path at.env at.spec) (λ at. step_evals S step at.path at.env at.spec) (λ at. ticks-lead step at.path at.env at.spec)
      ∙ ap (λ n. n + evals_with (λ at. step_evals S step at.path at.env at.spec) (answer S (place root above))) (ticks-place root above)

  -- ---- moves and fetches

  ticks-into : (a : Address) (p : List (List ℕ)) (env : Bindings) (s : SpecTree) → ticks S (go_into a p env s) ≡ into_evals env s
  ticks-into a p env (SpecTree.opt s) = ticks-mapped (exists p) (λ there. cond there (Ok (Inside ∷ a)) (Err Refusal.Lacks)) ∙ ticks-exists p
  ticks-into a p env (SpecTree.call args params s) = ticks-answer (argument_evals env args) (with_arguments (Ok (Body ∷ a)) (arguments env args))
  ticks-into a p env (SpecTree.last args params) = ticks-answer (argument_evals env args) (with_arguments (Err Refusal.TooUnfolded) (arguments env args))
  ticks-into a p env s = refl

  ticks-to : (t : List ℕ) (a : Address) (p : List (List ℕ)) (env : Bindings) (s : SpecTree) → ticks S (go_to t a p env s) ≡ table_move_evals s
  ticks-to t a p env (SpecTree.comp s x e) = refl
  ticks-to t a p env s = refl

  ticks-another : (a : Address) (choice : List (List ℕ) → Option (List ℕ)) (p : List (List ℕ)) (env : Bindings) (s : SpecTree) → ticks S (another a choice p env s) ≡ table_move_evals s
  ticks-another a choice p env (SpecTree.comp s x e) = refl
  ticks-another a choice p env s = refl

  ticks-down : (a : Address) (p : List (List ℕ)) (env : Bindings) (s : SpecTree) → ticks S (go_down a p env s) ≡ down_evals s
  ticks-down a p env (SpecTree.focus e s) = refl
  ticks-down a p env s = refl

  ticks-fetched : (p : List (List ℕ)) (env : Bindings) (s : SpecTree) → ticks S (fetched p env s) ≡ fetch_evals s
  ticks-fetched p env SpecTree.file = ticks-mapped (content file_value true p) (needed Refusal.Lacks) ∙ ticks-content file_value true p
  ticks-fetched p env SpecTree.dir = ticks-mapped (content dir_value true p) (needed Refusal.Lacks) ∙ ticks-content dir_value true p
  ticks-fetched p env SpecTree.link = ticks-mapped (content link_value false p) (needed Refusal.Lacks) ∙ ticks-content link_value false p
  ticks-fetched p env (SpecTree.opt s) = ticks-mapped (exists p) (λ there. Ok (Tree.bool there)) ∙ ticks-exists p
  ticks-fetched p env s = refl

pub values_evaluate : ValuesEvaluate
values_evaluate S p env s = ticks-value S p env s

pub places_evaluate : PlacesEvaluate
places_evaluate S root a = ticks-place S root a

pub moves_evaluate : MovesEvaluateOnce
moves_evaluate S a p env s = record {
  into = ticks-into S a p env s;
  to_text = λ t. ticks-to S t a p env s;
  to_other = λ choice. ticks-another S a choice p env s;
  down = ticks-down S a p env s;
  fetch = ticks-fetched S p env s;
  flag = ticks-mapped S (content flag_value true p) (needed Refusal.Lacks) ∙ ticks-content S flag_value true p;
}
