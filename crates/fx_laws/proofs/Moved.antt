-- Moves that are not refused lead to places, and are undone by others.
use Rattle.std.proofs.Common.{◌≡◌, ℕ, zero, suc, Bool, true, false, cond, refl, ap, sym, subst, ◌∙◌, List, [], ◌∷◌, Option, Some, None, Result, Ok, Err, is_some}
use Rattle.std.specs.Prelude.{IsSome}
use Rattle.std.specs.Option.{option_map}
use Rattle.fx_store.specs.Rule.{Ask, Answer, answer, ◌>>=◌}
use Rattle.fx_store.specs.Whole.{Store}
use Rattle.fx_store.proofs.Asks.{answer-bind}
use Rattle.fx_expr.specs.Bindings.{bind}
use Rattle.fx_expr.specs.Eval.{Outcome, eval_of, names_in}
use Rattle.fx_expr.specs.Sets.{has_text, least, least_above, greatest_below}
use Rattle.fx_expr.specs.declared.fault.ExprFault.{ExprFault}
use Rattle.fx_expr.specs.Tree.{Tree}
use Rattle.fx_text.proofs.Chosen.{has_least, has_above, has_below}
use Rattle.fx_spec.specs.declared.refusal.Refusal.{Refusal}
use Rattle.fx_spec.specs.SpecTree.{SpecTree}
use Rattle.fx_spec.specs.Describe.{Bindings, with_some, exists, focus_path, arguments, argument_evals, behind, value}
use Rattle.fx_spec.specs.Move.{Answered, unrefused, needed, at_place, then_step, element, chosen, with_arguments, go_into, go_to, go_down, another, go_next, go_prev, go_out, go_up}
use Rattle.fx_spec.specs.Place.{Step, First, Second, Inside, Down, Body, Elem, Address, PlaceTree, placed, where_true, has_element, at_path, in_body, lead, place}
use Rattle.fx_spec.specs.Transaction.{from_place}
use Rattle.fx_laws.specs.Moved.{LeadsToPlace, MovesLeadToPlaces, MovesAreUndone}

-- ---- rules and places

answer-behind : {A : Type 0} (S : Store) (n : ℕ) (rule : Ask A) → answer S (behind n rule) ≡ answer S rule
answer-behind S zero rule = refl
answer-behind S (suc n) rule = answer-behind S n rule

pub place_step : (S : Store) (root : SpecTree) (a : Address) (at : PlaceTree) (step : Step) → answer S (place root a) ≡ Some at → answer S (place root (step ∷ a)) ≡ answer S (lead step at.path at.env at.spec)
unfolding place
place_step S root a at step e =
    answer-bind S (place root a) (with_some λ at. lead step at.path at.env at.spec) ∙ ap (λ o. answer S (with_some (λ (at : PlaceTree). lead step at.path at.env at.spec) o)) e

-- an address is the old one and one step more, which is no Down and leads on; or a Down that does
data Steps (S : Store) (a : Address) (p : List (List ℕ)) (env : Bindings) (s : SpecTree) (b : Address) : Type 0 where
  by_step : (step : Step) → b ≡ step ∷ a → go_out (step ∷ a) ≡ Ok a → IsSome (answer S (lead step p env s)) → Steps S a p env s b

data Descends (S : Store) (a : Address) (p : List (List ℕ)) (env : Bindings) (s : SpecTree) (b : Address) : Type 0 where
  by_down : b ≡ Down ∷ a → IsSome (answer S (lead Down p env s)) → Descends S a p env s b

-- ---- elements of sets

this_in : (t u : List ℕ) (ts : List (List ℕ)) → where_true (has_text t ts) t ≡ Some u → has_text u ts ≡ true
this_in t u ts e = by (has_text t ts) refl e
  where
    by : (b : Bool) → has_text t ts ≡ b → where_true b t ≡ Some u → has_text u ts ≡ true
    by true is e = let same : t ≡ u = cc in subst (λ v. has_text v ts ≡ true) same is
    by false is e = cc

-- a choice among a set's elements leads to one of them
module _ (S : Store) (a : Address) (p : List (List ℕ)) (env : Bindings) (s : SpecTree) (x : List ℕ) where
  chosen_steps : (choice : List (List ℕ) → Option (List ℕ)) → ((ts : List (List ℕ)) (t : List ℕ) → choice ts ≡ Some t → has_text t ts ≡ true) → (o : Outcome) (b : Address) → chosen a choice o ≡ Ok b
      → (t : List ℕ) × (b ≡ Elem t ∷ a) × (has_element t o ≡ true)
  chosen_steps choice is (Err f) b e = cc
  chosen_steps choice is (Ok set) b e = by (choice (names_in set)) refl e
    where
      by : (c : Option (List ℕ)) → choice (names_in set) ≡ c → element a c ≡ Ok b → (t : List ℕ) × (b ≡ Elem t ∷ a) × (has_element t (Ok set) ≡ true)
      by None at e = cc
      by (Some t) at e = let same : (Elem t ∷ a) ≡ b = cc in (t, sym same, is (names_in set) t at)

  elem_leads : (e : _) (t : List ℕ) → has_element t (eval_of env e) ≡ true → IsSome (answer S (lead (Elem t) p env (SpecTree.comp s x e)))
  elem_leads e t h = ap (λ b. is_some (where_true b (placed p (bind env x (Tree.str t)) s))) h

  comp_steps : (e : _) (choice : List (List ℕ) → Option (List ℕ)) → ((ts : List (List ℕ)) (t : List ℕ) → choice ts ≡ Some t → has_text t ts ≡ true) → (b : Address) → chosen a choice (eval_of env e) ≡ Ok b → Steps S a p env (SpecTree.comp s x e) b
  comp_steps e choice is b h = let found = chosen_steps choice is (eval_of env e) b h in by_step (Elem found.0) found.1 refl (elem_leads e found.0 found.2)

-- ---- the moves from a place

into_steps : (S : Store) (a : Address) (p : List (List ℕ)) (env : Bindings) (s : SpecTree) (b : Address) → answer S (go_into a p env s) ≡ Ok b → Steps S a p env s b
into_steps S a p env SpecTree.file b e = cc
into_steps S a p env SpecTree.dir b e = cc
into_steps S a p env SpecTree.link b e = cc
into_steps S a p env (SpecTree.focus x s) b e = cc
into_steps S a p env (SpecTree.pred x) b e = cc
into_steps S a p env (SpecTree.pair x s u) b e = let same : (First ∷ a) ≡ b = cc in by_step First (sym same) refl refl
into_steps S a p env (SpecTree.comp s x set) b e = comp_steps S a p env s x set least (λ ts t h. has_least ts t h) b e
into_steps S a p env (SpecTree.opt s) b e = by (answer S (exists p)) refl (sym (answer-bind S (exists p) (λ there. Answer (cond there (Ok (Inside ∷ a)) (Err Refusal.Lacks)))) ∙ e)
  where
    by : (there : Bool) → answer S (exists p) ≡ there → answer S (Answer (cond there (Ok (Inside ∷ a)) (Err Refusal.Lacks))) ≡ Ok b → Steps S a p env (SpecTree.opt s) b
    by true is h =
        let same : (Inside ∷ a) ≡ b = cc in
        by_step Inside (sym same) refl (ap is_some (answer-bind S (exists p) (λ there. Answer (where_true there (placed p env s)))) ∙ ap (λ t. is_some (where_true t (placed p env s))) is)
    by false is h = cc
into_steps S a p env (SpecTree.call args params s) b e = by (arguments env args) refl (sym (answer-behind S (argument_evals env args) (Answer (with_arguments (Ok (Body ∷ a)) (arguments env args)))) ∙ e)
  where
    by : (vs : Result (List Tree) ExprFault) → arguments env args ≡ vs → with_arguments (Ok (Body ∷ a)) vs ≡ Ok b → Steps S a p env (SpecTree.call args params s) b
    by (Ok vs) is h =
        let same : (Body ∷ a) ≡ b = cc in
        by_step Body (sym same) refl (ap is_some (answer-behind S (argument_evals env args) (Answer (in_body p params s (arguments env args)))) ∙ ap (λ o. is_some (in_body p params s o)) is)
    by (Err f) is h = cc
into_steps S a p env (SpecTree.last args params) b e = absurd (by (arguments env args) (sym (answer-behind S (argument_evals env args) (Answer (with_arguments (Err Refusal.TooUnfolded) (arguments env args)))) ∙ e))
  where
    by : (vs : Result (List Tree) ExprFault) → with_arguments {A = Address} (Err Refusal.TooUnfolded) vs ≡ Ok b → ⊥
    by (Ok vs) h = cc
    by (Err f) h = cc

to_steps : (S : Store) (t : List ℕ) (a : Address) (p : List (List ℕ)) (env : Bindings) (s : SpecTree) (b : Address) → answer S (go_to t a p env s) ≡ Ok b → Steps S a p env s b
to_steps S t a p env SpecTree.file b e = cc
to_steps S t a p env SpecTree.dir b e = cc
to_steps S t a p env SpecTree.link b e = cc
to_steps S t a p env (SpecTree.focus x s) b e = cc
to_steps S t a p env (SpecTree.pred x) b e = cc
to_steps S t a p env (SpecTree.pair x s u) b e = cc
to_steps S t a p env (SpecTree.opt s) b e = cc
to_steps S t a p env (SpecTree.call args params s) b e = cc
to_steps S t a p env (SpecTree.last args params) b e = cc
to_steps S t a p env (SpecTree.comp s x set) b e = comp_steps S a p env s x set (λ set. where_true (has_text t set) t) (λ ts u h. this_in t u ts h) b e

down_steps : (S : Store) (a : Address) (p : List (List ℕ)) (env : Bindings) (s : SpecTree) (b : Address) → answer S (go_down a p env s) ≡ Ok b → Descends S a p env s b
down_steps S a p env SpecTree.file b e = cc
down_steps S a p env SpecTree.dir b e = cc
down_steps S a p env SpecTree.link b e = cc
down_steps S a p env (SpecTree.pair x s u) b e = cc
down_steps S a p env (SpecTree.comp s x set) b e = cc
down_steps S a p env (SpecTree.opt s) b e = cc
down_steps S a p env (SpecTree.pred x) b e = cc
down_steps S a p env (SpecTree.call args params s) b e = cc
down_steps S a p env (SpecTree.last args params) b e = cc
down_steps S a p env (SpecTree.focus x s) b e = by (focus_path p (eval_of env x)) refl e
  where
    by : (q : Result (List (List ℕ)) Refusal) → focus_path p (eval_of env x) ≡ q → then_step Down a q ≡ Ok b → Descends S a p env (SpecTree.focus x s) b
    by (Ok q) is h = let same : (Down ∷ a) ≡ b = cc in by_down (sym same) (ap (λ o. is_some (at_path env s o)) is)
    by (Err f) is h = cc

-- ---- from an address

module _ (S : Store) (root : SpecTree) (a : Address) where
  pub placed_move : {P : Type 0} (next : PlaceTree → Ask (Answered Address)) (b : Address) → ((at : PlaceTree) → answer S (place root a) ≡ Some at → answer S (next at) ≡ Ok b → P) → answer S (at_place root a next) ≡ Ok b → P
  placed_move {P} next b on e = go (answer S (place root a)) refl (sym (answer-bind S (place root a) (λ at. unrefused next (needed Refusal.NoPlace at))) ∙ e)
    where
      go : (o : Option PlaceTree) → answer S (place root a) ≡ o → answer S (unrefused next (needed Refusal.NoPlace o)) ≡ Ok b → P
      go None is h = cc
      go (Some at) is h = on at is h

  step_leads : (at : PlaceTree) (b : Address) → answer S (place root a) ≡ Some at → Steps S a at.path at.env at.spec b → IsSome (answer S (place root b))
  step_leads at b is (by_step step same out led) = subst (λ b. IsSome (answer S (place root b))) (sym same) (ap is_some (place_step S root a at step is) ∙ led)

  step_undone : (p : List (List ℕ)) (env : Bindings) (s : SpecTree) (b : Address) → Steps S a p env s b → go_out b ≡ Ok a
  step_undone p env s b (by_step step same out led) = ap go_out same ∙ out

  down_leads : (at : PlaceTree) (b : Address) → answer S (place root a) ≡ Some at → Descends S a at.path at.env at.spec b → IsSome (answer S (place root b))
  down_leads at b is (by_down same led) = subst (λ b. IsSome (answer S (place root b))) (sym same) (ap is_some (place_step S root a at Down is) ∙ led)

  down_undone : (p : List (List ℕ)) (env : Bindings) (s : SpecTree) (b : Address) → Descends S a p env s b → go_up b ≡ Ok a
  down_undone p env s b (by_down same led) = ap go_up same

  -- another element of the comprehension around
  another_leads : (choice : List (List ℕ) → Option (List ℕ)) → ((ts : List (List ℕ)) (t : List ℕ) → choice ts ≡ Some t → has_text t ts ≡ true) → (b : Address)
      → answer S (at_place root a (λ above. another a choice above.path above.env above.spec)) ≡ Ok b → IsSome (answer S (place root b))
  another_leads choice is b e = placed_move (λ above. another a choice above.path above.env above.spec) b (λ at there h. step_leads at b there (steps at.path at.env at.spec h)) e
    where
      steps : (p : List (List ℕ)) (env : Bindings) (s : SpecTree) → answer S (another a choice p env s) ≡ Ok b → Steps S a p env s b
      steps p env SpecTree.file h = cc
      steps p env SpecTree.dir h = cc
      steps p env SpecTree.link h = cc
      steps p env (SpecTree.focus x s) h = cc
      steps p env (SpecTree.pred x) h = cc
      steps p env (SpecTree.pair x s u) h = cc
      steps p env (SpecTree.opt s) h = cc
      steps p env (SpecTree.call args params s) h = cc
      steps p env (SpecTree.last args params) h = cc
      steps p env (SpecTree.comp s x set) h = comp_steps S a p env s x set choice is b h

into_leads : (root : SpecTree) (S : Store) (a : Address) → LeadsToPlace root S (from_place root a go_into)
into_leads root S a b e = placed_move S root a (λ at. go_into a at.path at.env at.spec) b (λ at is h. step_leads S root a at b is (into_steps S a at.path at.env at.spec b h)) e

to_leads : (root : SpecTree) (S : Store) (a : Address) (t : List ℕ) → LeadsToPlace root S (from_place root a (go_to t))
to_leads root S a t b e = placed_move S root a (λ at. go_to t a at.path at.env at.spec) b (λ at is h. step_leads S root a at b is (to_steps S t a at.path at.env at.spec b h)) e

goes_down : (root : SpecTree) (S : Store) (a : Address) → LeadsToPlace root S (from_place root a go_down)
goes_down root S a b e = placed_move S root a (λ at. go_down a at.path at.env at.spec) b (λ at is h. down_leads S root a at b is (down_steps S a at.path at.env at.spec b h)) e

-- where the first part has a place, the second is led to where the first has a value
pub second_leads : (S : Store) (root : SpecTree) (a : Address) (at above : PlaceTree) → answer S (place root a) ≡ Some above → answer S (place root (First ∷ a)) ≡ Some at → IsSome (answer S (value at.path at.env at.spec)) → IsSome (answer S (place root (Second ∷ a)))
second_leads S root a at above is first valued = ap is_some (place_step S root a above Second is) ∙ by above.path above.env above.spec (sym (place_step S root a above First is) ∙ first)
  where
    by : (p : List (List ℕ)) (env : Bindings) (s : SpecTree) → answer S (lead First p env s) ≡ Some at → IsSome (answer S (lead Second p env s))
    by p env SpecTree.file e = cc
    by p env SpecTree.dir e = cc
    by p env SpecTree.link e = cc
    by p env (SpecTree.focus x s) e = cc
    by p env (SpecTree.pred x) e = cc
    by p env (SpecTree.comp s x set) e = cc
    by p env (SpecTree.opt s) e = cc
    by p env (SpecTree.call args params s) e = cc
    by p env (SpecTree.last args params) e = cc
    by p env (SpecTree.pair x s u) e =
        let same : placed p env s ≡ at = cc in
        ap is_some (answer-bind S (value p env s) (λ v. Answer (option_map (λ v. placed p (bind env x v) u) v)))
        ∙ mapped (answer S (value p env s)) (subst (λ (at : PlaceTree). IsSome (answer S (value at.path at.env at.spec))) (sym same) valued)
      where
        mapped : (o : Option Tree) → IsSome o → is_some (option_map (λ v. placed p (bind env x v) u) o) ≡ true
        mapped None h = cc
        mapped (Some v) h = refl

pub above_first : (S : Store) (root : SpecTree) (a : Address) (step : Step) (at : PlaceTree) → answer S (place root (step ∷ a)) ≡ Some at → (above : PlaceTree) × (answer S (place root a) ≡ Some above)
unfolding place
above_first S root a step at e = by (answer S (place root a)) refl (sym (answer-bind S (place root a) (with_some λ at. lead step at.path at.env at.spec)) ∙ e)
  where
    by : (o : Option PlaceTree) → answer S (place root a) ≡ o → answer S (with_some (λ (at : PlaceTree). lead step at.path at.env at.spec) o) ≡ Some at → (above : PlaceTree) × (answer S (place root a) ≡ Some above)
    by None is h = cc
    by (Some above) is h = (above, is)

pub no_step : (S : Store) (root : SpecTree) (a b : Address) → answer S (at_place root a (λ at. Answer (Err Refusal.NoStep))) ≡ Ok b → ⊥
no_step S root a b e = placed_move S root a (λ at. Answer (Err Refusal.NoStep)) b (λ at is h. wrong h) e
  where
    wrong : ◌≡◌ {A = Answered Address} (Err Refusal.NoStep) (Ok b) → ⊥
    wrong h = cc

next_leads : (root : SpecTree) (S : Store) (a : Address) → LeadsToPlace root S (go_next root a)
next_leads root S (First ∷ a) b e =
    placed_move S root (First ∷ a) (λ at. value at.path at.env at.spec >>= λ v. Answer (cond (is_some v) (Ok (Second ∷ a)) (Err Refusal.Lacks))) b
    (λ at is h. by at is (answer S (value at.path at.env at.spec)) refl (sym (answer-bind S (value at.path at.env at.spec) (λ v. Answer (cond (is_some v) (Ok (Second ∷ a)) (Err Refusal.Lacks)))) ∙ h)) e
  where
    by : (at : PlaceTree) → answer S (place root (First ∷ a)) ≡ Some at → (o : Option Tree) → answer S (value at.path at.env at.spec) ≡ o → cond (is_some o) (Ok (Second ∷ a)) (Err Refusal.Lacks) ≡ Ok b → IsSome (answer S (place root b))
    by at is None v h = cc
    by at is (Some w) v h =
        let same : (Second ∷ a) ≡ b = cc in
        let above = above_first S root a First at is in
        subst (λ b. IsSome (answer S (place root b))) same (second_leads S root a at above.0 above.1 is (ap is_some v))
next_leads root S (Elem t ∷ a) b e =
    placed_move S root (Elem t ∷ a) (λ at. at_place root a λ above. another a (least_above t) above.path above.env above.spec) b (λ at is h. another_leads S root a (least_above t) (λ ts u k. has_above t ts u k) b h) e
next_leads root S [] b e = absurd (no_step S root [] b e)
next_leads root S (Second ∷ a) b e = absurd (no_step S root (Second ∷ a) b e)
next_leads root S (Inside ∷ a) b e = absurd (no_step S root (Inside ∷ a) b e)
next_leads root S (Down ∷ a) b e = absurd (no_step S root (Down ∷ a) b e)
next_leads root S (Body ∷ a) b e = absurd (no_step S root (Body ∷ a) b e)

-- where the second part has a place, so has the first
pub first_leads : (S : Store) (root : SpecTree) (a : Address) (at above : PlaceTree) → answer S (place root a) ≡ Some above → answer S (place root (Second ∷ a)) ≡ Some at → IsSome (answer S (place root (First ∷ a)))
first_leads S root a at above is second = ap is_some (place_step S root a above First is) ∙ by above.path above.env above.spec (sym (place_step S root a above Second is) ∙ second)
  where
    by : (p : List (List ℕ)) (env : Bindings) (s : SpecTree) → answer S (lead Second p env s) ≡ Some at → IsSome (answer S (lead First p env s))
    by p env SpecTree.file e = cc
    by p env SpecTree.dir e = cc
    by p env SpecTree.link e = cc
    by p env (SpecTree.focus x s) e = cc
    by p env (SpecTree.pred x) e = cc
    by p env (SpecTree.comp s x set) e = cc
    by p env (SpecTree.opt s) e = cc
    by p env (SpecTree.call args params s) e = cc
    by p env (SpecTree.last args params) e = cc
    by p env (SpecTree.pair x s u) e = refl

prev_leads : (root : SpecTree) (S : Store) (a : Address) → LeadsToPlace root S (go_prev root a)
prev_leads root S (Second ∷ a) b e = placed_move S root (Second ∷ a) (λ at. Answer (Ok (First ∷ a))) b (λ at is h. by at is h) e
  where
    by : (at : PlaceTree) → answer S (place root (Second ∷ a)) ≡ Some at → ◌≡◌ {A = Answered Address} (Ok (First ∷ a)) (Ok b) → IsSome (answer S (place root b))
    by at is h =
        let same : (First ∷ a) ≡ b = cc in
        let above = above_first S root a Second at is in
        subst (λ b. IsSome (answer S (place root b))) same (first_leads S root a at above.0 above.1 is)
prev_leads root S (Elem t ∷ a) b e =
    placed_move S root (Elem t ∷ a) (λ at. at_place root a λ above. another a (greatest_below t) above.path above.env above.spec) b (λ at is h. another_leads S root a (greatest_below t) (λ ts u k. has_below t ts u k) b h) e
prev_leads root S [] b e = absurd (no_step S root [] b e)
prev_leads root S (First ∷ a) b e = absurd (no_step S root (First ∷ a) b e)
prev_leads root S (Inside ∷ a) b e = absurd (no_step S root (Inside ∷ a) b e)
prev_leads root S (Down ∷ a) b e = absurd (no_step S root (Down ∷ a) b e)
prev_leads root S (Body ∷ a) b e = absurd (no_step S root (Body ∷ a) b e)

pub moves_lead_to_places : MovesLeadToPlaces
moves_lead_to_places = record { into = into_leads; to = to_leads; down = goes_down; next = next_leads; prev = prev_leads }

pub moves_are_undone : MovesAreUndone
moves_are_undone = record {
  into = λ root S a b e. placed_move S root a (λ at. go_into a at.path at.env at.spec) b (λ at is h. step_undone S root a at.path at.env at.spec b (into_steps S a at.path at.env at.spec b h)) e;
  to = λ root S a b t e. placed_move S root a (λ at. go_to t a at.path at.env at.spec) b (λ at is h. step_undone S root a at.path at.env at.spec b (to_steps S t a at.path at.env at.spec b h)) e;
  down = λ root S a b e. placed_move S root a (λ at. go_down a at.path at.env at.spec) b (λ at is h. down_undone S root a at.path at.env at.spec b (down_steps S a at.path at.env at.spec b h)) e;
}
