-- `next` and `prev` undo each other.
use Rattle.std.proofs.Common.{◌≡◌, ℕ, Bool, true, false, cond, refl, ap, sym, subst, ◌∙◌, List, [], ◌∷◌, Option, Some, None, Ok, Err, is_some}
use Rattle.std.specs.Prelude.{IfOk, IsSome}
use Rattle.std.specs.Option.{option_map}
use Rattle.fx_text.proofs.Chosen.{has_above, has_below}
use Rattle.fx_store.specs.Rule.{Ask, Answer, answer, ◌>>=◌}
use Rattle.fx_store.specs.Whole.{Store}
use Rattle.fx_store.proofs.Asks.{answer-bind}
use Rattle.fx_expr.specs.Bindings.{bind}
use Rattle.fx_expr.specs.Eval.{Outcome, eval_of, names_in}
use Rattle.fx_expr.specs.ExprTree.{ExprTree}
use Rattle.fx_expr.specs.Sets.{IsAscending, has_text, least_above, greatest_below}
use Rattle.fx_expr.specs.Tree.{Tree}
use Rattle.fx_spec.specs.declared.refusal.Refusal.{Refusal}
use Rattle.fx_spec.specs.SpecTree.{SpecTree}
use Rattle.fx_spec.specs.Describe.{Bindings, value}
use Rattle.fx_spec.specs.Move.{Answered, unrefused, needed, at_place, element, chosen, another, go_next, go_prev}
use Rattle.fx_spec.specs.Place.{First, Second, Inside, Down, Body, Elem, Address, PlaceTree, placed, where_true, has_element, lead, place}
use Rattle.fx_laws.specs.Moved.{HasAscendingSet, IsInAscending, NeighboursComeBack}
use Rattle.fx_laws.proofs.Moved.{place_step, placed_move, above_first, second_leads, first_leads, no_step}
use Rattle.fx_laws.proofs.Stepping.{above_then_below, below_then_above}

-- ---- a rule at a place that is there

at_is : {B : Type 0} (S : Store) (root : SpecTree) (a : Address) (next : PlaceTree → Ask (Answered B)) (at : PlaceTree) → answer S (place root a) ≡ Some at → answer S (at_place root a next) ≡ answer S (next at)
at_is S root a next at is = answer-bind S (place root a) (λ at. unrefused next (needed Refusal.NoPlace at)) ∙ ap (λ o. answer S (unrefused next (needed Refusal.NoPlace o))) is

there : (o : Option PlaceTree) → IsSome o → (at : PlaceTree) × (o ≡ Some at)
there None h = cc
there (Some at) h = (at, refl)

is_true : (b : Bool) (pl at : PlaceTree) → where_true b pl ≡ Some at → b ≡ true
is_true true pl at e = refl
is_true false pl at e = cc

-- ---- elements

-- the element that a choice among a comprehension's set gives
data Chooses (a : Address) (choice : List (List ℕ) → Option (List ℕ)) (env : Bindings) : SpecTree → Address → Type 0 where
  chooses : (s : SpecTree) (x : List ℕ) (e : ExprTree) (set : Tree) (u : List ℕ) → eval_of env e ≡ Ok set → choice (names_in set) ≡ Some u → Chooses a choice env (SpecTree.comp s x e) (Elem u ∷ a)

it_chooses : (S : Store) (a : Address) (choice : List (List ℕ) → Option (List ℕ)) (p : List (List ℕ)) (env : Bindings) (s : SpecTree) (b : Address) → answer S (another a choice p env s) ≡ Ok b → Chooses a choice env s b
it_chooses S a choice p env SpecTree.file b h = cc
it_chooses S a choice p env SpecTree.dir b h = cc
it_chooses S a choice p env SpecTree.link b h = cc
it_chooses S a choice p env (SpecTree.focus x s) b h = cc
it_chooses S a choice p env (SpecTree.pred x) b h = cc
it_chooses S a choice p env (SpecTree.pair x s u) b h = cc
it_chooses S a choice p env (SpecTree.opt s) b h = cc
it_chooses S a choice p env (SpecTree.call args params s) b h = cc
it_chooses S a choice p env (SpecTree.last args params) b h = cc
it_chooses S a choice p env (SpecTree.comp s x e) b h = by (eval_of env e) refl h
  where
    by : (o : Outcome) → eval_of env e ≡ o → chosen a choice o ≡ Ok b → Chooses a choice env (SpecTree.comp s x e) b
    by (Err f) given k = cc
    by (Ok set) given k = one (choice (names_in set)) refl k
      where
        one : (c : Option (List ℕ)) → choice (names_in set) ≡ c → element a c ≡ Ok b → Chooses a choice env (SpecTree.comp s x e) b
        one None is k = cc
        one (Some u) is k = let same : (Elem u ∷ a) ≡ b = cc in subst (Chooses a choice env (SpecTree.comp s x e)) same (chooses s x e set u given is)

-- two choices of which the second undoes the first
module _ (go back : List ℕ → List (List ℕ) → Option (List ℕ)) (undoes : (ts : List (List ℕ)) (t u : List ℕ) → IsAscending ts → has_text t ts ≡ true → go t ts ≡ Some u → back u ts ≡ Some t)
    (stays : (t : List ℕ) (ts : List (List ℕ)) (u : List ℕ) → go t ts ≡ Some u → has_text u ts ≡ true) (S : Store) (root : SpecTree) (a : Address) (t : List ℕ) where
  abbrev Comes : (List ℕ → List (List ℕ) → Option (List ℕ)) → List ℕ → Ask (Answered Address)
  Comes choice u = at_place root (Elem u ∷ a) λ at. at_place root a λ above. another a (choice u) above.path above.env above.spec

  -- where the choice leads the other comes back
  abbrev ComesBack : Address → Type 0
  ComesBack b = (u : List ℕ) → b ≡ Elem u ∷ a → answer S (Comes back u) ≡ Ok (Elem t ∷ a)

  same_elem : (v u : List ℕ) → ◌≡◌ {A = Address} (Elem v ∷ a) (Elem u ∷ a) → v ≡ u
  same_elem v u e = cc

  back_from : (p : List (List ℕ)) (env : Bindings) (s : SpecTree) → answer S (place root a) ≡ Some (placed p env s) → HasAscendingSet env s → (at : PlaceTree) → answer S (lead (Elem t) p env s) ≡ Some at → (b : Address) → Chooses a (go t) env s b → ComesBack b
  back_from p env form is ascends at led b (chooses s x e set v given picks) u same_b =
      let same : v ≡ u = same_elem v u same_b in
      let found : go t (names_in set) ≡ Some u = picks ∙ ap Some same in
      let here : has_text t (names_in set) ≡ true = ap (has_element t) (sym given) ∙ is_true (has_element t (eval_of env e)) (placed p (bind env x (Tree.str t)) s) at led in
      let ascending : IsAscending (names_in set) = subst (λ o. IfOk o (λ set. IsAscending (names_in set))) given ascends in
      let comes : back u (names_in set) ≡ Some t = undoes (names_in set) t u ascending here found in
      let inner : PlaceTree = placed p (bind env x (Tree.str u)) s in
      let led_on : answer S (place root (Elem u ∷ a)) ≡ Some inner =
      place_step S root a (placed p env (SpecTree.comp s x e)) (Elem u) is ∙ (ap (λ o. where_true (has_element u o) inner) given ∙ ap (λ b. where_true b inner) (stays t (names_in set) u found)) in
      at_is S root (Elem u ∷ a) (λ at. at_place root a λ above. another a (back u) above.path above.env above.spec) inner led_on
      ∙ (at_is S root a (λ above. another a (back u) above.path above.env above.spec) (placed p env (SpecTree.comp s x e)) is
      ∙ (ap (chosen a (back u)) given ∙ ap (element a) comes))

  elem_back : (b : Address) → IsInAscending root S (Elem t ∷ a) → answer S (Comes go t) ≡ Ok b → (u : List ℕ) × (b ≡ Elem u ∷ a) × (answer S (Comes back u) ≡ Ok (Elem t ∷ a))
  elem_back b ascends e =
      placed_move S root (Elem t ∷ a) (λ at. at_place root a λ above. another a (go t) above.path above.env above.spec) b
      (λ at is h. placed_move S root a (λ above. another a (go t) above.path above.env above.spec) b
      (λ above there k. named b (it_chooses S a (go t) above.path above.env above.spec b k) (back_from above.path above.env above.spec there (ascends above there) at (sym (place_step S root a above (Elem t) there) ∙ is) b (it_chooses S a (go t) above.path above.env above.spec b k))) h) e
    where
      named : {env : Bindings} {s : SpecTree} (c : Address) → Chooses a (go t) env s c → ComesBack c → (u : List ℕ) × (c ≡ Elem u ∷ a) × (answer S (Comes back u) ≡ Ok (Elem t ∷ a))
      named c (chooses s x e set u given picks) comes = (u, refl, comes u refl)

-- ---- the parts of a pair

second_back : (S : Store) (root : SpecTree) (a b : Address) → answer S (go_next root (First ∷ a)) ≡ Ok b → answer S (go_prev root b) ≡ Ok (First ∷ a)
second_back S root a b e =
    placed_move S root (First ∷ a) (λ at. value at.path at.env at.spec >>= λ v. Answer (cond (is_some v) (Ok (Second ∷ a)) (Err Refusal.Lacks))) b
    (λ at is h. by at is (answer S (value at.path at.env at.spec)) refl (sym (answer-bind S (value at.path at.env at.spec) (λ v. Answer (cond (is_some v) (Ok (Second ∷ a)) (Err Refusal.Lacks)))) ∙ h)) e
  where
    by : (at : PlaceTree) → answer S (place root (First ∷ a)) ≡ Some at → (o : Option Tree) → answer S (value at.path at.env at.spec) ≡ o → cond (is_some o) (Ok (Second ∷ a)) (Err Refusal.Lacks) ≡ Ok b → answer S (go_prev root b) ≡ Ok (First ∷ a)
    by at is None v h = cc
    by at is (Some w) v h =
        let same : (Second ∷ a) ≡ b = cc in
        let above = above_first S root a First at is in
        let second = there (answer S (place root (Second ∷ a))) (second_leads S root a at above.0 above.1 is (ap is_some v)) in
        subst (λ b. answer S (go_prev root b) ≡ Ok (First ∷ a)) same (at_is S root (Second ∷ a) (λ at. Answer (Ok (First ∷ a))) second.0 second.1)

-- a second part has a place where the first has a value
first_valued : (S : Store) (p : List (List ℕ)) (env : Bindings) (s : SpecTree) (first second : PlaceTree) → answer S (lead First p env s) ≡ Some first → answer S (lead Second p env s) ≡ Some second → IsSome (answer S (value first.path first.env first.spec))
first_valued S p env SpecTree.file first second e f = cc
first_valued S p env SpecTree.dir first second e f = cc
first_valued S p env SpecTree.link first second e f = cc
first_valued S p env (SpecTree.focus x s) first second e f = cc
first_valued S p env (SpecTree.pred x) first second e f = cc
first_valued S p env (SpecTree.comp s x set) first second e f = cc
first_valued S p env (SpecTree.opt s) first second e f = cc
first_valued S p env (SpecTree.call args params s) first second e f = cc
first_valued S p env (SpecTree.last args params) first second e f = cc
first_valued S p env (SpecTree.pair x s u) first second e f =
    let same : placed p env s ≡ first = cc in
    subst (λ (at : PlaceTree). IsSome (answer S (value at.path at.env at.spec))) same
    (by (answer S (value p env s)) (sym (answer-bind S (value p env s) (λ v. Answer (option_map (λ v. placed p (bind env x v) u) v))) ∙ f))
  where
    by : (o : Option Tree) → option_map (λ v. placed p (bind env x v) u) o ≡ Some second → IsSome o
    by None h = cc
    by (Some v) h = refl

first_back : (S : Store) (root : SpecTree) (a b : Address) → answer S (go_prev root (Second ∷ a)) ≡ Ok b → answer S (go_next root b) ≡ Ok (Second ∷ a)
first_back S root a b e = placed_move S root (Second ∷ a) (λ at. Answer (Ok (First ∷ a))) b (λ at is h. by at is h) e
  where
    by : (at : PlaceTree) → answer S (place root (Second ∷ a)) ≡ Some at → ◌≡◌ {A = Answered Address} (Ok (First ∷ a)) (Ok b) → answer S (go_next root b) ≡ Ok (Second ∷ a)
    by at is h =
        let same : (First ∷ a) ≡ b = cc in
        let above = above_first S root a Second at is in
        let first = there (answer S (place root (First ∷ a))) (first_leads S root a at above.0 above.1 is) in
        let valued = first_valued S above.0.path above.0.env above.0.spec first.0 at (sym (place_step S root a above.0 First above.1) ∙ first.1) (sym (place_step S root a above.0 Second above.1) ∙ is) in
        subst (λ b. answer S (go_next root b) ≡ Ok (Second ∷ a)) same
        (at_is S root (First ∷ a) (λ at. value at.path at.env at.spec >>= λ v. Answer (cond (is_some v) (Ok (Second ∷ a)) (Err Refusal.Lacks))) first.0 first.1
        ∙ (answer-bind S (value first.0.path first.0.env first.0.spec) (λ v. Answer (cond (is_some v) (Ok (Second ∷ a)) (Err Refusal.Lacks))) ∙ ap (λ t. cond t (Ok (Second ∷ a)) (Err Refusal.Lacks)) valued))

-- ---- the laws

next_back : (root : SpecTree) (S : Store) (a b : Address) → IsInAscending root S a → answer S (go_next root a) ≡ Ok b → answer S (go_prev root b) ≡ Ok a
next_back root S (First ∷ a) b ascends e = second_back S root a b e
next_back root S (Elem t ∷ a) b ascends e =
    let w = elem_back least_above greatest_below above_then_below has_above S root a t b ascends e in
    subst (λ b. answer S (go_prev root b) ≡ Ok (Elem t ∷ a)) (sym w.1) w.2
next_back root S [] b ascends e = absurd (no_step S root [] b e)
next_back root S (Second ∷ a) b ascends e = absurd (no_step S root (Second ∷ a) b e)
next_back root S (Inside ∷ a) b ascends e = absurd (no_step S root (Inside ∷ a) b e)
next_back root S (Down ∷ a) b ascends e = absurd (no_step S root (Down ∷ a) b e)
next_back root S (Body ∷ a) b ascends e = absurd (no_step S root (Body ∷ a) b e)

prev_back : (root : SpecTree) (S : Store) (a b : Address) → IsInAscending root S a → answer S (go_prev root a) ≡ Ok b → answer S (go_next root b) ≡ Ok a
prev_back root S (Second ∷ a) b ascends e = first_back S root a b e
prev_back root S (Elem t ∷ a) b ascends e =
    let w = elem_back greatest_below least_above below_then_above has_below S root a t b ascends e in
    subst (λ b. answer S (go_next root b) ≡ Ok (Elem t ∷ a)) (sym w.1) w.2
prev_back root S [] b ascends e = absurd (no_step S root [] b e)
prev_back root S (First ∷ a) b ascends e = absurd (no_step S root (First ∷ a) b e)
prev_back root S (Inside ∷ a) b ascends e = absurd (no_step S root (Inside ∷ a) b e)
prev_back root S (Down ∷ a) b ascends e = absurd (no_step S root (Down ∷ a) b e)
prev_back root S (Body ∷ a) b ascends e = absurd (no_step S root (Body ∷ a) b e)

pub neighbours_come_back : NeighboursComeBack
neighbours_come_back = record { next = next_back; prev = prev_back }
