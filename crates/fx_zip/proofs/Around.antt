-- Moves from a first part to the second, and to another element.
use Rattle.fx_zip.proofs.Prelude.{ReadList, ◌≡◌, ℕ, true, false, List, [], ◌∷◌, drop, Option, Some, None, option_map, Result, Ok, Err, refl, sym, ap, ◌∙◌, subst, length, take, IfOk, IsErrAnd, IfSome, Known, Found, follow, answer, ticks}
use Rattle.fx_zip.proofs.Prelude.{Store, least_above, greatest_below, Refusal, Bindings, value, at_place, go_next, go_prev, Step, First, Second, Inside, Down, Body, Elem, Address, PlaceTree, placed, lead, place, SpecTree, IsDescription}
use Rattle.fx_zip.proofs.Prelude.{Stop, Meaning, known_of, HasScope, Halt, Frame, Spot, Finds, Moves, Turns, Turned, next_at, prev_at, next_evals, sideways_evals, beside, AreFound, Stands, last_step, is_first, is_second_step, left}
use Rattle.fx_zip.proofs.Prelude.{StandsIn, IsNoPair, child, part, bound_value, BindsValue, FirstLeads, entered, ZipTree, path_of, here, Implements, Session, own_at}
use Rattle.fx_spec.specs.Evals.{evals_with}
use Rattle.fx_view.specs.declared.reader.Stop.TheVariants as stop
use Rattle.fx_session.specs.declared.halt.Halt.TheVariants as halt
use Rattle.fx_zip.proofs.Beside.{IsPair, is_pair, first_at, second_turns, second_memory, second_none, second_stop, turned_turns}
use Rattle.fx_zip.proofs.Places.{moves_on}
use Rattle.fx_zip.proofs.Standing.{stands_scope}

first_pair : (known own : Known) (p : List (List ℕ)) (env : Bindings) (at : PlaceTree) (s : SpecTree) → follow known own (lead First p env s) ≡ Found (Some at) → IsPair s
first_pair known own p env at SpecTree.file found = absurd (cc)
first_pair known own p env at SpecTree.dir found = absurd (cc)
first_pair known own p env at SpecTree.link found = absurd (cc)
first_pair known own p env at (SpecTree.focus e s) found = absurd (cc)
first_pair known own p env at (SpecTree.pair x a b) found = is_pair x a b refl
first_pair known own p env at (SpecTree.comp s x e) found = absurd (cc)
first_pair known own p env at (SpecTree.opt s) found = absurd (cc)
first_pair known own p env at (SpecTree.pred e) found = absurd (cc)
first_pair known own p env at (SpecTree.call args params s) found = absurd (cc)
first_pair known own p env at (SpecTree.last args params) found = absurd (cc)

pair_around : (known : ReadList) (own : Known) (root : SpecTree) (a : Address) (fs : List Frame) (env : Bindings) → last_step a ≡ Some First → AreFound known own root a fs env → IsPair (part root (drop 1 a))
pair_around known own root [] fs env e found = absurd (cc)
pair_around known own root (Second ∷ a) fs env e found = absurd (cc)
pair_around known own root (Inside ∷ a) fs env e found = absurd (cc)
pair_around known own root (Down ∷ a) fs env e found = absurd (cc)
pair_around known own root (Body ∷ a) fs env e found = absurd (cc)
pair_around known own root (Elem t ∷ a) fs env e found = absurd (cc)
pair_around known own root (First ∷ a) [] env e found = absurd found
pair_around known own root (First ∷ a) (g ∷ fs) env e found = first_pair (known_of (take g.reads known)) own (path_of fs) env (placed g.path env (child First (part root a))) (part root a) found.0

not_pair : (s : SpecTree) → IsPair s → IsNoPair s → ⊥
not_pair s (is_pair x a b form) none = subst IsNoPair form none

module _ (known : ReadList) (own : Known) (z : ZipTree) (stands : Stands known own z) (first : last_step z.address ≡ Some First) (s : SpecTree) (around : s ≡ part z.root (drop 1 z.address)) where
  -- around a first part there is a pair
  pub no_pair_around : IsNoPair s → ⊥
  no_pair_around none = not_pair (part z.root (drop 1 z.address)) (pair_around known own z.root z.address z.frames z.env first stands.found) (subst IsNoPair around none)

  module _ (x : List ℕ) (a b : SpecTree) (form : s ≡ SpecTree.pair x a b) where
    pub first_scope : IsDescription [] z.root → (env : Bindings) → env ≡ z.env → HasScope env a
    first_scope d env bound =
        let at = first_at known own z.root z.address z.frames z.env x a b first (sym around ∙ form) stands.found in
        let is : part z.root z.address ≡ a = ap (part z.root) at.2 ∙ ap (child First) (sym around ∙ form) in
        subst (λ e. HasScope e a) (sym bound) (subst (HasScope z.env) is (stands_scope known own z d stands))

    pub first_leads_on : {R L : Type 0} (m : Meaning R) (was now : Session R L) (r : Result (Option Spot) Stop) (p : List (List ℕ)) (env : Bindings) → p ≡ path_of (drop 1 z.frames) → env ≡ z.env
        → Implements m (option_map bound_value) was now (value p env a) r → IfOk r (λ o. IfSome o (λ spot. BindsValue p x (bound_value spot) spot × (spot.reads ≡ length (m.reads now.reader.now)))) → FirstLeads m z was now r
    first_leads_on m was now r p env path bound follows spot = record {
      name = x;
      first = a;
      second = b;
      form = sym around ∙ form;
      follows =
          subst (λ q. Implements m (option_map bound_value) was now (value q z.env a) r) path
          (subst (λ e. Implements m (option_map bound_value) was now (value p e a) r) bound follows);
      spot = subst (λ q. IfOk r (λ o. IfSome o (λ spot. BindsValue q x (bound_value spot) spot × (spot.reads ≡ length (m.reads now.reader.now))))) path spot;
    }

module _ {R L : Type 0} (m : Meaning R) (z : ZipTree) (was now : Session R L) (stands : StandsIn m was z) (first : last_step z.address ≡ Some First) (mid : ZipTree) (same : mid ≡ z) where
  abbrev SecondTo : ZipTree → Result (Unit {0}) Halt → Type 0
  SecondTo new r = Turns m z new was now (next_at z.root z.address (here z)) (next_evals z.address (here z)) r

  pub to_second_on : (o : Option Spot) (spot : Spot) (new : ZipTree) → o ≡ Some spot → FirstLeads m z was now (Ok o) → new ≡ entered (left mid) Second spot → SecondTo new (Ok tt)
  to_second_on o spot new some leads is =
      let h : FirstLeads m z was now (Ok (Some spot)) = subst (λ o. FirstLeads m z was now (Ok o)) some leads in
      second_turns m z was now stands first h.name h.first h.second h.form spot new h.follows h.spot (is ∙ ap (λ z. entered (left z) Second spot) same)

  pub to_second_memory : (o : Option Spot) (new : ZipTree) (r : Result (Unit {0}) Halt) → FirstLeads m z was now (Ok o) → new.root ≡ mid.root → IsErrAnd r (λ d. d ≡ halt.Stopped stop.NoMemory) → SecondTo new r
  to_second_memory o new r h root none = second_memory m z was now stands first h.name h.first h.second h.form o new r h.follows (root ∙ ap (λ (z : ZipTree). z.root) same) none

  pub to_second_none : (o : Option Spot) → o ≡ None → FirstLeads m z was now (Ok o) → SecondTo mid (Err (halt.Refused Refusal.Lacks))
  to_second_none o none leads =
      let h : FirstLeads m z was now (Ok None) = subst (λ (o : Option Spot). FirstLeads m z was now (Ok o)) none leads in
      subst (λ z. SecondTo z (Err (halt.Refused Refusal.Lacks))) (sym same) (second_none m z was now stands first h.name h.first h.second h.form h.follows)

  pub to_second_stop : (why : Stop) (r : Result (Unit {0}) Halt) → FirstLeads m z was now (Err why) → IsErrAnd r (λ d. d ≡ halt.Stopped why) → SecondTo mid r
  to_second_stop why r h none = subst (λ z. SecondTo z r) (sym same) (second_stop m z was now stands first h.name h.first h.second h.form why r h.follows none)

-- ---- the whole moves

pub next_rule : (root : SpecTree) (a : Address) → at_place root a (next_at root a) ≡ go_next root a
next_rule root [] = refl
next_rule root (First ∷ a) = refl
next_rule root (Second ∷ a) = refl
next_rule root (Inside ∷ a) = refl
next_rule root (Down ∷ a) = refl
next_rule root (Body ∷ a) = refl
next_rule root (Elem t ∷ a) = refl

pub prev_rule : (root : SpecTree) (a : Address) → at_place root a (prev_at root a) ≡ go_prev root a
prev_rule root [] = refl
prev_rule root (First ∷ a) = refl
prev_rule root (Second ∷ a) = refl
prev_rule root (Inside ∷ a) = refl
prev_rule root (Down ∷ a) = refl
prev_rule root (Body ∷ a) = refl
prev_rule root (Elem t ∷ a) = refl

next_counted : (z : ZipTree) (w : Address) (at : PlaceTree) (S : Store) → answer S (place z.root z.address) ≡ Some at → sideways_evals z w S ≡ next_evals w at S
next_counted z [] at S is = refl
next_counted z (First ∷ a) at S is = ap (evals_with (λ at. ticks S (value at.path at.env at.spec))) is
next_counted z (Second ∷ a) at S is = refl
next_counted z (Inside ∷ a) at S is = refl
next_counted z (Down ∷ a) at S is = refl
next_counted z (Body ∷ a) at S is = refl
next_counted z (Elem t ∷ a) at S is = refl

next_other : (root : SpecTree) (a : Address) (at : PlaceTree) → is_first (last_step a) ≡ false → beside root least_above a ≡ next_at root a at
next_other root [] at e = refl
next_other root (First ∷ a) at e = absurd (cc)
next_other root (Second ∷ a) at e = refl
next_other root (Inside ∷ a) at e = refl
next_other root (Down ∷ a) at e = refl
next_other root (Body ∷ a) at e = refl
next_other root (Elem t ∷ a) at e = refl

prev_other : (root : SpecTree) (a : Address) (at : PlaceTree) → is_second_step (last_step a) ≡ false → beside root greatest_below a ≡ prev_at root a at
prev_other root [] at e = refl
prev_other root (First ∷ a) at e = refl
prev_other root (Second ∷ a) at e = absurd (cc)
prev_other root (Inside ∷ a) at e = refl
prev_other root (Down ∷ a) at e = refl
prev_other root (Body ∷ a) at e = refl
prev_other root (Elem t ∷ a) at e = refl

pub first_of_true : (o : Option Step) → is_first o ≡ true → o ≡ Some First
first_of_true None e = absurd (cc)
first_of_true (Some First) e = refl
first_of_true (Some Second) e = absurd (cc)
first_of_true (Some Inside) e = absurd (cc)
first_of_true (Some Down) e = absurd (cc)
first_of_true (Some Body) e = absurd (cc)
first_of_true (Some (Elem t)) e = absurd (cc)

pub second_of_true : (o : Option Step) → is_second_step o ≡ true → o ≡ Some Second
second_of_true None e = absurd (cc)
second_of_true (Some First) e = absurd (cc)
second_of_true (Some Second) e = refl
second_of_true (Some Inside) e = absurd (cc)
second_of_true (Some Down) e = absurd (cc)
second_of_true (Some Body) e = absurd (cc)
second_of_true (Some (Elem t)) e = absurd (cc)

module _ {R L : Type 0} (m : Meaning R) (old mid : ZipTree) (was then : Session R L) (finds : Finds m old mid was then (Ok tt)) (new : ZipTree) (r : Result (Unit {0}) Halt) where
  pub moved_next : (now : Session R L) → Turns m mid new then now (next_at mid.root mid.address (here mid)) (next_evals mid.address (here mid)) r → Moves m old new was now (go_next old.root old.address) (sideways_evals old old.address) r
  moved_next now turns =
      moves_on m old mid was then finds new now (next_at old.root old.address) (go_next old.root old.address) (next_rule old.root old.address) (next_evals old.address (here mid)) (sideways_evals old old.address) (next_counted old old.address (here mid)) r
      (subst (λ a. Turns m mid new then now (next_at old.root a (here mid)) (next_evals a (here mid)) r) finds.address
      (subst (λ root. Turns m mid new then now (next_at root mid.address (here mid)) (next_evals mid.address (here mid)) r) finds.root turns))

  pub moved_greater : is_first (last_step mid.address) ≡ false → Turned (m.reads then.reader.now) (own_at then.own) mid new (beside mid.root least_above mid.address) r → Moves m old new was then (go_next old.root old.address) (sideways_evals old old.address) r
  moved_greater other turned =
      moved_next then
      (turned_turns m mid new then (next_at mid.root mid.address (here mid)) (next_evals mid.address (here mid)) r
      (subst (λ rule. Turned (m.reads then.reader.now) (own_at then.own) mid new rule r) (next_other mid.root mid.address (here mid) other) turned))

  moved_prev : Turned (m.reads then.reader.now) (own_at then.own) mid new (prev_at mid.root mid.address (here mid)) r → Moves m old new was then (go_prev old.root old.address) (λ S. 0) r
  moved_prev turned =
      moves_on m old mid was then finds new then (prev_at old.root old.address) (go_prev old.root old.address) (prev_rule old.root old.address) (λ S. 0) (λ S. 0) (λ S is. refl) r
      (subst (λ a. Turns m mid new then then (prev_at old.root a (here mid)) (λ S. 0) r) finds.address
      (subst (λ root. Turns m mid new then then (prev_at root mid.address (here mid)) (λ S. 0) r) finds.root
      (turned_turns m mid new then (prev_at mid.root mid.address (here mid)) (λ S. 0) r turned)))

  pub moved_first : Turned (m.reads then.reader.now) (own_at then.own) mid new (prev_at mid.root mid.address (here mid)) r → Moves m old new was then (go_prev old.root old.address) (λ S. 0) r
  moved_first = moved_prev

  pub moved_smaller : is_second_step (last_step mid.address) ≡ false → Turned (m.reads then.reader.now) (own_at then.own) mid new (beside mid.root greatest_below mid.address) r → Moves m old new was then (go_prev old.root old.address) (λ S. 0) r
  moved_smaller other turned = moved_prev (subst (λ rule. Turned (m.reads then.reader.now) (own_at then.own) mid new rule r) (prev_other mid.root mid.address (here mid) other) turned)
