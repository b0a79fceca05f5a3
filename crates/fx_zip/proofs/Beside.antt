-- Moves from a step to one beside it.
use Rattle.fx_zip.proofs.Prelude.{ReadList, ◌≡◌, ℕ, ◌-◌, true, cond, List, [], ◌∷◌, length, drop, take, Option, Some, None, is_some, option_map, Result, Ok, Err, refl, sym, ap, ◌∙◌, subst, arith, IsErrAnd, IfOk, MatchOption, Known, Ask}
use Rattle.fx_zip.proofs.Prelude.{Answer, Found, follow, ticks, changed, ◌>>=◌, Store, bind, Outcome, eval_of, ExprTree, has_text, Tree, Refusal, Bindings, value, Answered, unrefused, needed, at_place, another, element}
use Rattle.fx_zip.proofs.Prelude.{Step, First, Second, Inside, Down, Body, Elem, Address, PlaceTree, placed, lead, place, SpecTree, Stop, Meaning, known_of, err_of, follow-bind, Halt, answered, split, Entry, Frame, Spot, OnRefused}
use Rattle.fx_zip.proofs.Prelude.{SaysFound, Turns, Turned, Besides, beside, next_at, prev_at, next_evals, around, around_last, HasSet, IsHeldSet, AreFound, Stands, IsNoElement, last_step, last_set, last_caller, left, StandsIn, child, part}
use Rattle.fx_zip.proofs.Prelude.{comp_name, bound_value, LeadsToSpot, LeadsFrom, Chooses, BindsValue, entered, step_tree, Says, set_answer, ZipTree, path_of, here, Implements, Answers, then_answers, then_refused, stops, same_rule, refused}
use Rattle.fx_zip.proofs.Prelude.{Session, own_at}
use Rattle.fx_view.specs.declared.reader.Stop.TheVariants as stop
use Rattle.fx_session.specs.declared.halt.Halt.TheVariants as halt
use Rattle.fx_steps.specs.declared.frame.Bound.TheVariants as bounds
use Rattle.fx_steps.proofs.Consulting.{by_all}
use Rattle.fx_steps.proofs.Entering.{chosen_is, leads_at, leads_step}
use Rattle.fx_steps.proofs.Leads.{first_leads, element_leads, grown_is, front_last}
use Rattle.fx_zip.proofs.Standing.{found_place, stands_settled, stands_left, stands_entered, left_settled}
use Rattle.fx_zip.proofs.Sessions.{stands_on, found_on}
use Rattle.fx_steps.proofs.Sessions.{found_by}

says_found : {A X : Type 0} (known own : Known) (view : X → A) (rule : Ask A) (o : A) (r : Result X Stop) → follow known own rule ≡ Found o → Says view (Some o) r → SaysFound known own view rule r
says_found known own view rule o (Ok x) e h = let same : o ≡ view x = cc in e ∙ ap (λ a. Found a) same
says_found known own view rule o (Err stop.NoMemory) e h = tt
says_found known own view rule o (Err (stop.Needs p)) e h = absurd h

-- ---- the set around an element

module _ (known own : Known) (p : List (List ℕ)) (env : Bindings) (t : List ℕ) (at : PlaceTree) (set : List (List ℕ)) where
  -- an element stands in a comprehension, of which the kept set is the set
  pub data InSet (s : SpecTree) : Type 0 where
    in_set : (d : SpecTree) (x : List ℕ) (e : ExprTree) → s ≡ SpecTree.comp d x e → set_answer (eval_of env e) ≡ Ok set → InSet s

  held_set : (o : Outcome) (kept : Option (List (List ℕ))) → kept ≡ Some set → HasSet kept o → set_answer o ≡ Ok set
  held_set o kept e h = subst (λ k. HasSet k o) e h

  pub element_in : (s : SpecTree) (kept : Option (List (List ℕ))) → follow known own (lead (Elem t) p env s) ≡ Found (Some at) → kept ≡ Some set → IsHeldSet (Elem t) kept env s → InSet s
  element_in SpecTree.file kept found e h = absurd (cc)
  element_in SpecTree.dir kept found e h = absurd (cc)
  element_in SpecTree.link kept found e h = absurd (cc)
  element_in (SpecTree.focus a b) kept found e h = absurd (cc)
  element_in (SpecTree.pair x a b) kept found e h = absurd (cc)
  element_in (SpecTree.comp d x a) kept found e h = in_set d x a refl (held_set (eval_of env a) kept e h)
  element_in (SpecTree.opt s) kept found e h = absurd (cc)
  element_in (SpecTree.pred a) kept found e h = absurd (cc)
  element_in (SpecTree.call args params s) kept found e h = absurd (cc)
  element_in (SpecTree.last args params) kept found e h = absurd (cc)

  -- without a kept set there is no such place
  pub no_element : (s : SpecTree) → follow known own (lead (Elem t) p env s) ≡ Found (Some at) → IsHeldSet (Elem t) None env s → ⊥
  no_element SpecTree.file found h = absurd (cc)
  no_element SpecTree.dir found h = absurd (cc)
  no_element SpecTree.link found h = absurd (cc)
  no_element (SpecTree.focus a b) found h = absurd (cc)
  no_element (SpecTree.pair x a b) found h = absurd (cc)
  no_element (SpecTree.comp d x a) found h = h
  no_element (SpecTree.opt s) found h = absurd (cc)
  no_element (SpecTree.pred a) found h = absurd (cc)
  no_element (SpecTree.call args params s) found h = absurd (cc)
  no_element (SpecTree.last args params) found h = absurd (cc)

-- the place around, and then the rule
at_found : {B : Type 0} (known own : Known) (root : SpecTree) (a : Address) (rest : PlaceTree → Ask (Answered B)) (at : PlaceTree) → follow known own (place root a) ≡ Found (Some at) → follow known own (at_place root a rest) ≡ follow known own (rest at)
at_found known own root a rest at e = follow-bind known own (place root a) (λ at. unrefused rest (needed Refusal.NoPlace at)) (Some at) e

module _ (known : ReadList) (own : Known) (root : SpecTree) (f : List ℕ → List (List ℕ) → Option (List ℕ)) where
  abbrev rest_of : Address → List ℕ → PlaceTree → Ask (Answered Address)
  rest_of a t above = another a (f t) above.path above.env above.spec

  -- another element of the comprehension around
  other_found : (a : Address) (fs : List Frame) (env : Bindings) (t : List ℕ) (set : List (List ℕ)) → AreFound known own root a fs env → InSet (known_of known) own (path_of fs) env t (placed (path_of fs) env (part root a)) set (part root a)
      → follow (known_of known) own (beside root f (Elem t ∷ a)) ≡ Found (element a (f t set))
  other_found a fs env t set found (in_set d x e form answer) =
      at_found (known_of known) own root a (rest_of a t) (placed (path_of fs) env (part root a)) (found_place known own root a fs env found)
      ∙ ap (λ s. follow (known_of known) own (another a (f t) (path_of fs) env s)) form
      ∙ ap (λ o. Found o) (chosen_is a (f t) (eval_of env e) set answer)

  leads_other : (a : Address) (fs : List Frame) (env : Bindings) (t : List ℕ) (set : List (List ℕ)) → InSet (known_of known) own (path_of fs) env t (placed (path_of fs) env (part root a)) set (part root a) → ((u : List ℕ) → f t set ≡ Some u → has_text u set ≡ true)
      → (choice : Option (List ℕ)) → choice ≡ f t set → (r : Result Entry Halt) → MatchOption (comp_name (part root a)) (Unit {0}) (λ x. Chooses (path_of fs) x set choice r) → IfOk r (λ e. LeadsToSpot known own (step_tree e.step) (path_of fs) env (part root a) e.spot)
  leads_other a fs env t set inside member choice same (Err h) chooses = tt
  leads_other a fs env t set (in_set d x e form answer) member choice same (Ok entry) chooses =
      at choice same (subst (λ s. MatchOption (comp_name s) (Unit {0}) (λ x. Chooses (path_of fs) x set choice (Ok entry))) form chooses)
    where
      at : (choice : Option (List ℕ)) → choice ≡ f t set → Chooses (path_of fs) x set choice (Ok entry) → LeadsToSpot known own (step_tree entry.step) (path_of fs) env (part root a) entry.spot
      at None same c = let says : ◌≡◌ {A = Option (Answered Address)} (Some (Err Refusal.NoElement)) (Some (Ok (step_tree entry.step ∷ []))) = c.says [] in absurd (cc)
      at (Some u) same c =
          let is = c.spot u refl in
          leads_step known own (Elem u) (step_tree entry.step) (path_of fs) env (part root a) entry.spot is.0
          (leads_at known own (Elem u) (path_of fs) env (part root a) 0 1 entry.spot (element_leads (path_of fs) env u (part root a) d x e form 0 1 refl set entry.spot answer (member u (sym same)) is.1))

  says_other : (a : Address) (fs : List Frame) (env : Bindings) (t : List ℕ) (set : List (List ℕ)) → AreFound known own root a fs env → InSet (known_of known) own (path_of fs) env t (placed (path_of fs) env (part root a)) set (part root a)
      → (choice : Option (List ℕ)) → choice ≡ f t set → (r : Result Entry Halt) → MatchOption (comp_name (part root a)) (Unit {0}) (λ x. Chooses (path_of fs) x set choice r)
      → SaysFound (known_of known) own (answered (λ e. step_tree e.step ∷ a)) (beside root f (Elem t ∷ a)) (split r)
  says_other a fs env t set found (in_set d x e form answer) choice same r chooses =
      let c : Chooses (path_of fs) x set choice r = subst (λ s. MatchOption (comp_name s) (Unit {0}) (λ x. Chooses (path_of fs) x set choice r)) form chooses in
      says_found (known_of known) own (answered (λ e. step_tree e.step ∷ a)) (beside root f (Elem t ∷ a)) (element a choice) (split r)
      (other_found a fs env t set found (in_set d x e form answer) ∙ ap (λ c. Found (element a c)) (sym same)) (c.says a)

  -- over the address and the frames of a zipper
  module _ (t : List ℕ) (set : List (List ℕ)) (member : (u : List ℕ) → f t set ≡ Some u → has_text u set ≡ true) (choice : Option (List ℕ)) (same : choice ≡ f t set) (r : Result Entry Halt) where
    abbrev Both : Address → List Frame → Bindings → Type 0
    Both a fs env = SaysFound (known_of known) own (answered (λ e. step_tree e.step ∷ drop 1 a)) (beside root f a) (split r) × IfOk r (λ e. LeadsToSpot known own (step_tree e.step) (path_of (drop 1 fs)) (around_last a (last_caller fs) env) (part root (drop 1 a)) e.spot)

    both_of : (step : Step) (a : Address) (g : Frame) (fs : List Frame) (env : Bindings) → step ≡ Elem t → g.set ≡ Some set → AreFound known own root (step ∷ a) (g ∷ fs) env → MatchOption (comp_name (part root a)) (Unit {0}) (λ x. Chooses (path_of fs) x set choice r) → Both (step ∷ a) (g ∷ fs) env
    both_of step a g fs env is held found chooses =
        let found' : AreFound known own root (Elem t ∷ a) (g ∷ fs) env = subst (λ s. AreFound known own root (s ∷ a) (g ∷ fs) env) is found in
        let inside' : InSet (known_of (take g.reads known)) own (path_of fs) (around (Elem t) g.caller env) t (placed g.path env (child (Elem t) (part root a))) set (part root a) =
        element_in (known_of (take g.reads known)) own (path_of fs) (around (Elem t) g.caller env) t (placed g.path env (child (Elem t) (part root a))) set (part root a) g.set found'.0 held found'.1 in
        let inside : InSet (known_of known) own (path_of fs) (around (Elem t) g.caller env) t (placed (path_of fs) (around (Elem t) g.caller env) (part root a)) set (part root a) = set_of inside' in
        subst (λ s. Both (s ∷ a) (g ∷ fs) env) (sym is)
        (says_other a fs (around (Elem t) g.caller env) t set found'.2 inside choice same r chooses, leads_other a fs (around (Elem t) g.caller env) t set inside member choice same r chooses)
      where
        set_of : {at other : PlaceTree} → InSet (known_of (take g.reads known)) own (path_of fs) (around (Elem t) g.caller env) t at set (part root a) → InSet (known_of known) own (path_of fs) (around (Elem t) g.caller env) t other set (part root a)
        set_of (in_set d x e form answer) = in_set d x e form answer

    both : (a : Address) (fs : List Frame) (env : Bindings) → last_step a ≡ Some (Elem t) → last_set fs ≡ Some set → AreFound known own root a fs env → MatchOption (comp_name (part root (drop 1 a))) (Unit {0}) (λ x. Chooses (path_of (drop 1 fs)) x set choice r) → Both a fs env
    both [] fs env e held found chooses = absurd (cc)
    both (step ∷ a) [] env e held found chooses = absurd (cc)
    both (step ∷ a) (g ∷ fs) env e held found chooses = both_of step a g fs env (cc) held found chooses

-- the path of the zipper without its last step
pub left_path : (known : ReadList) (own : Known) (z : ZipTree) → Stands known own z → path_of (left z).frames ≡ path_of (drop 1 z.frames)
left_path known own z stands = ap (λ (w : ZipTree). path_of w.frames) (left_settled z (stands_settled known own z stands))

-- what leads from the zipper without its last step
leads_left : (known : ReadList) (own : Known) (z : ZipTree) → Stands known own z → (r : Result Entry Halt) → IfOk r (λ e. LeadsToSpot known own (step_tree e.step) (path_of (drop 1 z.frames)) (around_last z.address (last_caller z.frames) z.env) (part z.root (drop 1 z.address)) e.spot) → IfOk r (λ e. LeadsFrom known own (left z) e)
leads_left known own z stands r h =
    subst (λ (w : ZipTree). IfOk r (λ e. LeadsFrom known own w e)) (sym (left_settled z (stands_settled known own z stands))) h

module _ (known : ReadList) (own : Known) (z : ZipTree) (stands : Stands known own z) where
  pub besides : (f : List ℕ → List (List ℕ) → Option (List ℕ)) (t : List ℕ) (set : List (List ℕ)) → ((u : List ℕ) → f t set ≡ Some u → has_text u set ≡ true) → (choice : Option (List ℕ)) → choice ≡ f t set → (r : Result Entry Halt) → last_step z.address ≡ Some (Elem t) → last_set z.frames ≡ Some set
      → MatchOption (comp_name (part z.root (drop 1 z.address))) (Unit {0}) (λ x. Chooses (path_of (drop 1 z.frames)) x set choice r) → Besides known own z (beside z.root f z.address) r
  besides f t set member choice same r step held chooses =
      let b = both known own z.root f t set member choice same r z.address z.frames z.env step held stands.found chooses in
      record { says = b.0; leads = leads_left known own z stands r b.1 }

  none_beside : (f : List ℕ → List (List ℕ) → Option (List ℕ)) (a : Address) (fs : List Frame) (env : Bindings) → ((t : List ℕ) → last_step a ≡ Some (Elem t) → last_set fs ≡ None) → AreFound known own z.root a fs env → beside z.root f a ≡ Answer (Err Refusal.NoStep)
  none_beside f [] fs env none found = refl
  none_beside f (First ∷ a) fs env none found = refl
  none_beside f (Second ∷ a) fs env none found = refl
  none_beside f (Inside ∷ a) fs env none found = refl
  none_beside f (Down ∷ a) fs env none found = refl
  none_beside f (Body ∷ a) fs env none found = refl
  none_beside f (Elem t ∷ a) [] env none found = absurd found
  none_beside f (Elem t ∷ a) (g ∷ fs) env none found =
      absurd (no_element (known_of (take g.reads known)) own (path_of fs) (around (Elem t) g.caller env) t (placed g.path env (child (Elem t) (part z.root a))) [] (part z.root a) found.0 (subst (λ s. IsHeldSet (Elem t) s (around (Elem t) g.caller env) (part z.root a)) (none t refl) found.1))

  pub none_besides : (f : List ℕ → List (List ℕ) → Option (List ℕ)) → IsNoElement z → Besides known own z (beside z.root f z.address) (Err (halt.Refused Refusal.NoStep))
  none_besides f none = record { says = ap (follow (known_of known) own) (none_beside f z.address z.frames z.env none stands.found); leads = tt }

  -- ---- the step is replaced

  module _ (rule : Ask (Answered Address)) where
    pub replaced : (e : Entry) (new : ZipTree) → Besides known own z rule (Ok e) → new ≡ entered (left z) (step_tree e.step) e.spot → Turned known own z new rule (Ok tt)
    replaced e new h same = subst (λ w. Turned known own z w rule (Ok tt)) (sym same) (record {
      says = h.says;
      stands = stands_entered known own (left z) (step_tree e.step) e.spot (stands_left known own z stands) h.leads;
      root = refl;
      refused = tt;
    })

    pub replace_memory : (new : ZipTree) (r : Result (Unit {0}) Halt) → new.root ≡ z.root → IsErrAnd r (λ h. h ≡ halt.Stopped stop.NoMemory) → Turned known own z new rule r
    replace_memory new r root none = subst (Turned known own z new rule) (sym (err_of r (halt.Stopped stop.NoMemory) none)) (record { says = tt; stands = tt; root = root; refused = tt })

    none_turned : (h : Halt) → Besides known own z rule (Err h) → Turned known own z z rule (Err h)
    none_turned (halt.Refused f) b = record { says = b.says; stands = stands; root = refl; refused = refl }
    none_turned (halt.Stopped stop.NoMemory) b = record { says = tt; stands = tt; root = refl; refused = tt }
    none_turned (halt.Stopped (stop.Needs p)) b = absurd b.says

    pub none_replaced : (h : Halt) (r : Result (Unit {0}) Halt) → IsErrAnd r (λ d. d ≡ h) → Besides known own z rule (Err h) → Turned known own z z rule r
    none_replaced h r none b = subst (Turned known own z z rule) (sym (err_of r h none)) (none_turned h b)

-- a call that consults nothing
pub turned_turns : {R L : Type 0} (m : Meaning R) (old new : ZipTree) (s : Session R L) (rule : Ask (Answered Address)) (evals : Store → ℕ) (result : Result (Unit {0}) Halt) → Turned (m.reads s.reader.now) (own_at s.own) old new rule result → Turns m old new s s rule evals result
turned_turns m old new s rule evals result h = record {
  follows = found_on (split result) h.says;
  stands = h.stands;
  root = h.root;
  refused = h.refused;
  most = λ S agrees. omega arith;
}

-- ---- from a second part to the first

pub data IsPair (s : SpecTree) : Type 0 where
  is_pair : (x : List ℕ) (a b : SpecTree) → s ≡ SpecTree.pair x a b → IsPair s

second_pair : (known own : Known) (p : List (List ℕ)) (env : Bindings) (at : PlaceTree) (s : SpecTree) → follow known own (lead Second p env s) ≡ Found (Some at) → IsPair s
second_pair known own p env at SpecTree.file found = absurd (cc)
second_pair known own p env at SpecTree.dir found = absurd (cc)
second_pair known own p env at SpecTree.link found = absurd (cc)
second_pair known own p env at (SpecTree.focus e s) found = absurd (cc)
second_pair known own p env at (SpecTree.pair x a b) found = is_pair x a b refl
second_pair known own p env at (SpecTree.comp s x e) found = absurd (cc)
second_pair known own p env at (SpecTree.opt s) found = absurd (cc)
second_pair known own p env at (SpecTree.pred e) found = absurd (cc)
second_pair known own p env at (SpecTree.call args params s) found = absurd (cc)
second_pair known own p env at (SpecTree.last args params) found = absurd (cc)

module _ (known : ReadList) (own : Known) (root : SpecTree) (entry : Entry) (step : step_tree entry.step ≡ First) (bound : entry.spot.bound ≡ bounds.Nothing) where
  first_from : (p : List (List ℕ)) (env : Bindings) (s : SpecTree) → entry.spot.path ≡ p → IsPair s → LeadsToSpot known own (step_tree entry.step) p env s entry.spot
  first_from p env s path (is_pair x a b form) =
      leads_step known own First (step_tree entry.step) p env s entry.spot step (leads_at known own First p env s 0 0 entry.spot (first_leads p env s x a b 0 entry.spot form path bound))

  first_both : (a : Address) (fs : List Frame) (env : Bindings) (at : PlaceTree) → last_step a ≡ Some Second → entry.spot.path ≡ path_of (drop 1 fs) → AreFound known own root a fs env
      → (follow (known_of known) own (prev_at root a at) ≡ Found (Ok (step_tree entry.step ∷ drop 1 a))) × LeadsToSpot known own (step_tree entry.step) (path_of (drop 1 fs)) (around_last a (last_caller fs) env) (part root (drop 1 a)) entry.spot
  first_both [] fs env at e path found = absurd (cc)
  first_both (First ∷ a) fs env at e path found = absurd (cc)
  first_both (Inside ∷ a) fs env at e path found = absurd (cc)
  first_both (Down ∷ a) fs env at e path found = absurd (cc)
  first_both (Body ∷ a) fs env at e path found = absurd (cc)
  first_both (Elem t ∷ a) fs env at e path found = absurd (cc)
  first_both (Second ∷ a) [] env at e path found = absurd found
  first_both (Second ∷ a) (g ∷ fs) env at e path found = (
    ap (λ s. Found (Ok (s ∷ a))) (sym step),
    first_from (path_of fs) (around Second g.caller env) (part root a) path (second_pair (known_of (take g.reads known)) own (path_of fs) (around Second g.caller env) (placed g.path env (child Second (part root a))) (part root a) found.0),
  )

pub first_besides : (known : ReadList) (own : Known) (z : ZipTree) → Stands known own z → (entry : Entry) → step_tree entry.step ≡ First → entry.spot.bound ≡ bounds.Nothing → last_step z.address ≡ Some Second → entry.spot.path ≡ path_of (drop 1 z.frames) → Besides known own z (prev_at z.root z.address (here z)) (Ok entry)
first_besides known own z stands entry step bound second path =
    let b = first_both known own z.root entry step bound z.address z.frames z.env (here z) second path stands.found in
    record { says = b.0; leads = leads_left known own z stands (Ok entry) b.1 }

-- ---- from a first part to the second

pub leads_second : (known : ReadList) (own : Known) (p : List (List ℕ)) (env : Bindings) (s : SpecTree) (x : List ℕ) (a b : SpecTree) (spot : Spot) → s ≡ SpecTree.pair x a b → follow (known_of (take spot.reads known)) own (value p env a) ≡ Found (Some (bound_value spot)) → BindsValue p x (bound_value spot) spot → LeadsToSpot known own Second p env s spot
leads_second known own p env s x a b spot form found binds =
    subst (λ s. LeadsToSpot known own Second p env s spot) (sym form)
    (record {
      found =
          follow-bind (known_of (take spot.reads known)) own (value p env a) (λ v. Answer (option_map (λ v. placed p (bind env x v) b) v)) (Some (bound_value spot)) found
          ∙ (λ i. Found (Some (placed (sym binds.path i) (sym (grown_is env spot.bound (x, bound_value spot) binds.bound) i) b)));
      fits = record { held = tt; back = ap (λ g. take (length g - 1) g) (grown_is env spot.bound (x, bound_value spot) binds.bound) ∙ front_last env (x, bound_value spot) };
    })

pub first_at : (known : ReadList) (own : Known) (root : SpecTree) (a : Address) (fs : List Frame) (env : Bindings) (x : List ℕ) (l r : SpecTree) → last_step a ≡ Some First → part root (drop 1 a) ≡ SpecTree.pair x l r → AreFound known own root a fs env
    → (placed (path_of fs) env (part root a) ≡ placed (path_of (drop 1 fs)) env l) × (around_last a (last_caller fs) env ≡ env) × (a ≡ First ∷ drop 1 a)
first_at known own root [] fs env x l r e form found = absurd (cc)
first_at known own root (Second ∷ a) fs env x l r e form found = absurd (cc)
first_at known own root (Inside ∷ a) fs env x l r e form found = absurd (cc)
first_at known own root (Down ∷ a) fs env x l r e form found = absurd (cc)
first_at known own root (Body ∷ a) fs env x l r e form found = absurd (cc)
first_at known own root (Elem t ∷ a) fs env x l r e form found = absurd (cc)
first_at known own root (First ∷ a) [] env x l r e form found = absurd found
first_at known own root (First ∷ a) (g ∷ fs) env x l r e form found =
    let led : Found (Some (placed (path_of fs) env l)) ≡ Found (Some (placed g.path env (child First (part root a)))) = ap (λ s. follow (known_of (take g.reads known)) own (lead First (path_of fs) env s)) (sym form) ∙ found.0 in
    let same : placed (path_of fs) env l ≡ placed g.path env (child First (part root a)) = cc in
    (sym same, refl, refl)

module _ {R L : Type 0} (m : Meaning R) (z : ZipTree) (was now : Session R L) (stands : StandsIn m was z) (first : last_step z.address ≡ Some First) (x : List ℕ) (a b : SpecTree) (form : part z.root (drop 1 z.address) ≡ SpecTree.pair x a b) where
  abbrev Value : Ask (Option Tree)
  Value = value (path_of (drop 1 z.frames)) z.env a

  abbrev then_second : Option Tree → Ask (Answered Address)
  then_second v = Answer (cond (is_some v) (Ok (Second ∷ drop 1 z.address)) (Err Refusal.Lacks))

  abbrev ToSecond : ZipTree → Result (Unit {0}) Halt → Type 0
  ToSecond new r = Turns m z new was now (next_at z.root z.address (here z)) (next_evals z.address (here z)) r

  at_first : (here z ≡ placed (path_of (drop 1 z.frames)) z.env a) × (around_last z.address (last_caller z.frames) z.env ≡ z.env) × (z.address ≡ First ∷ drop 1 z.address)
  at_first = first_at (m.reads was.reader.now) (own_at was.own) z.root z.address z.frames z.env x a b first form stands.found

  rule_is : (Value >>= then_second) ≡ next_at z.root z.address (here z)
  rule_is = sym (ap (λ (w : Address). next_at z.root w (here z)) at_first.2 ∙ ap (λ (w : PlaceTree). next_at z.root (First ∷ drop 1 z.address) w) at_first.0)

  evals_is : (S : Store) → ticks S Value ≡ next_evals z.address (here z) S
  evals_is S = sym (ap (λ (w : Address). next_evals w (here z) S) at_first.2 ∙ ap (λ (w : PlaceTree). next_evals (First ∷ drop 1 z.address) w S) at_first.0)

  abbrev First_ : Result (Option Spot) Stop → Type 0
  First_ r = Implements m (option_map bound_value) was now Value r

  turns_by : (new : ZipTree) (r : Result (Unit {0}) Halt) (o : Result (Option Spot) Stop) → First_ o → new.root ≡ z.root → OnRefused r (new.address ≡ z.address) → IfOk (split r) (λ _. StandsIn m now new) → Answers m (λ _. new.address) was now (Value >>= then_second) r → ToSecond new r
  turns_by new r o h root refused stands follows = record {
    follows = same_rule (Value >>= then_second) (next_at z.root z.address (here z)) rule_is follows;
    stands = stands;
    root = root;
    refused = refused;
    most = λ S agrees. let most = h.follows.most S agrees in let is = evals_is (changed (own_at was.own) S) in omega (arith, most, is);
  }

  stands_now : (o : Result (Option Spot) Stop) → First_ o → StandsIn m now z
  stands_now o h = stands_on h z stands

  second_from : (spot : Spot) → First_ (Ok (Some spot)) → (BindsValue (path_of (drop 1 z.frames)) x (bound_value spot) spot × (spot.reads ≡ length (m.reads now.reader.now))) → LeadsToSpot (m.reads now.reader.now) (own_at now.own) Second (path_of (left z).frames) (left z).env (part (left z).root (left z).address) spot
  second_from spot h binds =
      let leads : LeadsToSpot (m.reads now.reader.now) (own_at now.own) Second (path_of (drop 1 z.frames)) z.env (part z.root (drop 1 z.address)) spot =
      leads_second (m.reads now.reader.now) (own_at now.own) (path_of (drop 1 z.frames)) z.env (part z.root (drop 1 z.address)) x a b spot form (by_all (m.reads now.reader.now) spot (own_at now.own) (value (path_of (drop 1 z.frames)) z.env a) (Some (bound_value spot)) binds.1 (found_by h)) binds.0 in
      let around : LeadsToSpot (m.reads now.reader.now) (own_at now.own) Second (path_of (drop 1 z.frames)) (around_last z.address (last_caller z.frames) z.env) (part z.root (drop 1 z.address)) spot =
      subst (λ e. LeadsToSpot (m.reads now.reader.now) (own_at now.own) Second (path_of (drop 1 z.frames)) e (part z.root (drop 1 z.address)) spot) (sym at_first.1) leads in
      subst (λ (w : ZipTree). LeadsToSpot (m.reads now.reader.now) (own_at now.own) Second (path_of w.frames) w.env (part w.root w.address) spot)
      (sym (left_settled z (stands_settled (m.reads was.reader.now) (own_at was.own) z stands))) around

  pub second_turns : (spot : Spot) (new : ZipTree) → First_ (Ok (Some spot)) → (BindsValue (path_of (drop 1 z.frames)) x (bound_value spot) spot × (spot.reads ≡ length (m.reads now.reader.now))) → new ≡ entered (left z) Second spot → ToSecond new (Ok tt)
  second_turns spot new h binds same = subst (λ w. ToSecond w (Ok tt)) (sym same) (
      turns_by (entered (left z) Second spot) (Ok tt) (Ok (Some spot)) h refl tt
      (stands_entered (m.reads now.reader.now) (own_at now.own) (left z) Second spot (stands_left (m.reads now.reader.now) (own_at now.own) z (stands_now (Ok (Some spot)) h)) (second_from spot h binds))
      (then_answers Value then_second (Ok tt) h refl))

  pub second_memory : (o : Option Spot) (new : ZipTree) (r : Result (Unit {0}) Halt) → First_ (Ok o) → new.root ≡ z.root → IsErrAnd r (λ d. d ≡ halt.Stopped stop.NoMemory) → ToSecond new r
  second_memory o new r h root none = subst (ToSecond new) (sym (err_of r (halt.Stopped stop.NoMemory) none)) (
      turns_by new (Err (halt.Stopped stop.NoMemory)) (Ok o) h root tt tt
      (then_refused Value then_second (Err stop.NoMemory) refl h))

  pub second_none : First_ (Ok None) → ToSecond z (Err (halt.Refused Refusal.Lacks))
  second_none h =
      turns_by z (Err (halt.Refused Refusal.Lacks)) (Ok None) h refl refl (stands_now (Ok None) h)
      (then_answers Value then_second (Err Refusal.Lacks) h refl)

  pub second_stop : (why : Stop) (r : Result (Unit {0}) Halt) → First_ (Err why) → IsErrAnd r (λ d. d ≡ halt.Stopped why) → ToSecond z r
  second_stop why r h none = subst (ToSecond z) (sym (err_of r (halt.Stopped why) none)) (
      turns_by z (Err (halt.Stopped why)) (Err why) h refl tt tt
      (stops Value then_second (Err why) refl h))
