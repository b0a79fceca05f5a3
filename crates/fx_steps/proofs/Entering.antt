-- Where moves lead from a place, form by form.
use Rattle.fx_steps.proofs.Prelude.{ReadList, ◌≡◌, ℕ, ◌+◌, ◌≤◌, true, List, [], ◌∷◌, take, Option, Some, None, Result, Ok, Err, refl, sym, ap, ◌∙◌, subst, arith, IsErrAnd, IfOk, Known, Ask, Answer, Tick, Outcome, eval_of, names_in, ExprTree}
use Rattle.fx_steps.proofs.Prelude.{has_text, ShapeTree, Refusal, Bindings, arguments, argument_evals, behind, Answered, element, chosen, with_arguments, go_into, Step, Body, Elem, Address, lead, SpecTree, Stop, err_of, Halt, answered, split}
use Rattle.fx_steps.proofs.Prelude.{Chosen, Entry, Spot, First, as_entry, chosen_entry, inner_entry, LeadsToSpot, LeadsAt, Enters, EntersAt, Chooses, BindsNames, Tree, tree_of, step_tree, told, costs, Says, set_answer, names_answer, arguments_tried, inner_names, Meaning, known_of, Session, IsSetOf}
use Rattle.fx_view.specs.declared.reader.Stop.TheVariants as stop
use Rattle.fx_session.specs.declared.halt.Halt.TheVariants as halt
use Rattle.fx_steps.proofs.Arguments.{told_behind, costs_behind, with_names, without_names, with_all, with_fault}
use Rattle.fx_expr.specs.Views.{tree_step}
use Rattle.fx_expr.specs.declared.value.Value.{fold-roll-Value}
use Rattle.fx_expr.specs.declared.value.Value.TheOpen.{Value-F}
use Rattle.fx_expr.specs.declared.value.Value.TheVariants as values
use Rattle.fx_expr.specs.declared.value.Value.TheVariants.{rolls-Str}
use Rattle.fx_steps.specs.declared.frame.Inner.TheVariants as inner
use Rattle.fx_steps.proofs.Leads.{first_leads, element_leads, body_leads}
use Rattle.fx_steps.proofs.Telling.{told_found}

-- what is kept at a comprehension
pub kept_set : (set : Option (List (List ℕ))) (env : Bindings) (s d : SpecTree) (x : List ℕ) (e : ExprTree) → s ≡ SpecTree.comp d x e → IsSetOf set env s → (known : List (List ℕ)) → set ≡ Some known → set_answer (eval_of env e) ≡ Ok known
kept_set set env s d x e form h known is = subst (λ o. IsSetOf o env (SpecTree.comp d x e)) is (subst (IsSetOf set env) form h)

pub leads_at : (known : ReadList) (own : Known) (step : Step) (p : List (List ℕ)) (env : Bindings) (s : SpecTree) (was now : ℕ) (spot : Spot) → LeadsAt step p env s was now (Ok (Some spot)) → LeadsToSpot known own step p env s spot
leads_at known own step p env s was now spot h = record { found = told_found (known_of (take spot.reads known)) own (lead step p env s) _ h.tells.says; fits = h.spot }

-- the step of an entry, spelled in another way
pub leads_step : (known : ReadList) (own : Known) (step other : Step) (p : List (List ℕ)) (env : Bindings) (s : SpecTree) (spot : Spot) → other ≡ step → LeadsToSpot known own step p env s spot → LeadsToSpot known own other p env s spot
leads_step known own step other p env s spot e h = subst (λ t. LeadsToSpot known own t p env s spot) (sym e) h

-- the choice among a set that is answered
pub chosen_is : (a : Address) (f : List (List ℕ) → Option (List ℕ)) (o : Outcome) (set : List (List ℕ)) → set_answer o ≡ Ok set → chosen a f o ≡ element a (f set)
chosen_is a f (Ok v) set h = let same : names_in v ≡ set = cc in ap (λ set. element a (f set)) same
chosen_is a f (Err g) set h = absurd (cc)

-- what is not found is no entry
pub as_err : {X : Type 0} (entry : X → Entry) (r : Result X Halt) (why : Halt) → IsErrAnd r (λ d. d ≡ why) → IsErrAnd (as_entry entry r) (λ d. d ≡ why)
as_err entry (Ok x) why h = h
as_err entry (Err e) why h = h

text_tree : (t : List ℕ) → tree_of (values.Str t) ≡ Tree.str t
text_tree t = ap tree_of (sym (rolls-Str t)) ∙ fold-roll-Value Tree tree_step (Value-F.Str t)

-- the element that is chosen
pub chooses : (p : List (List ℕ)) (x t : List ℕ) (set : List (List ℕ)) (choice : Option (List ℕ)) (c : Chosen) → choice ≡ Some t → c.name ≡ x → c.text ≡ t → c.set ≡ set → Chooses p x set choice (Ok (chosen_entry p c))
chooses p x t set choice c is name text held = record {
  says = λ a. ap (λ o. Some (element a o)) is ∙ (λ i. Some (Ok (Elem (sym text i) ∷ a)));
  spot = λ u e.
      let other : t ≡ u = cc in
      let same : c.text ≡ u = text ∙ other in
      (ap Elem same, record { path = refl; held = ap Some held; bound = ap (λ v. Some (c.name, v)) (text_tree c.text) ∙ (λ i. Some (name i, Tree.str (same i))) });
}

module _ (p : List (List ℕ)) (env : Bindings) (rule : Address → Ask (Answered Address)) (s : SpecTree) where
  abbrev At : ℕ → ℕ → Result Entry Halt → Type 0
  At was now r = EntersAt rule p env s was now r

  -- no step from the form
  pub enters_none : ((a : Address) → rule a ≡ Answer (Err Refusal.NoStep)) → (n : ℕ) → At n n (Err (halt.Refused Refusal.NoStep))
  enters_none is n = record { tells = λ a. record { says = ap told (is a); most = omega arith }; leads = λ known own. tt }

  -- the chosen element of a comprehension's set
  module _ (d : SpecTree) (x : List ℕ) (e : ExprTree) (form : s ≡ SpecTree.comp d x e) (f : List (List ℕ) → Option (List ℕ)) (is : (a : Address) → rule a ≡ Tick (Answer (chosen a f (eval_of env e)))) (was now : ℕ) (one : now ≤ was + 1) where
    cost : (a : Address) → now ≤ was + costs (rule a)
    cost a = subst (λ (r : Ask (Answered Address)). now ≤ was + costs r) (sym (is a)) (omega (arith, one))

    module _ (set : List (List ℕ)) (answer : set_answer (eval_of env e) ≡ Ok set) (member : (t : List ℕ) → f set ≡ Some t → has_text t set ≡ true) where
      said : (choice : Option (List ℕ)) → choice ≡ f set → (a : Address) (r : Result (Result Entry Refusal) Stop) → Says (answered (λ e. step_tree e.step ∷ a)) (Some (element a choice)) r → Says (answered (λ e. step_tree e.step ∷ a)) (told (rule a)) r
      said choice same a r h =
          subst (λ (o : Option (Answered Address)). Says (answered (λ (e : Entry). step_tree e.step ∷ a)) o r) (ap (λ c. Some (element a c)) same ∙ ap Some (sym (chosen_is a f (eval_of env e) set answer)) ∙ sym (ap told (is a))) h

      led : (choice : Option (List ℕ)) → choice ≡ f set → (r : Result Entry Halt) → Chooses p x set choice r → (known : ReadList) (own : Known) → IfOk r (λ e. LeadsToSpot known own (step_tree e.step) p env s e.spot)
      led choice same (Err h) chooses known own = tt
      led None same (Ok entry) chooses known own = let says : ◌≡◌ {A = Option (Answered Address)} (Some (Err Refusal.NoElement)) (Some (Ok (step_tree entry.step ∷ []))) = chooses.says [] in absurd (cc)
      led (Some t) same (Ok entry) chooses known own =
          let at = chooses.spot t refl in
          leads_step known own (Elem t) (step_tree entry.step) p env s entry.spot at.0
          (leads_at known own (Elem t) p env s 0 1 entry.spot (element_leads p env t s d x e form 0 1 refl set entry.spot answer (member t (sym same)) at.1))

      pub chosen_enters : (choice : Option (List ℕ)) → choice ≡ f set → (r : Result Entry Halt) → Chooses p x set choice r → At was now r
      chosen_enters choice same r chooses = record {
        tells = λ a. record { says = said choice same a (split r) (chooses.says a); most = cost a };
        leads = led choice same r chooses;
      }

-- no step from the form
pub none_from : (p : List (List ℕ)) (env : Bindings) (s other : SpecTree) (n : ℕ) → s ≡ other → ((a : Address) → go_into a p env other ≡ Answer (Err Refusal.NoStep)) → EntersAt (λ a. go_into a p env s) p env s n n (Err (halt.Refused Refusal.NoStep))
none_from p env s other n is none = enters_none p env (λ a. go_into a p env s) s (λ a. ap (go_into a p env) is ∙ none a) n

-- the first part of a pair
pub first_enters : (p : List (List ℕ)) (env : Bindings) (x : List ℕ) (a b : SpecTree) (n : ℕ) → EntersAt (λ to. go_into to p env (SpecTree.pair x a b)) p env (SpecTree.pair x a b) n n (Ok (inner_entry p inner.First))
first_enters p env x a b n =
    let entry = inner_entry p inner.First in
    record {
      tells = λ to. record { says = refl; most = omega arith };
      leads = λ known own. leads_at known own First p env (SpecTree.pair x a b) n n entry.spot (first_leads p env (SpecTree.pair x a b) x a b n entry.spot refl refl refl);
    }

-- the form is spelled in another way
pub enters_form : {R L : Type 0} (m : Meaning R) (p : List (List ℕ)) (env : Bindings) (s form : SpecTree) (was now : Session R L) (r : Result Entry Halt) → s ≡ form → Enters m (λ a. go_into a p env form) p env form was now r → Enters m (λ a. go_into a p env s) p env s was now r
enters_form m p env s form was now r is h = subst (λ s. Enters m (λ a. go_into a p env s) p env s was now r) (sym is) h

-- ---- bodies

module _ (p : List (List ℕ)) (env : Bindings) (args : List ExprTree) (params : List (List ℕ × ShapeTree)) (was now : ℕ) (most : now ≤ was + argument_evals env args) where
  behind_most : {A : Type 0} (a : A) → now ≤ was + costs (behind (argument_evals env args) (Answer a))
  behind_most a = subst (λ n. now ≤ was + n) (sym (costs_behind (argument_evals env args) a)) most

  module _ (d : SpecTree) where
    abbrev EntersBody : Result Entry Halt → Type 0
    EntersBody r = EntersAt (λ a. go_into a p env (SpecTree.call args params d)) p env (SpecTree.call args params d) was now r

    abbrev in_its_body : Address → Answered Address
    in_its_body a = with_arguments (Ok (Body ∷ a)) (arguments env args)

    pub body_enters : (names : Bindings) (entry : Entry) → names_answer (inner_names env params args) ≡ Ok names → step_tree entry.step ≡ Body → BindsNames p names entry.spot → EntersBody (Ok entry)
    body_enters names entry answer step binds = record {
      tells = λ a. record {
        says =
            told_behind (argument_evals env args) (in_its_body a)
            ∙ ap Some (with_names params (Ok (Body ∷ a)) (arguments env args) names answer)
            ∙ (λ i. Some (Ok (sym step i ∷ a)));
        most = behind_most (in_its_body a);
      };
      leads = λ known own.
          leads_step known own Body (step_tree entry.step) p env (SpecTree.call args params d) entry.spot step
          (leads_at known own Body p env (SpecTree.call args params d) was now entry.spot (body_leads p env (SpecTree.call args params d) args params d refl was now most names entry.spot answer binds));
    }

    pub body_err : (h : Halt) (r : Result Entry Halt) → IsErrAnd r (λ d. d ≡ h) → Says (answered (λ (names : Bindings). names)) (Some (names_answer (inner_names env params args))) (split (Err h)) → EntersBody r
    body_err h r none says = subst EntersBody (sym (err_of r h none)) (at h says)
      where
        at : (h : Halt) → Says (answered (λ (names : Bindings). names)) (Some (names_answer (inner_names env params args))) (split (Err h)) → EntersBody (Err h)
        at (halt.Refused f) says = record {
          tells = λ a. record {
            says = told_behind (argument_evals env args) (in_its_body a) ∙ (let fault : names_answer (inner_names env params args) ≡ Err f = cc in ap Some (without_names params (Ok (Body ∷ a)) (arguments env args) f fault));
            most = behind_most (in_its_body a);
          };
          leads = λ known own. tt;
        }
        at (halt.Stopped stop.NoMemory) says = record { tells = λ a. record { says = tt; most = behind_most (in_its_body a) }; leads = λ known own. tt }
        at (halt.Stopped (stop.Needs q)) says = absurd says

  -- at a call inside 64 others
  abbrev EntersLast : Result Entry Halt → Type 0
  EntersLast r = EntersAt (λ a. go_into a p env (SpecTree.last args params)) p env (SpecTree.last args params) was now r

  abbrev too_unfolded : Answered Address
  too_unfolded = with_arguments (Err Refusal.TooUnfolded) (arguments env args)

  pub last_refused : arguments_tried (arguments env args) ≡ Ok tt → EntersLast (Err (halt.Refused Refusal.TooUnfolded))
  last_refused all = record {
    tells = λ a. record {
      says = told_behind (argument_evals env args) too_unfolded ∙ ap Some (with_all (Err Refusal.TooUnfolded) (arguments env args) all);
      most = behind_most too_unfolded;
    };
    leads = λ known own. tt;
  }

  pub last_err : (h : Halt) (r : Result Entry Halt) → IsErrAnd r (λ d. d ≡ h) → Says (answered (λ (u : Unit {0}). u)) (Some (arguments_tried (arguments env args))) (split (Err h)) → EntersLast r
  last_err h r none says = subst EntersLast (sym (err_of r h none)) (at h says)
    where
      at : (h : Halt) → Says (answered (λ (u : Unit {0}). u)) (Some (arguments_tried (arguments env args))) (split (Err h)) → EntersLast (Err h)
      at (halt.Refused f) says = record {
        tells = λ a. record {
          says = told_behind (argument_evals env args) too_unfolded ∙ (let fault : arguments_tried (arguments env args) ≡ Err f = cc in ap Some (with_fault (Err Refusal.TooUnfolded) (arguments env args) f fault));
          most = behind_most too_unfolded;
        };
        leads = λ known own. tt;
      }
      at (halt.Stopped stop.NoMemory) says = record { tells = λ a. record { says = tt; most = behind_most too_unfolded }; leads = λ known own. tt }
      at (halt.Stopped (stop.Needs q)) says = absurd says
