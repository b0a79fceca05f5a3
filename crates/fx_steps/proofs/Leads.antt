-- Where the steps lead, form by form.
use Rattle.fx_steps.proofs.Prelude.{◌≡◌, ℕ, ◌+◌, ◌-◌, ◌≤◌, true, List, [], ◌∷◌, ◌++◌, length, take, Option, Some, None, Result, Ok, Err, refl, sym, ap, ◌∙◌, subst, arith, length-append, IsErrAnd, bind, Outcome, eval_of, names_in, ExprTree}
use Rattle.fx_steps.proofs.Prelude.{has_text, ShapeTree, Tree, tree_of, Refusal, Bindings, arguments, argument_evals, Answered, Step, First, Body, Elem, PlaceTree, placed, where_true, has_element, in_body, lead}
use Rattle.fx_steps.proofs.Prelude.{SpecTree, Stop, err_of, Halt, answered, split, Spot, around, HasSet, IsNoCall, grown, bound_name, caller_in, spot_place, IsSpot, LeadsAt, BindsText, BindsNames, costs, Says, set_answer, names_answer, given}
use Rattle.fx_steps.proofs.Prelude.{inner_names}
use Rattle.std.proofs.Math.Seq.{take-append_seam}
use Rattle.fx_view.specs.declared.reader.Stop.TheVariants as stop
use Rattle.fx_session.specs.declared.halt.Halt.TheVariants as halt
use Rattle.fx_steps.specs.declared.frame.Bound.{Bound}
use Rattle.fx_steps.specs.declared.frame.Bound.TheVariants as bounds
use Rattle.fx_steps.proofs.Arguments.{told_behind, costs_behind, body_place, body_no_place}

-- ---- what is given where a call is not refused

module _ {A X : Type 0} (view : X → A) (o : Answered A) where
  pub given_some : (r : Result X Halt) (x : X) → Says (answered view) (Some o) (split r) → Ok (Some x) ≡ given r → o ≡ Ok (view x)
  given_some (Ok y) x h e = let same : x ≡ y = cc in let is : o ≡ Ok (view y) = cc in is ∙ ap (λ x. Ok (view x)) (sym same)
  given_some (Err (halt.Refused f)) x h e = absurd (cc)
  given_some (Err (halt.Stopped why)) x h e = absurd (cc)

  pub given_none : (r : Result X Halt) → Says (answered view) (Some o) (split r) → Ok None ≡ given r → (f : Refusal) × (o ≡ Err f)
  given_none (Ok y) h e = absurd (cc)
  given_none (Err (halt.Refused f)) h e = let is : o ≡ Err f = cc in (f, is)
  given_none (Err (halt.Stopped why)) h e = absurd (cc)

  pub given_stop : (r : Result X Halt) (why : Stop) → Says (answered view) (Some o) (split r) → Err why ≡ given r → why ≡ stop.NoMemory
  given_stop (Ok y) why h e = absurd (cc)
  given_stop (Err (halt.Refused f)) why h e = absurd (cc)
  given_stop (Err (halt.Stopped stop.NoMemory)) why h e = cc
  given_stop (Err (halt.Stopped (stop.Needs p))) why h e = absurd h

-- ---- names bound and given back

pub grown_is : (env : Bindings) (b : Bound) (e : List ℕ × Tree) → bound_name b ≡ Some e → grown env b ≡ env ++ e ∷ []
grown_is env bounds.Nothing e h = absurd (cc)
grown_is env (bounds.Name x v) e h = let same : ◌≡◌ {A = List ℕ × Tree} (x, tree_of v) e = cc in ap (λ e. env ++ e ∷ []) same
grown_is env (bounds.Names names) e h = absurd (cc)

pub front_last : (env : Bindings) (e : List ℕ × Tree) → take (length (env ++ e ∷ []) - 1) (env ++ e ∷ []) ≡ env
front_last env e =
    let long = length-append env (e ∷ []) in
    let n : length (env ++ e ∷ []) - 1 ≡ length env = omega (arith, long) in
    ap (λ n. take n (env ++ e ∷ [])) n ∙ take-append_seam env (e ∷ [])

front_grown : (env : Bindings) (b : Bound) (e : List ℕ × Tree) → bound_name b ≡ Some e → take (length (grown env b) - 1) (grown env b) ≡ env
front_grown env b e h = ap (λ g. take (length g - 1) g) (grown_is env b e h) ∙ front_last env e

module _ (p : List (List ℕ)) (env : Bindings) where
  -- ---- memory is refused

  pub leads_refused : (step : Step) (s : SpecTree) (was now : ℕ) (r : Result (Option Spot) Stop) → now ≤ was + costs (lead step p env s) → IsErrAnd r (λ d. d ≡ stop.NoMemory) → LeadsAt step p env s was now r
  leads_refused step s was now r most is =
      subst (λ (r : Result (Option Spot) Stop). LeadsAt step p env s was now r) (sym (err_of r stop.NoMemory is))
      (record { tells = record { says = tt; most = most }; spot = tt })

  -- ---- first parts

  pub first_leads : (s : SpecTree) (x : List ℕ) (a b : SpecTree) (n : ℕ) (spot : Spot) → s ≡ SpecTree.pair x a b → spot.path ≡ p → spot.bound ≡ bounds.Nothing → LeadsAt First p env s n n (Ok (Some spot))
  first_leads s x a b n spot is path bound =
      subst (λ s. LeadsAt First p env s n n (Ok (Some spot))) (sym is)
      (record {
        tells = record { says = λ i. Some (Some (placed (sym path i) (grown env (sym bound i)) a)); most = omega arith };
        spot = record { held = tt; back = ap (grown env) bound };
      })

  -- ---- bodies

  module _ (s : SpecTree) (args : List ExprTree) (params : List (List ℕ × ShapeTree)) (d : SpecTree) (is : s ≡ SpecTree.call args params d) (was now : ℕ) (most : now ≤ was + argument_evals env args) where
    abbrev at_body : Option PlaceTree
    at_body = in_body p params d (arguments env args)

    called_cost : now ≤ was + costs (lead Body p env (SpecTree.call args params d))
    called_cost = subst (λ n. now ≤ was + n) (sym (costs_behind (argument_evals env args) at_body)) most

    body_cost : now ≤ was + costs (lead Body p env s)
    body_cost = subst (λ s. now ≤ was + costs (lead Body p env s)) (sym is) called_cost

    pub body_refused : (r : Result (Option Spot) Stop) → IsErrAnd r (λ d. d ≡ stop.NoMemory) → LeadsAt Body p env s was now r
    body_refused r none = leads_refused Body s was now r body_cost none

    pub body_leads : (names : Bindings) (spot : Spot) → names_answer (inner_names env params args) ≡ Ok names → BindsNames p names spot → LeadsAt Body p env s was now (Ok (Some spot))
    body_leads names spot answer binds =
        subst (λ s. LeadsAt Body p env s was now (Ok (Some spot))) (sym is)
        (record {
          tells = record {
            says =
                told_behind (argument_evals env args) at_body
                ∙ ap Some (body_place params p d (arguments env args) names answer)
                ∙ (λ i. Some (Some (placed (sym binds.path i) (grown env (sym binds.bound i)) d)));
            most = called_cost;
          };
          spot = record { held = tt; back = ap (λ b. around Body (caller_in env b) (grown env b)) binds.bound };
        })

    pub body_none : (f : Refusal) → names_answer (inner_names env params args) ≡ Err f → LeadsAt Body p env s was now (Ok None)
    body_none f answer =
        subst (λ s. LeadsAt Body p env s was now (Ok None)) (sym is)
        (record {
          tells = record {
            says = told_behind (argument_evals env args) at_body ∙ ap Some (body_no_place params p d (arguments env args) f answer);
            most = called_cost;
          };
          spot = tt;
        })

  pub body_form : (s : SpecTree) (n : ℕ) → IsNoCall s → LeadsAt Body p env s n n (Ok None)
  body_form SpecTree.file n none = record { tells = record { says = refl; most = omega arith }; spot = tt }
  body_form SpecTree.dir n none = record { tells = record { says = refl; most = omega arith }; spot = tt }
  body_form SpecTree.link n none = record { tells = record { says = refl; most = omega arith }; spot = tt }
  body_form (SpecTree.focus e s) n none = record { tells = record { says = refl; most = omega arith }; spot = tt }
  body_form (SpecTree.pair x a b) n none = record { tells = record { says = refl; most = omega arith }; spot = tt }
  body_form (SpecTree.comp s x e) n none = record { tells = record { says = refl; most = omega arith }; spot = tt }
  body_form (SpecTree.opt s) n none = record { tells = record { says = refl; most = omega arith }; spot = tt }
  body_form (SpecTree.pred e) n none = record { tells = record { says = refl; most = omega arith }; spot = tt }
  body_form (SpecTree.call args params s) n none = absurd none
  body_form (SpecTree.last args params) n none = record { tells = record { says = refl; most = omega arith }; spot = tt }

  -- ---- elements

  has_answer : (o : Outcome) (t : List ℕ) (set : List (List ℕ)) → set_answer o ≡ Ok set → has_element t o ≡ has_text t set
  has_answer (Ok v) t set h = let same : names_in v ≡ set = cc in ap (has_text t) same
  has_answer (Err f) t set h = absurd (cc)

  pub element_spot : (t : List ℕ) (d : SpecTree) (x : List ℕ) (e : ExprTree) (set : List (List ℕ)) (spot : Spot) → set_answer (eval_of env e) ≡ Ok set → BindsText p x t set spot → IsSpot (Elem t) env (SpecTree.comp d x e) spot
  element_spot t d x e set spot answer binds = record {
    held = subst (λ o. HasSet o (eval_of env e)) (sym binds.held) answer;
    back = front_grown env spot.bound (x, Tree.str t) binds.bound;
  }

  pub element_place : (t : List ℕ) (d : SpecTree) (x : List ℕ) (e : ExprTree) (set : List (List ℕ)) (spot : Spot) → set_answer (eval_of env e) ≡ Ok set → has_text t set ≡ true → BindsText p x t set spot
      → where_true (has_element t (eval_of env e)) (placed p (bind env x (Tree.str t)) d) ≡ Some (spot_place env d spot)
  element_place t d x e set spot answer has binds =
      ap (λ b. where_true b (placed p (bind env x (Tree.str t)) d)) (has_answer (eval_of env e) t set answer ∙ has)
      ∙ (λ i. Some (placed (sym binds.path i) (sym (grown_is env spot.bound (x, Tree.str t) binds.bound) i) d))

  module _ (t : List ℕ) (s : SpecTree) (d : SpecTree) (x : List ℕ) (e : ExprTree) (is : s ≡ SpecTree.comp d x e) (was now : ℕ) (one : now ≡ was + 1) where
    pub element_leads : (set : List (List ℕ)) (spot : Spot) → set_answer (eval_of env e) ≡ Ok set → has_text t set ≡ true → BindsText p x t set spot → LeadsAt (Elem t) p env s was now (Ok (Some spot))
    element_leads set spot answer has binds =
        subst (λ s. LeadsAt (Elem t) p env s was now (Ok (Some spot))) (sym is)
        (record {
          tells = record { says = ap Some (element_place t d x e set spot answer has binds); most = omega (arith, one) };
          spot = element_spot t d x e set spot answer binds;
        })
