-- Steps to a second part, which consult the filestore.
use Rattle.fx_zip.proofs.Prelude.{◌≡◌, ℕ, List, length, Option, Some, None, option_map, Result, Ok, Err, refl, sym, subst, IfOk, IfSome, Ask, Answer, bind, Tree, Bindings, value, Second, PlaceTree, placed}
use Rattle.fx_zip.proofs.Prelude.{SpecTree, Stop, Meaning, Spot, IsNoPair, LeadsTo, BindsValue, bound_value, Implements, then_answers, stops, answers, Session, own_at}
use Rattle.fx_zip.proofs.Beside.{leads_second}
use Rattle.fx_steps.proofs.Consulting.{by_all}
use Rattle.fx_steps.proofs.Leads.{grown_is}
use Rattle.fx_steps.proofs.Sessions.{found_by}

-- at another form no step leads to a second part
pub second_form : {R L : Type 0} (m : Meaning R) (p : List (List ℕ)) (env : Bindings) (s : Session R L) (spec : SpecTree) → IsNoPair spec → LeadsTo m Second p env spec s s (Ok None)
second_form m p env s SpecTree.file none = record { follows = answers None None refl; spot = tt }
second_form m p env s SpecTree.dir none = record { follows = answers None None refl; spot = tt }
second_form m p env s SpecTree.link none = record { follows = answers None None refl; spot = tt }
second_form m p env s (SpecTree.focus e d) none = record { follows = answers None None refl; spot = tt }
second_form m p env s (SpecTree.pair x a b) none = absurd none
second_form m p env s (SpecTree.comp d x e) none = record { follows = answers None None refl; spot = tt }
second_form m p env s (SpecTree.opt d) none = record { follows = answers None None refl; spot = tt }
second_form m p env s (SpecTree.pred e) none = record { follows = answers None None refl; spot = tt }
second_form m p env s (SpecTree.call args params d) none = record { follows = answers None None refl; spot = tt }
second_form m p env s (SpecTree.last args params) none = record { follows = answers None None refl; spot = tt }

module _ {R L : Type 0} (m : Meaning R) (p : List (List ℕ)) (env : Bindings) (old new : Session R L) where
  module _ (s : SpecTree) (x : List ℕ) (a b : SpecTree) (form : s ≡ SpecTree.pair x a b) where
    abbrev then_pair : Option Tree → Ask (Option PlaceTree)
    then_pair v = Answer (option_map (λ v. placed p (bind env x v) b) v)

    at_pair : (r : Result (Option Spot) Stop) → Implements m (option_map bound_value) old new (value p env a) r → IfOk r (λ o. IfSome o (λ spot. BindsValue p x (bound_value spot) spot × (spot.reads ≡ length (m.reads new.reader.now)))) → LeadsTo m Second p env (SpecTree.pair x a b) old new r
    at_pair (Err why) h binds = record { follows = stops (value p env a) then_pair (Err why) refl h; spot = tt }
    at_pair (Ok None) h binds = record { follows = then_answers (value p env a) then_pair None h refl; spot = tt }
    at_pair (Ok (Some spot)) h binds =
        let leads = leads_second (m.reads new.reader.now) (own_at new.own) p env (SpecTree.pair x a b) x a b spot refl (by_all (m.reads new.reader.now) spot (own_at new.own) (value p env a) (Some (bound_value spot)) binds.1 (found_by h)) binds.0 in
        record {
          follows =
              then_answers (value p env a) then_pair (Some spot) h (λ i. Answer (Some (placed (sym binds.0.path i) (sym (grown_is env spot.bound (x, bound_value spot) binds.0.bound) i) b)));
          spot = leads;
        }

    pub second_leads : (r : Result (Option Spot) Stop) → Implements m (option_map bound_value) old new (value p env a) r → IfOk r (λ o. IfSome o (λ spot. BindsValue p x (bound_value spot) spot × (spot.reads ≡ length (m.reads new.reader.now)))) → LeadsTo m Second p env s old new r
    second_leads r h binds = subst (λ s. LeadsTo m Second p env s old new r) (sym form) (at_pair r h binds)
