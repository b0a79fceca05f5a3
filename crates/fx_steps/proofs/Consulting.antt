-- Steps that consult the filestore: inside an entry.
use Rattle.fx_steps.proofs.Prelude.{◌≡◌, ℕ, Bool, true, false, cond, List, [], ◌∷◌, length, take, Option, Some, None, option_map, Result, Ok, Err, refl, sym, ap, ◌∙◌, subst, IsErrAnd, Ask, Answer, ◌>>=◌, has_text, Refusal}
use Rattle.fx_steps.proofs.Prelude.{Bindings, exists, Answered, go_into, Inside, Address, PlaceTree, placed, where_true, SpecTree, Stop, Meaning, err_of, Halt, Entry, Spot, IsNoOption, grown, spot_place}
use Rattle.fx_steps.proofs.Prelude.{LeadsTo, Enters, step_tree, Implements, then_answers, then_refused, stops, answers, Session, own_at, ReadList, Known, Found, follow, known_of}
use Rattle.fx_view.specs.declared.reader.Stop.TheVariants as stop
use Rattle.fx_session.specs.declared.halt.Halt.TheVariants as halt
use Rattle.fx_steps.specs.declared.frame.Bound.TheVariants as bounds
use Rattle.fx_steps.proofs.Entering.{leads_step}
use Rattle.fx_steps.proofs.Sessions.{found_by}

-- ---- elements that are chosen are elements

pub has_asked : (text : List ℕ) (set : List (List ℕ)) (t : List ℕ) → where_true (has_text text set) text ≡ Some t → has_text t set ≡ true
has_asked text set t e = at (has_text text set) refl e
  where
    at : (b : Bool) → has_text text set ≡ b → where_true b text ≡ Some t → has_text t set ≡ true
    at false is e = absurd (cc)
    at true is e = let same : text ≡ t = cc in ap (λ u. has_text u set) (sym same) ∙ is

-- ---- what is found by all reads

all_taken : {A : Type 0} (xs : List A) → take (length xs) xs ≡ xs
all_taken [] = refl
all_taken (x ∷ xs) = ap (λ xs. x ∷ xs) (all_taken xs)

-- what is found by all reads, as many as the frame tells
pub by_all : {A : Type 0} (reads : ReadList) (spot : Spot) (own : Known) (rule : Ask A) (a : A) → spot.reads ≡ length reads → follow (known_of reads) own rule ≡ Found a → follow (known_of (take spot.reads reads)) own rule ≡ Found a
by_all reads spot own rule a all h = ap (λ rs. follow (known_of rs) own rule) (ap (λ k. take k reads) all ∙ all_taken reads) ∙ h

-- ---- at another form no step leads inside

pub inside_form : {R L : Type 0} (m : Meaning R) (p : List (List ℕ)) (env : Bindings) (s : Session R L) (spec : SpecTree) → IsNoOption spec → LeadsTo m Inside p env spec s s (Ok None)
inside_form m p env s SpecTree.file none = record { follows = answers None None refl; spot = tt }
inside_form m p env s SpecTree.dir none = record { follows = answers None None refl; spot = tt }
inside_form m p env s SpecTree.link none = record { follows = answers None None refl; spot = tt }
inside_form m p env s (SpecTree.focus e d) none = record { follows = answers None None refl; spot = tt }
inside_form m p env s (SpecTree.pair x a b) none = record { follows = answers None None refl; spot = tt }
inside_form m p env s (SpecTree.comp d x e) none = record { follows = answers None None refl; spot = tt }
inside_form m p env s (SpecTree.opt d) none = absurd none
inside_form m p env s (SpecTree.pred e) none = record { follows = answers None None refl; spot = tt }
inside_form m p env s (SpecTree.call args params d) none = record { follows = answers None None refl; spot = tt }
inside_form m p env s (SpecTree.last args params) none = record { follows = answers None None refl; spot = tt }

module _ {R L : Type 0} (m : Meaning R) (p : List (List ℕ)) (env : Bindings) (old new : Session R L) where
  -- ---- inside an entry

  abbrev There : Result Bool Stop → Type 0
  There r = Implements m (λ b. b) old new (exists p) r

  module _ (s d : SpecTree) (form : s ≡ SpecTree.opt d) where
    abbrev LeadsInside : Result (Option Spot) Stop → Type 0
    LeadsInside r = LeadsTo m Inside p env s old new r

    abbrev in_place : Bool → Ask (Option PlaceTree)
    in_place there = Answer (where_true there (placed p env d))

    leads_form : (r : Result (Option Spot) Stop) → LeadsTo m Inside p env (SpecTree.opt d) old new r → LeadsInside r
    leads_form r h = subst (λ s. LeadsTo m Inside p env s old new r) (sym form) h

    pub inside_stops : (why : Stop) (r : Result (Option Spot) Stop) → IsErrAnd r (λ d. d ≡ why) → There (Err why) → LeadsInside r
    inside_stops why r is h = subst LeadsInside (sym (err_of r why is)) (leads_form (Err why) (record {
      follows = stops (exists p) in_place (Err why) refl h;
      spot = tt;
    }))

    pub inside_memory : (there : Bool) (r : Result (Option Spot) Stop) → IsErrAnd r (λ d. d ≡ stop.NoMemory) → There (Ok there) → LeadsInside r
    inside_memory there r is h = subst LeadsInside (sym (err_of r stop.NoMemory is)) (leads_form (Err stop.NoMemory) (record {
      follows = then_refused (exists p) in_place (Err stop.NoMemory) refl h;
      spot = tt;
    }))

    pub inside_leads : (there : Bool) (spot : Spot) → there ≡ true → spot.path ≡ p → spot.bound ≡ bounds.Nothing → spot.reads ≡ length (m.reads new.reader.now) → There (Ok there) → LeadsInside (Ok (Some spot))
    inside_leads there spot held path bound all h = leads_form (Ok (Some spot)) (record {
      follows = at_place;
      spot = record {
        found = by_all (m.reads new.reader.now) spot (own_at new.own) (exists p >>= in_place) (Some (spot_place env d spot)) all (found_by at_place);
        fits = record { held = tt; back = ap (grown env) bound };
      };
    })
      where
        at_place : Implements m (option_map (spot_place env d)) old new (exists p >>= in_place) (Ok (Some spot))
        at_place =
            then_answers (exists p) in_place (Some spot) h (ap in_place held ∙ (λ i. Answer (Some (placed (sym path i) (grown env (sym bound i)) d))))

    pub inside_none : (there : Bool) → there ≡ false → There (Ok there) → LeadsInside (Ok None)
    inside_none there gone h = leads_form (Ok None) (record {
      follows = then_answers (exists p) in_place None h (ap in_place gone);
      spot = tt;
    })

  module _ (d : SpecTree) where
    abbrev EntersInside : Result Entry Halt → Type 0
    EntersInside r = Enters m (λ a. go_into a p env (SpecTree.opt d)) p env (SpecTree.opt d) old new r

    abbrev then_inside : Address → Bool → Ask (Answered Address)
    then_inside a there = Answer (cond there (Ok (Inside ∷ a)) (Err Refusal.Lacks))

    pub entry_stops : (why : Stop) (r : Result Entry Halt) → IsErrAnd r (λ h. h ≡ halt.Stopped why) → There (Err why) → EntersInside r
    entry_stops why r is h = subst EntersInside (sym (err_of r (halt.Stopped why) is)) (record {
      follows = λ a. stops (exists p) (then_inside a) (Err why) refl h;
      leads = tt;
    })

    pub entry_lacks : (there : Bool) → there ≡ false → There (Ok there) → EntersInside (Err (halt.Refused Refusal.Lacks))
    entry_lacks there gone h = record {
      follows = λ a. then_answers (exists p) (then_inside a) (Err Refusal.Lacks) h (ap (then_inside a) gone);
      leads = tt;
    }

    pub entry_inside : (there : Bool) (entry : Entry) → there ≡ true → step_tree entry.step ≡ Inside → entry.spot.path ≡ p → entry.spot.bound ≡ bounds.Nothing → entry.spot.reads ≡ length (m.reads new.reader.now) → There (Ok there) → EntersInside (Ok entry)
    entry_inside there entry held step path bound all h =
        let led = inside_leads (SpecTree.opt d) d refl there entry.spot held path bound all h in
        record {
          follows = λ a.
              then_answers (exists p) (then_inside a) (Ok entry) h (ap (then_inside a) held ∙ (λ i. Answer (Ok (sym step i ∷ a))));
          leads = leads_step (m.reads new.reader.now) (own_at new.own) Inside (step_tree entry.step) p env (SpecTree.opt d) entry.spot step led.spot;
        }
