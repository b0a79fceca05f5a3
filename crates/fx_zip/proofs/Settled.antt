-- Frames found one after another, from a start on.
use Rattle.fx_zip.proofs.Prelude.{◌≡◌, ℕ, ◌+◌, List, [], ◌∷◌, ◌++◌, length, take, drop, Option, Some, None, Result, Ok, Err, refl, sym, ap, ◌∙◌, subst, arith, append_assoc, length-take, slice_get, slice_get_within, with_some, Address}
use Rattle.fx_zip.proofs.Prelude.{PlaceTree, placed, lead, place, SpecTree, Stop, Meaning, Spot, IsSettling, AreFound, IsFreshIn, part, LeadsTo, kept_too, step_tree, turned, ZipTree, path_of, Implements, then_answers, then_on, stops}
use Rattle.fx_zip.proofs.Prelude.{Session, own_at}
use Rattle.fx_spec.specs.Place as place
use Rattle.fx_view.specs.declared.reader.Stop.TheVariants as stop
use Rattle.fx_steps.specs.declared.step.Step.{Step}
use Rattle.fx_zip.proofs.Standing.{found_place, found_entered}
use Rattle.fx_steps.proofs.Turning.{turned_at, length-turned, same_ends}
use Rattle.fx_zip.proofs.Sessions.{frames_on, stops_as, found_on, memory_after, answers_as}

-- the first step that has no frame
pub record IsNext (ahead kept : Address) (step : place.Step) (before : Address) : Type 0 where
  pub front : Address
  pub is : ahead ≡ front ++ step ∷ []
  pub behind : kept ≡ before

pub next_step : (steps : List Step) (n : ℕ) (step : Step) (ahead kept : Address) → slice_get steps n ≡ Some step → turned step_tree steps ≡ ahead ++ kept → length kept ≡ n → IsNext ahead kept (step_tree step) (turned step_tree (take n steps))
next_step steps n step ahead kept here whole long =
    let within = slice_get_within steps n step here in
    let taken = length-turned step_tree (take n steps) in
    let few = length-take n steps in
    let same = same_ends ahead (turned step_tree (drop (n + 1) steps) ++ step_tree step ∷ []) kept (turned step_tree (take n steps)) (sym whole ∙ turned_at step_tree steps n step here) (omega (arith, within, taken, few, long)) in
    record { front = turned step_tree (drop (n + 1) steps); is = same.0; behind = same.1 }

module _ {R L : Type 0} (m : Meaning R) (root : SpecTree) (start now : Session R L) where
  abbrev pub PlaceOr : Address → Result (Option PlaceTree) Stop → Type 0
  PlaceOr a r = Implements {A = Option PlaceTree} {X = Option PlaceTree} m (λ at. at) start now (place root a) r

  -- where there is no place, there is none further on
  pub none_above : (front a : Address) → PlaceOr a (Ok None) → PlaceOr (front ++ a) (Ok None)
  unfolding place
  none_above [] a h = h
  none_above (step ∷ front) a h =
      then_answers (place root (front ++ a)) (with_some λ at. lead step at.path at.env at.spec) None (none_above front a h) refl

  pub stop_above : (front a : Address) (why : Stop) → PlaceOr a (Err why) → PlaceOr (front ++ a) (Err why)
  unfolding place
  stop_above [] a why h = h
  stop_above (step ∷ front) a why h =
      stops (place root (front ++ a)) (with_some λ at. lead step at.path at.env at.spec) (Err why) refl (stop_above front a why h)

module _ {R L : Type 0} (m : Meaning R) (start was now : Session R L) (z : ZipTree) (at : IsSettling m start was z) (step : place.Step) (before : Address) (next : IsNext at.ahead at.kept step before) where
  abbrev LeadsOn : Result (Option Spot) Stop → Type 0
  LeadsOn r = LeadsTo m step (path_of z.frames) z.env (part z.root before) was now r

  behind_leads : (r : Result (Option Spot) Stop) → LeadsOn r → LeadsTo m step (path_of z.frames) z.env (part z.root at.kept) was now r
  behind_leads r h = subst (λ a. LeadsTo m step (path_of z.frames) z.env (part z.root a) was now r) (sym next.behind) h

  grown_now : (r : Result (Option Spot) Stop) → LeadsOn r → AreFound (m.reads now.reader.now) (own_at now.own) z.root at.kept z.frames z.env
  grown_now r h =
      frames_on h.follows z.root at.kept z.frames z.env at.found

  whole_now : z.address ≡ next.front ++ (step ∷ at.kept)
  whole_now = at.whole ∙ ap (λ a. a ++ at.kept) next.is ∙ append_assoc next.front (step ∷ []) at.kept

  -- the frame is found
  pub settles_on : (spot : Spot) → LeadsOn (Ok (Some spot)) → IsSettling m start now (kept_too z spot)
  unfolding place
  settles_on spot h =
      let leads = behind_leads (Ok (Some spot)) h in
      record {
        ahead = next.front;
        kept = step ∷ at.kept;
        whole = whole_now;
        found =
            found_entered (m.reads now.reader.now) (own_at now.own) z.root at.kept z.frames z.env step spot (grown_now (Ok (Some spot)) h)
            leads.spot;
        set = tt;
        so_far =
            then_on (place z.root at.kept) (with_some λ at. lead step at.path at.env at.spec) at.so_far (answers_as refl leads.follows);
      }

  place_on : (r : Result (Option PlaceTree) Stop) → Implements {A = Option PlaceTree} {X = Option PlaceTree} m (λ at. at) was now (lead step (path_of z.frames) z.env (part z.root at.kept)) r → PlaceOr m z.root start now (step ∷ at.kept) r
  unfolding place
  place_on r h =
      then_on (place z.root at.kept) (with_some λ at. lead step at.path at.env at.spec) at.so_far h

  -- there is none
  pub settles_none : LeadsOn (Ok None) → PlaceOr m z.root start now z.address (Ok None) × IsFreshIn m now z
  settles_none h =
      let leads = behind_leads (Ok None) h in
      let at_step = place_on (Ok None) (answers_as refl leads.follows) in (
        subst (λ a. PlaceOr m z.root start now a (Ok None)) (sym whole_now) (none_above m z.root start now next.front (step ∷ at.kept) at_step),
        record { ahead = at.ahead; kept = at.kept; whole = at.whole; found = grown_now (Ok None) h; set = at.set },
      )

  -- the search for it stops
  stop_as : (why : Stop) → LeadsOn (Err why) → Implements {A = Option PlaceTree} {X = Option PlaceTree} m (λ at. at) was now (lead step (path_of z.frames) z.env (part z.root at.kept)) (Err why)
  stop_as why h = let leads = behind_leads (Err why) h in stops_as why leads.follows

  pub settles_stop : (why : Stop) → LeadsOn (Err why) → PlaceOr m z.root start now z.address (Err why)
  settles_stop why h =
      subst (λ a. PlaceOr m z.root start now a (Err why)) (sym whole_now) (stop_above m z.root start now next.front (step ∷ at.kept) why (place_on (Err why) (stop_as why h)))

  -- it is found, and memory for it is refused
  pub settles_memory : (o : Option Spot) → LeadsOn (Ok o) → PlaceOr m z.root start now z.address (Err stop.NoMemory)
  settles_memory o h =
      let leads = behind_leads (Ok o) h in
      let stopped = memory_after leads.follows in
      subst (λ a. PlaceOr m z.root start now a (Err stop.NoMemory)) (sym whole_now) (stop_above m z.root start now next.front (step ∷ at.kept) stop.NoMemory (place_on (Err stop.NoMemory) stopped))

-- at the start nothing was found yet but what the frames say
pub settling_first : {R L : Type 0} (m : Meaning R) (start : Session R L) (z : ZipTree) → IsFreshIn m start z → IsSettling m start start z
settling_first m start z h = record {
  ahead = h.ahead;
  kept = h.kept;
  whole = h.whole;
  found = h.found;
  set = h.set;
  so_far =
      found_on (Ok (Some (placed (path_of z.frames) z.env (part z.root h.kept))))
      (found_place (m.reads start.reader.now) (own_at start.own) z.root h.kept z.frames z.env h.found);
}

pub settling_fresh : {R L : Type 0} (m : Meaning R) (start now : Session R L) (z : ZipTree) → IsSettling m start now z → IsFreshIn m now z
settling_fresh m start now z h = record { ahead = h.ahead; kept = h.kept; whole = h.whole; found = h.found; set = h.set }
