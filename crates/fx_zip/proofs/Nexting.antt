-- The first step that has no frame, and the zipper with one frame more.
use Rattle.fx_zip.proofs.Prelude.{ReadList, ◌≡◌, ℕ, ◌<◌, Bool, true, false, List, [], ◌∷◌, ◌++◌, length, take, get_or, Option, Some, None, Result, Ok, Err, refl, sym, ap, ◌∙◌, subst, arith, append_assoc, length-append, slice_get, IsErrAnd}
use Rattle.fx_zip.proofs.Prelude.{slice_get_read, Frame, eqb-false, Known, Bindings, SpecTree, IsDescription, Stop, Meaning, err_of, HasScope, Spot, IsSettling, SettlesFrames, IsFresh, part, LeadsTo, LeadsNext, kept_too, step_tree, turned}
use Rattle.fx_zip.proofs.Prelude.{ZipTree, path_of, is_settled, Session, own_at}
use Rattle.fx_view.specs.declared.reader.Stop.TheVariants as stop
use Rattle.fx_steps.specs.declared.step.Step.{Step}
use Rattle.fx_zip.proofs.Settled.{IsNext, next_step, settles_on, settles_none, settles_stop, settles_memory}
use Rattle.fx_zip.proofs.Standing.{found_length, found_scope}
use Rattle.fx_steps.proofs.Turning.{length-turned, same_ends}

module _ (known : ReadList) (own : Known) (z : ZipTree) (fresh : IsFresh known own z) where
  frames_kept : length z.frames ≡ length fresh.kept
  frames_kept = found_length known own z.root fresh.kept z.frames z.env fresh.found

  -- some step has no frame
  pub few_frames : is_settled z ≡ false → length z.frames < length z.address
  few_frames unsettled =
      let all = ap length fresh.whole in
      let both = length-append fresh.ahead fresh.kept in
      let kept = frames_kept in
      let apart = eqb-false (length z.frames) (length z.address) unsettled in
      omega (arith, all, both, kept, apart)

  module _ (unsettled : is_settled z ≡ false) (steps : List Step) (frames : List Frame) (whole : turned step_tree steps ≡ z.address) (kept : turned (λ f. f) frames ≡ z.frames) (n : ℕ) (long : n ≡ length frames) where
    as_long : n ≡ length z.frames
    as_long = long ∙ sym (length-turned (λ f. f) frames) ∙ ap length kept

    pub few_here : n < length steps
    few_here =
        let few = few_frames unsettled in
        let all = ap length whole in
        let seen = length-turned step_tree steps in
        let same = as_long in
        omega (arith, few, all, seen, same)

    module _ (step : Step) (read : step ≡ get_or steps n step) where
      step_here : slice_get steps n ≡ Some step
      step_here = slice_get_read steps (length steps) n step refl few_here read

      kept_front : IsNext fresh.ahead fresh.kept (step_tree step) (turned step_tree (take n steps))
      kept_front = next_step steps n step fresh.ahead fresh.kept step_here (whole ∙ fresh.whole) (sym frames_kept ∙ sym as_long)

      module _ (root : SpecTree) (rooted : root ≡ z.root) (s : SpecTree) (form : s ≡ part root (turned step_tree (take n steps))) (env : Bindings) (bound : env ≡ z.env) where
        form_here : s ≡ part z.root fresh.kept
        form_here = form ∙ ap (λ r. part r (turned step_tree (take n steps))) rooted ∙ ap (part z.root) (sym kept_front.behind)

        -- the frames' names are in scope
        pub scope_next : IsDescription [] root → HasScope env s
        scope_next d =
            subst (λ e. HasScope e s) (sym bound)
            (subst (HasScope z.env) (sym form_here) (found_scope known own z.root (subst (IsDescription []) rooted d) fresh.kept z.frames z.env fresh.found))

        pub leads_next : {R L : Type 0} (m : Meaning R) (was now : Session R L) (r : Result (Option Spot) Stop) (path : List (List ℕ)) → path ≡ path_of z.frames → LeadsTo m (step_tree step) path env s was now r → LeadsNext m z was now r
        leads_next m was now r path at leads = record {
          ahead = kept_front.front;
          step = step_tree step;
          kept = fresh.kept;
          whole = fresh.whole ∙ ap (λ a. a ++ fresh.kept) kept_front.is ∙ append_assoc kept_front.front (step_tree step ∷ []) fresh.kept;
          long = sym frames_kept;
          leads =
              subst (λ q. LeadsTo m (step_tree step) q z.env (part z.root fresh.kept) was now r) at
              (subst (λ e. LeadsTo m (step_tree step) path e (part z.root fresh.kept) was now r) bound
              (subst (λ t. LeadsTo m (step_tree step) path env t was now r) form_here leads));
        }

module _ {R L : Type 0} (m : Meaning R) (old : ZipTree) (was now : Session R L) where
  module _ (r : Result (Option Spot) Stop) (h : LeadsNext m old was now r) (start : Session R L) (at : IsSettling m start was old) where
    is_next : IsNext at.ahead at.kept h.step h.kept
    is_next =
        let kept = found_length (m.reads was.reader.now) (own_at was.own) old.root at.kept old.frames old.env at.found in
        let same = same_ends at.ahead (h.ahead ++ h.step ∷ []) at.kept h.kept (sym at.whole ∙ h.whole ∙ sym (append_assoc h.ahead (h.step ∷ []) h.kept)) (sym kept ∙ sym h.long) in
        record { front = h.ahead; is = same.0; behind = same.1 }

  pub settles_true : (mid new : ZipTree) (o : Option Spot) (spot : Spot) → o ≡ Some spot → LeadsNext m old was now (Ok o) → mid ≡ old → new ≡ kept_too mid spot → SettlesFrames m old new was now (Ok true)
  settles_true mid new o spot some leads same is = let h : LeadsNext m old was now (Ok (Some spot)) = subst (λ o. LeadsNext m old was now (Ok o)) some leads in subst (λ z. SettlesFrames m old z was now (Ok true)) (sym (is ∙ ap (λ z. kept_too z spot) same)) (record {
    root = refl;
    address = refl;
    to = λ start at. settles_on m start was now old at h.step h.kept (is_next (Ok (Some spot)) h start at) spot h.leads;
    more = λ _. omega arith;
  })

  pub settles_false : (mid : ZipTree) (o : Option Spot) → o ≡ None → LeadsNext m old was now (Ok o) → mid ≡ old → SettlesFrames m old mid was now (Ok false)
  settles_false mid o none leads same = let h : LeadsNext m old was now (Ok None) = subst (λ (o : Option Spot). LeadsNext m old was now (Ok o)) none leads in subst (λ z. SettlesFrames m old z was now (Ok false)) (sym same) (record {
    root = refl;
    address = refl;
    to = λ start at. settles_none m start was now old at h.step h.kept (is_next (Ok None) h start at) h.leads;
    more = λ e. absurd (cc);
  })

  pub settles_err : (mid : ZipTree) (why : Stop) (r : Result Bool Stop) → LeadsNext m old was now (Err why) → mid ≡ old → IsErrAnd r (λ d. d ≡ why) → SettlesFrames m old mid was now r
  settles_err mid why r h same is = subst (λ z. SettlesFrames m old z was now r) (sym same) (subst (SettlesFrames m old old was now) (sym (err_of r why is)) (record {
    root = refl;
    address = refl;
    to = λ start at. settles_stop m start was now old at h.step h.kept (is_next (Err why) h start at) why h.leads;
    more = tt;
  }))

  pub settles_refused : (mid new : ZipTree) (o : Option Spot) (r : Result Bool Stop) → LeadsNext m old was now (Ok o) → mid ≡ old → new.root ≡ mid.root → new.address ≡ mid.address → IsErrAnd r (λ d. d ≡ stop.NoMemory) → SettlesFrames m old new was now r
  settles_refused mid new o r h same root address is = subst (SettlesFrames m old new was now) (sym (err_of r stop.NoMemory is)) (record {
    root = root ∙ ap (λ (z : ZipTree). z.root) same;
    address = address ∙ ap (λ (z : ZipTree). z.address) same;
    to = λ start at. settles_memory m start was now old at h.step h.kept (is_next (Ok o) h start at) o h.leads;
    more = tt;
  })
