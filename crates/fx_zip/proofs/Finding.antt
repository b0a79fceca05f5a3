-- The loop that finds the place of a zipper.
use Rattle.fx_zip.proofs.Prelude.{◌≡◌, ◌+◌, ◌-◌, ◌<◌, ◌≤◌, Bool, true, false, cond, [], ◌∷◌, ◌++◌, length, Option, Some, None, Result, Ok, Err, refl, sym, ap, ◌∙◌, subst, arith, length-append, IsErrAnd, Ask, Answer, ticks, changed, Refusal}
use Rattle.fx_zip.proofs.Prelude.{needed, Address, PlaceTree, placed, place, Stop, Meaning, err_of, Halt, IsSettling, SettlesTo, SettlesFrames, Finds, Evaluates, place_needed, part, ZipTree, is_settled, path_of, here, Implements, Answers}
use Rattle.fx_zip.proofs.Prelude.{then_answers, stops, Session, own_at, IsFreshIn}
use Rattle.fx_session.specs.declared.halt.Halt.TheVariants as halt
use Rattle.fx_zip.proofs.Settled.{PlaceOr, settling_first, settling_fresh}
use Rattle.fx_zip.proofs.Nexting.{few_frames}
use Rattle.fx_zip.proofs.Standing.{found_length, fresh_stands}
use Rattle.fx_zip.proofs.Sessions.{stops_as, answers_as}

pub record Finding {R L : Type 0} (m : Meaning R) (first : ZipTree) (start now : Session R L) (z : ZipTree) : Type 0 where
  pub settling : IsSettling m start now z
  pub root : z.root ≡ first.root
  pub address : z.address ≡ first.address
  pub quiet : is_settled first ≡ true → (now ≡ start) × (is_settled z ≡ true)

module _ {R L : Type 0} (m : Meaning R) (first : ZipTree) (start : Session R L) where
  pub finding_first : IsFreshIn m start first → Finding m first start start first
  finding_first h = record { settling = settling_first m start first h; root = refl; address = refl; quiet = λ e. (refl, e) }

  module _ (now : Session R L) (z : ZipTree) (f : Finding m first start now z) where
    at_root : (a : Address) → place z.root z.address ≡ place first.root first.address
    at_root a = ap (λ root. place root z.address) f.root ∙ ap (place first.root) f.address

    place_first : (then : Session R L) (r : Result (Option PlaceTree) Stop) → PlaceOr m z.root start then z.address r → PlaceOr m first.root start then first.address r
    place_first then r h = subst (λ (rule : Ask (Option PlaceTree)). Implements {A = Option PlaceTree} {X = Option PlaceTree} m (λ at. at) start then rule r) (at_root []) h

    -- every step has its frame
    pub found_all : is_settled z ≡ true → Finds m first z start now (Ok tt)
    found_all settled =
        let fresh = settling_fresh m start now z f.settling in
        let stands = fresh_stands (m.reads now.reader.now) (own_at now.own) z fresh settled in
        let kept : f.settling.kept ≡ z.address = kept_all f.settling.ahead f.settling.kept f.settling.whole (same_length settled) in
        let there : PlaceOr m z.root start now z.address (Ok (Some (here z))) = subst (λ a. PlaceOr m z.root start now a (Ok (Some (placed (path_of z.frames) z.env (part z.root a))))) kept f.settling.so_far in
        let at_first = place_first now (Ok (Some (here z))) there in
        record {
          follows = then_answers (place first.root first.address) (λ at. Answer (needed Refusal.NoPlace at)) (Ok tt) at_first refl;
          stands = stands;
          fresh = fresh;
          settled = settled;
          kept = λ _. settled;
          root = f.root;
          address = f.address;
          most = all_most (Ok (Some (here z))) at_first;
        }
      where
        same_length : is_settled z ≡ true → length f.settling.kept ≡ length z.address
        same_length e =
            let stands = fresh_stands (m.reads now.reader.now) (own_at now.own) z (settling_fresh m start now z f.settling) e in
            let kept = found_length (m.reads now.reader.now) (own_at now.own) z.root f.settling.kept z.frames z.env f.settling.found in
            let all = found_length (m.reads now.reader.now) (own_at now.own) z.root z.address z.frames z.env stands.found in
            omega (arith, kept, all)

        kept_all : (ahead kept : Address) → z.address ≡ ahead ++ kept → length kept ≡ length z.address → kept ≡ z.address
        kept_all [] kept whole long = sym whole
        kept_all (s ∷ ahead) kept whole long = let all = ap length whole in let both = length-append ahead kept in absurd (omega (arith, all, both, long))

        all_most : (r : Result (Option PlaceTree) Stop) → PlaceOr m first.root start now first.address r → Evaluates m first start now (λ S. 0)
        all_most r h S agrees = at (is_settled first) refl
          where
            at : (b : Bool) → is_settled first ≡ b → now.steps ≤ start.steps + (cond (is_settled first) 0 (ticks (changed (own_at start.own) S) (place first.root first.address)) + 0)
            at true e = let same = ap (λ (s : Session R L). s.steps) (f.quiet e).0 in omega (arith, same)
            at false e = let most = h.follows.most S agrees in let is = ap (λ b. cond b 0 (ticks (changed (own_at start.own) S) (place first.root first.address))) e in omega (arith, most, is)

    module _ (unsettled : is_settled z ≡ false) (new : ZipTree) (then : Session R L) where
      -- fewer steps have no frame
      pub finding_smaller : (more : Bool) → more ≡ true → SettlesFrames m z new now then (Ok more) → length new.address - length new.frames < length z.address - length z.frames
      finding_smaller more goes h =
          let few = few_frames (m.reads now.reader.now) (own_at now.own) z (settling_fresh m start now z f.settling) unsettled in
          let same = ap length h.address in
          let one = h.more goes in
          omega (arith, few, same, one)

      not_first : is_settled first ≡ true → ⊥
      not_first e = let s : is_settled z ≡ true = (f.quiet e).1 in absurd (cc)

      first_unsettled : (b : Bool) → is_settled first ≡ b → is_settled first ≡ false
      first_unsettled true e = absurd (not_first e)
      first_unsettled false e = e

      stop_most : (r : Result (Option PlaceTree) Stop) → PlaceOr m first.root start then first.address r → Evaluates m first start then (λ S. 0)
      stop_most r h S agrees =
          let most = h.follows.most S agrees in
          let is = ap (λ b. cond b 0 (ticks (changed (own_at start.own) S) (place first.root first.address))) (first_unsettled (is_settled first) refl) in
          omega (arith, most, is)

      pub finding_next : (more : Bool) → more ≡ true → SettlesFrames m z new now then (Ok more) → Finding m first start then new
      finding_next more goes h = record {
        settling = subst (λ b. SettlesTo m start then z new (Ok b)) goes (h.to start f.settling);
        root = h.root ∙ f.root;
        address = h.address ∙ f.address;
        quiet = λ e. absurd (not_first e);
      }

      pub found_none : (more : Bool) → more ≡ false → SettlesFrames m z new now then (Ok more) → Finds m first new start then (Err (halt.Refused Refusal.NoPlace))
      found_none more ends h =
          let none = subst (λ b. SettlesTo m start then z new (Ok b)) ends (h.to start f.settling) in
          let at_first = place_first then (Ok None) none.0 in
          record {
            follows = then_answers (place first.root first.address) (λ at. Answer (needed Refusal.NoPlace at)) (Err Refusal.NoPlace) at_first refl;
            stands = tt;
            fresh = none.1;
            settled = tt;
            kept = λ e. absurd (not_first e);
            root = h.root ∙ f.root;
            address = h.address ∙ f.address;
            most = stop_most (Ok None) at_first;
          }

      stopped : (why : Stop) → SettlesFrames m z new now then (Err why) → Finds m first new start then (Err (halt.Stopped why))
      stopped why h =
          let at_first = place_first then (Err why) (h.to start f.settling) in
          record {
            follows = stops (place first.root first.address) (λ at. Answer (needed Refusal.NoPlace at)) (Err why) refl at_first;
            stands = tt;
            fresh = tt;
            settled = tt;
            kept = λ e. absurd (not_first e);
            root = h.root ∙ f.root;
            address = h.address ∙ f.address;
            most = stop_most (Err why) at_first;
          }

      pub found_stop : (why : Stop) (r : Result (Unit {0}) Halt) → IsErrAnd r (λ h. h ≡ halt.Stopped why) → SettlesFrames m z new now then (Err why) → Finds m first new start then r
      found_stop why r is h = subst (Finds m first new start then) (sym (err_of r (halt.Stopped why) is)) (stopped why h)

-- ---- the place, handed out

module _ {R L : Type 0} (m : Meaning R) (old mid : ZipTree) (was now : Session R L) {X : Type 0} (view : X → PlaceTree) where
  abbrev Hands : Result X Halt → Type 0
  Hands r = Answers m view was now (place_needed old.root old.address) r

  pub hands_found : Finds m old mid was now (Ok tt) → (x : X) → view x ≡ here mid → Hands (Ok x)
  hands_found finds x same = answers_as (ap Ok (sym same)) finds.follows

  hands_err : (e : Halt) → Finds m old mid was now (Err e) → Hands (Err e)
  hands_err (halt.Refused f) finds = answers_as refl finds.follows
  hands_err (halt.Stopped why) finds = stops_as why finds.follows

  pub hands_unfound : (e : Halt) (r : Result X Halt) → Finds m old mid was now (Err e) → IsErrAnd r (λ h. h ≡ e) → Hands r
  hands_unfound e r finds is = subst Hands (sym (err_of r e is)) (hands_err e finds)
