-- Acts that edit: the place is found, the edit is made there, and the frames that the own changes leave untouched are kept.
use Rattle.std.proofs.Common.{◌≡◌, ℕ, List, [], Result, Ok, Err, refl, sym, ap, ◌∙◌, subst}
use Rattle.std.specs.Prelude.{IsErrAnd, take}
use Rattle.fx_store.specs.declared.changes.Change.{Change}
use Rattle.fx_store.specs.Rule.{Known, Ask, Answer, ◌>>=◌}
use Rattle.fx_store.proofs.Asks.{ask-bind-assoc}
use Rattle.fx_spec.specs.declared.refusal.Refusal.{Refusal}
use Rattle.fx_spec.specs.Move.{Answered, needed, unrefused, at_place}
use Rattle.fx_spec.specs.Place.{Address, PlaceTree, place}
use Rattle.fx_spec.specs.SpecTree.{SpecTree}
use Rattle.fx_spec.specs.Transaction.{edits, editing}
use Rattle.fx_spec.specs.Transaction as txn
use Rattle.fx_edit.specs.Edits.{Edits, under}
use Rattle.fx_session.specs.declared.halt.Halt.{Halt}
use Rattle.fx_session.specs.declared.halt.Halt.TheVariants as halt
use Rattle.fx_session.specs.declared.session.Session.{Session}
use Rattle.fx_session.specs.Implements.{Implements}
use Rattle.fx_session.proofs.Calls.{same_rule, then_on, then_answers, stops}
use Rattle.fx_view.specs.declared.reader.Stop.{Stop}
use Rattle.fx_view.specs.Meaning.{Meaning}
use Rattle.fx_view.specs.Own.{own_at, put_all, SameOver}
use Rattle.fx_view.specs.OwnList.{OwnList}
use Rattle.fx_view.specs.ReadList.{ReadList}
use Rattle.fx_base.proofs.Errors.{err_of}
use Rattle.fx_zip.specs.Calls.{Finds, place_needed}
use Rattle.fx_zip.specs.Fresh.{IsFresh}
use Rattle.fx_zip.specs.Trees.{ZipTree, here}
use Rattle.fx_run.specs.declared.walk.Walk.{Walk}
use Rattle.fx_run.specs.Acts.{Acts}
use Rattle.fx_run.proofs.Going.{mapped, read_with, fresh_with, stop_as}
use Rattle.fx_run.proofs.Taken.{walk_of}

abbrev Rest : Type 0
Rest = PlaceTree → Ask (Answered (List Change))

at_place_is : (root : SpecTree) (a : Address) (rest : Rest) → (place_needed root a >>= unrefused rest) ≡ at_place root a rest
at_place_is root a rest = ask-bind-assoc (place root a) (λ at. Answer (needed Refusal.NoPlace at)) (unrefused rest)

-- the frames that the first reads tell last over own changes elsewhere
abbrev Lasts : ℕ → ZipTree → ZipTree → Type 0
Lasts n old new = (reads : ReadList) (own now : Known) → SameOver (take n reads) own now → IsFresh reads own old → IsFresh reads now new

module _ {R L : Type 0} {m : Meaning R} {old : Walk R L} {mid : ZipTree} {then : Session R L} (rest : Rest) where
  -- ---- the place is not found

  unfound : (e : Halt) → Finds m old.zip mid old.session then (Err e) → Acts m old (walk_of mid then) (editing (at_place old.zip.root old.zip.address rest)) (Err e)
  unfound (halt.Refused f) h =
      let goes : Implements {X = Unit {0}} m (λ u. Err f) old.session then (at_place old.zip.root old.zip.address rest) (Ok tt) =
      same_rule (place_needed old.zip.root old.zip.address >>= unrefused rest) (at_place old.zip.root old.zip.address rest) (at_place_is old.zip.root old.zip.address rest)
      (then_answers (place_needed old.zip.root old.zip.address) (unrefused rest) tt h.follows refl) in
      record {
        taken = (mapped goes edits, h.address, goes.own);
        fresh = h.fresh;
        root = h.root;
        read = read_with goes;
        lent = goes.lent;
      }
  unfound (halt.Stopped why) h =
      let goes : Implements {X = Unit {0}} m (λ u. Ok []) old.session then (at_place old.zip.root old.zip.address rest) (Err why) =
      same_rule (place_needed old.zip.root old.zip.address >>= unrefused rest) (at_place old.zip.root old.zip.address rest) (at_place_is old.zip.root old.zip.address rest)
      (stops (place_needed old.zip.root old.zip.address) (unrefused rest) (Err why) refl h.follows) in
      record {
        taken = stop_as m (λ (u : Unit {0}). edits (Ok [])) (own_at old.session.own) old.session.reader.now then.reader.now (editing (at_place old.zip.root old.zip.address rest)) (λ (u : Unit {0}). Ok (txn.Moves old.zip.address)) why (mapped goes edits);
        fresh = tt;
        root = h.root;
        read = λ read. tt;
        lent = goes.lent;
      }

  pub unfound_acts : {r : Result (Unit {0}) Halt} (e : Halt) → IsErrAnd r (λ h. h ≡ e) → Finds m old.zip mid old.session then (Err e) → Acts m old (walk_of mid then) (editing (at_place old.zip.root old.zip.address rest)) r
  unfound_acts {r = r} e is h = subst (Acts m old (walk_of mid then) (editing (at_place old.zip.root old.zip.address rest))) (sym (err_of r e is)) (unfound e h)

  -- ---- it is found, and the edit goes on from there

  module _ (finds : Finds m old.zip mid old.session then (Ok tt)) (at : PlaceTree) (same : at ≡ here mid) where
    goes_on : (now : Session R L) {Y : Type 0} {view : Y → Answered (List Change)} {r : Result Y Stop} → Implements m view then (under then.own now) (rest at) r → Implements m view old.session (under then.own now) (at_place old.zip.root old.zip.address rest) r
    goes_on now h =
        same_rule (place_needed old.zip.root old.zip.address >>= unrefused rest) (at_place old.zip.root old.zip.address rest) (at_place_is old.zip.root old.zip.address rest)
        (then_on (place_needed old.zip.root old.zip.address) (unrefused rest) finds.follows (same_rule (rest at) (rest (here mid)) (ap rest same) h))

    -- it is refused or stops
    failed : (now : Session R L) (e : Halt) → Edits m then now (rest at) (Err e) → Acts m old (walk_of mid now) (editing (at_place old.zip.root old.zip.address rest)) (Err e)
    failed now (halt.Refused f) h = record {
      taken = (mapped (goes_on now h.made.0) edits, finds.address, h.made.1 ∙ finds.follows.own);
      fresh = subst (λ (own : OwnList). IsFresh (m.reads now.reader.now) (own_at own) mid) (sym h.made.1) (fresh_with h.made.0 mid finds.fresh);
      root = finds.root;
      read = λ read. h.read (read_with finds.follows read);
      lent = h.lent ∙ finds.follows.lent;
    }
    failed now (halt.Stopped why) h = record {
      taken = stop_as m (λ (u : Unit {0}). edits (Ok [])) (own_at old.session.own) old.session.reader.now now.reader.now (editing (at_place old.zip.root old.zip.address rest)) (λ (u : Unit {0}). Ok (txn.Moves old.zip.address)) why (mapped (goes_on now h.made) edits);
      fresh = tt;
      root = finds.root;
      read = λ read. tt;
      lent = h.lent ∙ finds.follows.lent;
    }

    pub failed_acts : {now : Session R L} {r : Result (Unit {0}) Halt} (e : Halt) → IsErrAnd r (λ h. h ≡ e) → Edits m then now (rest at) (Err e) → Acts m old (walk_of mid now) (editing (at_place old.zip.root old.zip.address rest)) r
    failed_acts {now = now} {r = r} e is h = subst (Acts m old (walk_of mid now) (editing (at_place old.zip.root old.zip.address rest))) (sym (err_of r e is)) (failed now e h)

    -- it is made
    pub edited_acts : {now : Session R L} {z : ZipTree} (n : ℕ) → z.root ≡ mid.root → z.address ≡ mid.address → Lasts n mid z → SameOver (take n (m.reads now.reader.now)) (own_at then.own) (own_at now.own) → Edits m then now (rest at) (Ok tt) → Acts m old (walk_of z now) (editing (at_place old.zip.root old.zip.address rest)) (Ok tt)
    edited_acts {now = now} n root address lasts same h = record {
      taken = (txn.Changes h.made.0, mapped (goes_on now h.made.1) edits, (address ∙ finds.address, h.made.2 ∙ ap (λ (own : OwnList). put_all own h.made.0) finds.follows.own));
      fresh = lasts (m.reads now.reader.now) (own_at then.own) (own_at now.own) same (fresh_with h.made.1 mid finds.fresh);
      root = root ∙ finds.root;
      read = λ read. h.read (read_with finds.follows read);
      lent = h.lent ∙ finds.follows.lent;
    }
