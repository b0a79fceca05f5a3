-- Acts that move, and acts whose expression has no value.
use Rattle.std.proofs.Common.{◌≡◌, ℕ, Result, Ok, Err, refl, sym, ap, subst}
use Rattle.std.specs.Prelude.{IsErrAnd}
use Rattle.fx_store.specs.Rule.{Ask, Answer}
use Rattle.fx_store.specs.Whole.{Store}
use Rattle.fx_expr.specs.Tree.{Tree}
use Rattle.fx_spec.specs.declared.refusal.Refusal.{Refusal}
use Rattle.fx_spec.specs.Move.{Answered}
use Rattle.fx_spec.specs.Place.{Address}
use Rattle.fx_spec.specs.CommandTree.{ActTree}
use Rattle.fx_spec.specs.Describe.{Bindings}
use Rattle.fx_spec.specs.Transaction.{Effect, moves, moving, effect}
use Rattle.fx_spec.specs.Transaction as txn
use Rattle.fx_edit.specs.Values.{Tells}
use Rattle.fx_session.specs.declared.halt.Halt.{Halt}
use Rattle.fx_session.specs.declared.halt.Halt.TheVariants as halt
use Rattle.fx_session.specs.declared.session.Session.{Session}
use Rattle.fx_session.specs.Answering.{answered}
use Rattle.fx_session.specs.Halts.{split}
use Rattle.fx_session.specs.Implements.{Implements, ticked}
use Rattle.fx_view.specs.declared.reader.Stop.TheVariants as stop
use Rattle.fx_view.specs.Meaning.{Meaning}
use Rattle.fx_view.specs.Own.{own_at, AreRead}
use Rattle.fx_base.proofs.Errors.{err_of}
use Rattle.fx_view.proofs.Rulings.{by_answer, by_refused, by_same}
use Rattle.fx_zip.specs.Calls.{Moves, OnRefused}
use Rattle.fx_zip.specs.Fresh.{IsFreshIn}
use Rattle.fx_zip.specs.Trees.{ZipTree}
use Rattle.fx_run.specs.declared.walk.Walk.{Walk}
use Rattle.fx_run.specs.Acts.{Acts, HasTakenPlace, Took}
use Rattle.fx_run.proofs.Going.{parted_as, parted_always, mapped, read_with, stop_as}

abbrev pub walk_of : {R L : Type 0} → ZipTree → Session R L → Walk R L
walk_of z s = record { zip = z; session = s }

-- the walk after one evaluation
abbrev once : {R L : Type 0} → Walk R L → Walk R L
once w = walk_of w.zip (ticked w.session)

took_on : {R L : Type 0} (old new : Walk R L) (e : Effect) → Took e (once old) new → Took e old new
took_on old new (txn.Moves a) took = took
took_on old new (txn.Changes changes) took = took

ticked_taken : {R L : Type 0} (m : Meaning R) (old new : Walk R L) (rule : Ask (Answered Effect)) (r : Result (Unit {0}) Halt) → HasTakenPlace m (once old) new rule r → HasTakenPlace m old new rule r
ticked_taken m old new rule (Ok u) h = (h.0, h.1, took_on old new h.0 h.2)
ticked_taken m old new rule (Err (halt.Refused f)) h = h
ticked_taken m old new rule (Err (halt.Stopped why)) h = h

-- an evaluation leaves a zipper as fresh as it was
pub fresh_on : {R L : Type 0} (m : Meaning R) (old : Session R L) {mid : Session R L} (z : ZipTree) → mid ≡ ticked old → IsFreshIn m old z → IsFreshIn m mid z
fresh_on {R = R} {L = L} m old z one fresh = subst (λ (s : Session R L). IsFreshIn m s z) (sym one) fresh

module _ {R L : Type 0} {m : Meaning R} where
  -- the same rule, spelled in another way
  pub acts_same : {old new : Walk R L} {r : Result (Unit {0}) Halt} (rule other : Ask (Answered Effect)) → other ≡ rule → Acts m old new rule r → Acts m old new other r
  acts_same {old = old} {new = new} {r = r} rule other e h = subst (λ (s : Ask (Answered Effect)). Acts m old new s r) (sym e) h

  -- ---- a move through the reader

  module _ (old : Walk R L) (z : ZipTree) (now : Session R L) (rule : Ask (Answered Address)) where
    moves_taken : (r : Result (Unit {0}) Halt) → Implements m (answered (λ (u : Unit {0}). z.address)) old.session now rule (split r) → OnRefused r (z.address ≡ old.zip.address) → HasTakenPlace m old (walk_of z now) (moving rule) r
    moves_taken (Ok u) h same = (txn.Moves z.address, mapped h moves, (refl, h.own))
    moves_taken (Err (halt.Refused f)) h same = (mapped h moves, same, h.own)
    moves_taken (Err (halt.Stopped why)) h same =
        stop_as m (λ (x : Result (Unit {0}) Refusal). moves (answered (λ (u : Unit {0}). z.address) x)) (own_at old.session.own) old.session.reader.now now.reader.now (moving rule) (λ (u : Unit {0}). Ok (txn.Moves old.zip.address)) why (mapped h moves)

  pub moves_acts : {old : Walk R L} {z : ZipTree} {now : Session R L} {rule : Ask (Answered Address)} {evals : Store → ℕ} {r : Result (Unit {0}) Halt} → Moves m old.zip z old.session now rule evals r → Acts m old (walk_of z now) (moving rule) r
  moves_acts {old = old} {z = z} {now = now} {rule = rule} {r = r} h = record {
    taken = moves_taken old z now rule r h.follows h.refused;
    fresh = parted_as r (IsFreshIn m now z) h.fresh;
    root = h.root;
    read = λ read. parted_always r (AreRead now.own (m.reads now.reader.now)) (read_with h.follows read);
    lent = h.follows.lent;
  }

  -- ---- a move that reads nothing

  module _ {old : Walk R L} (told : Answered Address) where
    pub told_acts : {z : ZipTree} → Ok z.address ≡ told → z.root ≡ old.zip.root → IsFreshIn m old.session z → Acts m old (walk_of z old.session) (moving (Answer told)) (Ok tt)
    told_acts {z = z} is root fresh = record {
      taken = (txn.Moves z.address, by_answer m (λ (u : Unit {0}). Ok (txn.Moves z.address)) (own_at old.session.own) old.session.reader.now (moves told) tt (ap moves (sym is)), (refl, refl));
      fresh = fresh;
      root = root;
      read = λ read. read;
      lent = refl;
    }

    refused_acts : (f : Refusal) → Err f ≡ told → IsFreshIn m old.session old.zip → Acts m old (walk_of old.zip old.session) (moving (Answer told)) (Err (halt.Refused f))
    refused_acts f is fresh = record {
      taken = (by_answer m (λ (u : Unit {0}). Err f) (own_at old.session.own) old.session.reader.now (moves told) tt (ap moves (sym is)), refl, refl);
      fresh = fresh;
      root = refl;
      read = λ read. read;
      lent = refl;
    }

    pub told_refused : {z : ZipTree} {r : Result (Unit {0}) Halt} (f : Refusal) → IsErrAnd r (λ h. h ≡ halt.Refused f) → Err f ≡ told → z ≡ old.zip → IsFreshIn m old.session old.zip → Acts m old (walk_of z old.session) (moving (Answer told)) r
    told_refused {z = z} {r = r} f is same stays fresh =
        subst (λ (z : ZipTree). Acts m old (walk_of z old.session) (moving (Answer told)) r) (sym stays)
        (subst (Acts m old (walk_of old.zip old.session) (moving (Answer told))) (sym (err_of r (halt.Refused f) is)) (refused_acts f same fresh))

  -- ---- an evaluation, and then the act

  pub acts_on : {old new : Walk R L} {mid : Session R L} {rule : Ask (Answered Effect)} {r : Result (Unit {0}) Halt} → mid ≡ ticked old.session → Acts m (walk_of old.zip mid) new rule r → Acts m old new rule r
  acts_on {old = old} {new = new} {mid = mid} {rule = rule} {r = r} one h =
      let on : Acts m (once old) new rule r = subst (λ (s : Session R L). Acts m (walk_of old.zip s) new rule r) one h in
      record { taken = ticked_taken m old new rule r on.taken; fresh = on.fresh; root = on.root; read = on.read; lent = on.lent }

  -- ---- an expression that has no value

  module _ {old : Walk R L} (fresh : IsFreshIn m old.session old.zip) where
    faulty_acts : (f : Refusal) (rule : Ask (Answered Effect)) → rule ≡ Answer (Err f) → Acts m old (once old) rule (Err (halt.Refused f))
    faulty_acts f rule is = record {
      taken = (by_same m (λ (u : Unit {0}). Err f) (own_at old.session.own) old.session.reader.now old.session.reader.now (Answer (Err f)) rule (Ok tt) (sym is) (by_answer m (λ (u : Unit {0}). Err f) (own_at old.session.own) old.session.reader.now (Err f) tt refl), refl, refl);
      fresh = fresh;
      root = refl;
      read = λ read. read;
      lent = refl;
    }

    memory_acts : (rule : Ask (Answered Effect)) → Acts m old (once old) rule (Err (halt.Stopped stop.NoMemory))
    memory_acts rule = record {
      taken = by_refused m (λ (u : Unit {0}). Ok (txn.Moves old.zip.address)) (own_at old.session.own) old.session.reader.now rule;
      fresh = tt;
      root = refl;
      read = λ read. tt;
      lent = refl;
    }

    module _ (told : Answered Tree) (rule : Answered Tree → Ask (Answered Effect)) (faults : (f : Refusal) → rule (Err f) ≡ Answer (Err f)) where
      unevaluated : {X : Type 0} (view : X → Tree) (e : Halt) → Tells view told (Err e) → Acts m old (once old) (rule told) (Err e)
      unevaluated view (halt.Refused f) is = subst (λ (t : Answered Tree). Acts m old (once old) (rule t) (Err (halt.Refused f))) (sym is) (faulty_acts f (rule (Err f)) (faults f))
      unevaluated view (halt.Stopped why) is = subst (λ why. Acts m old (once old) (rule told) (Err (halt.Stopped why))) (sym is) (memory_acts (rule told))

      pub unevaluated_acts : {X : Type 0} {mid : Session R L} {r : Result (Unit {0}) Halt} (view : X → Tree) (e : Halt) → mid ≡ ticked old.session → IsErrAnd r (λ h. h ≡ e) → Tells view told (Err e) → Acts m old (walk_of old.zip mid) (rule told) r
      unevaluated_acts {r = r} view e one is h =
          subst (λ (s : Session R L). Acts m old (walk_of old.zip s) (rule told) r) (sym one)
          (subst (Acts m old (once old) (rule told)) (sym (err_of r e is)) (unevaluated view e h))

  -- ---- an act, by the form that it has

  pub acts_of : {old new : Walk R L} {r : Result (Unit {0}) Halt} (vars : Bindings) (a form : ActTree) → a ≡ form → Acts m old new (effect old.zip.root old.zip.address vars form) r → Acts m old new (effect old.zip.root old.zip.address vars a) r
  acts_of {old = old} {new = new} {r = r} vars a form is h = subst (λ (a : ActTree). Acts m old new (effect old.zip.root old.zip.address vars a) r) (sym is) h
