-- What an edit comes to: its changes are put, it is refused, or it stops.
use Rattle.std.proofs.Common.{◌≡◌, ℕ, List, [], ◌∷◌, ◌++◌, Result, Ok, Err, refl, sym, subst, ap, ◌∙◌}
use Rattle.std.specs.Prelude.{IsErrAnd}
use Rattle.fx_store.specs.declared.changes.Change.{Change}
use Rattle.fx_store.specs.Rule.{Known, Ask, changed}
use Rattle.fx_store.specs.Whole.{Store, IsWhole}
use Rattle.fx_spec.specs.EditLooks.{LooksAtChanges}
use Rattle.fx_spec.specs.Laws.{KeepsWhole}
use Rattle.fx_spec.specs.Move.{Answered}
use Rattle.fx_view.specs.declared.reader.Stop.TheVariants as stop
use Rattle.fx_view.specs.Meaning.{Meaning}
use Rattle.fx_view.specs.Own.{own_at, put_own, put_all, AreRead}
use Rattle.fx_view.specs.OwnList.{OwnList}
use Rattle.fx_view.specs.Reads.{known_of}
use Rattle.fx_base.proofs.Errors.{err_of}
use Rattle.fx_view.proofs.Owning.{read_more, read_put, changed-put_all}
use Rattle.fx_view.proofs.Rules.{found_answer}
use Rattle.fx_session.specs.declared.halt.Halt.{Halt}
use Rattle.fx_session.specs.declared.halt.Halt.TheVariants as halt
use Rattle.fx_session.specs.declared.session.Session.{Session}
use Rattle.fx_session.specs.Implements.{Answers}
use Rattle.fx_edit.specs.Edits.{Edits, done, under}

-- ---- the three ways that an edit goes

module _ {R L : Type 0} {m : Meaning R} {old mid : Session R L} {rule : Ask (Answered (List Change))} where
  -- its changes are put
  pub edits_done : {after : OwnList} {changes : List Change} → ((known own : Known) → LooksAtChanges known own rule) → ((S : Store) → IsWhole S → KeepsWhole S rule)
      → Answers {X = List Change} m (λ e. e) old mid rule (Ok changes) → after ≡ put_all mid.own changes → Edits m old (under after mid) rule (Ok tt)
  edits_done {changes = changes} looks keeps h put_on = let put = put_on ∙ ap (λ own. put_all own changes) h.own in record {
    made = (changes, record { own = refl; follows = record { goes = h.follows.goes; most = h.follows.most }; lent = h.lent }, put);
    read = λ read.
        let goes = h.follows.goes in
        let reads = m.reads mid.reader.now in
        subst (λ own. AreRead own reads) (sym put) (read_put old.own reads changes (looks (known_of reads) (own_at old.own) changes goes.0) (read_more old.own (m.reads old.reader.now) reads goes.1.more goes.1.kept read));
    whole = λ S agrees whole.
        subst (λ own. IsWhole (changed (own_at own) S)) (sym put)
        (subst IsWhole (sym (changed-put_all S old.own changes)) (keeps (changed (own_at old.own) S) whole changes (found_answer (known_of (m.reads mid.reader.now)) (own_at old.own) S agrees rule (Ok changes) h.follows.goes.0)));
    lent = h.lent;
  }

  -- memory is refused while they are put
  pub edits_late : {after : OwnList} {changes : List Change} (r : Result ℕ Halt) → IsErrAnd r (λ h. h ≡ halt.Stopped stop.NoMemory) → Answers {X = List Change} m (λ e. e) old mid rule (Ok changes) → Edits m old (under after mid) rule (done r)
  edits_late {after = after} r is h =
      subst (λ (r : Result ℕ Halt). Edits m old (under after mid) rule (done r)) (sym (err_of r (halt.Stopped stop.NoMemory) is))
      (record {
        made = record { own = refl; follows = record { goes = h.follows.goes.1; most = h.follows.most }; lent = h.lent };
        read = λ read. tt;
        whole = λ S agrees whole. tt;
        lent = h.lent;
      })

  -- it is refused or stops before
  halted : (e : Halt) → Answers {X = List Change} m (λ e. e) old mid rule (Err e) → Edits m old mid rule (Err e)
  halted (halt.Refused refusal) h = record {
    made = (record { own = refl; follows = record { goes = h.follows.goes; most = h.follows.most }; lent = h.lent }, h.own);
    read = λ read. let went = h.follows.goes.1 in subst (λ own. AreRead own (m.reads mid.reader.now)) (sym h.own) (read_more old.own (m.reads old.reader.now) (m.reads mid.reader.now) went.more went.kept read);
    whole = λ S agrees whole. subst (λ own. IsWhole (changed (own_at own) S)) (sym h.own) whole;
    lent = h.lent;
  }
  halted (halt.Stopped (stop.Needs p)) h = record {
    made = record { own = refl; follows = record { goes = h.follows.goes; most = h.follows.most }; lent = h.lent };
    read = λ read. tt;
    whole = λ S agrees whole. tt;
    lent = h.lent;
  }
  halted (halt.Stopped stop.NoMemory) h = record {
    made = record { own = refl; follows = record { goes = h.follows.goes; most = h.follows.most }; lent = h.lent };
    read = λ read. tt;
    whole = λ S agrees whole. tt;
    lent = h.lent;
  }

  pub edits_halt : (e : Halt) (r : Result ℕ Halt) → IsErrAnd r (λ h. h ≡ e) → Answers {X = List Change} m (λ e. e) old mid rule (Err e) → Edits m old mid rule (done r)
  edits_halt e r is h = subst (λ (r : Result ℕ Halt). Edits m old mid rule (done r)) (sym (err_of r e is)) (halted e h)

-- one change more is put
pub put_all-push : (own : OwnList) (cs : List Change) (c : Change) → put_all own (cs ++ c ∷ []) ≡ put_own (put_all own cs) c.path c.node
put_all-push own [] c = refl
put_all-push own (d ∷ cs) c = put_all-push (put_own own d.path d.node) cs c
