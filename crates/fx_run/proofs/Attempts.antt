-- A transaction that was pursued, and its attempt.
use Rattle.std.proofs.Common.{◌≡◌, ℕ, List, [], Some, Result, Ok, Err, refl, ◌∙◌, sym, subst}
use Rattle.std.specs.Prelude.{IfOk, IfErr}
use Rattle.fx_spec.specs.SpecTree.{SpecTree}
use Rattle.fx_spec.specs.CommandTree.{CommandTree}
use Rattle.fx_spec.specs.Plans.{txn_of}
use Rattle.fx_spec.specs.Order.{BaseTree}
use Rattle.fx_spec.specs.Transaction.{flow_end}
use Rattle.fx_spec.specs.declared.refusal.End.{End}
use Rattle.fx_view.specs.declared.reader.Stop.{Stop}
use Rattle.fx_view.specs.declared.reader.Stop.TheVariants as stop
use Rattle.fx_view.specs.Meaning.{Meaning}
use Rattle.fx_view.specs.OwnList.{OwnList}
use Rattle.fx_view.specs.Own.{AreRead, no_own}
use Rattle.fx_view.specs.Reads.{known_of}
use Rattle.fx_view.specs.Follows.{Went, walked}
use Rattle.fx_machine.specs.declared.attempt.Attempt.{Attempt}
use Rattle.fx_machine.specs.Explained.{IsExplained}
use Rattle.fx_run.specs.declared.finishing.Finished.{Finished}
use Rattle.fx_run.specs.declared.pursuing.Ran.{Ran}
use Rattle.fx_run.specs.Course.{pursued, HasCome}
use Rattle.fx_run.specs.Keeping.{AreKept}
use Rattle.fx_run.specs.Finishing.{IsFinished, IsAttempt, Finishes}
use Rattle.fx_machine.specs.Needs.{ReadsFit, Foretells}
use Rattle.fx_run.specs.Running.{KeepsOn, StoppedAt}
use Rattle.fx_run.proofs.Explaining.{explained, next_needed, unread_needed, fit_again}
use Rattle.fx_run.proofs.Foretelling.{foretells}

module _ {R : Type 0} (m : Meaning R) (root : SpecTree) (t : List CommandTree) (shell txn : ℕ) (old mid new : R) where
  -- the reader gives its reads to the attempt
  pub attempted : (ran : Ran) (f : Finished) (a : Attempt) → a ≡ record { shell = shell; txn = txn; reads = m.reads mid; changes = f.changes; outputs = f.outputs; end = f.end }
      → HasCome m root t old mid ran → IsFinished ran (m.reads mid) f
      → m.reads new ≡ [] → m.complete new ≡ m.complete mid → ((start : R) → m.vouches start mid (m.reads mid) → m.vouches start new (m.reads mid)) → IsAttempt m root t shell txn old new a
  attempted ran f a is has finished none same vouched =
      subst (IsAttempt m root t shell txn old new) (sym is) (record {
        whose = refl;
        number = refl;
        came = has.came;
        found = has.goes.0;
        more = has.goes.1.more;
        kept = has.goes.1.kept;
        walked = has.goes.1.only;
        order = has.goes.1.order;
        read = subst (λ (own : OwnList). AreRead own (m.reads mid)) (sym has.own) has.read;
        changes = subst (λ (own : OwnList). AreKept (flow_end has.came.end) own (m.reads mid) f.changes) (sym has.own) (subst (λ (e : End). AreKept e ran.own (m.reads mid) f.changes) (sym has.end) finished.kept);
        outputs = finished.outputs ∙ sym has.outputs;
        end = finished.end ∙ sym has.end;
        none = none;
        same = same ∙ has.goes.1.same;
        vouched = λ start v. vouched start (has.goes.1.vouched start v);
      })

module _ {R : Type 0} (m : Meaning R) (base : BaseTree) (shell txn : ℕ) (t : List CommandTree) (planned : txn_of base.plan (shell, txn) ≡ Some t) (old new : R) (fit : ReadsFit base (shell, txn) (m.reads old)) where
  attempt_explained : (a : Attempt) → IsAttempt m base.description t shell txn old new a → IsExplained base a
  attempt_explained a is = explained base (shell, txn) t planned (m.reads old) is.more a.reads fit is.kept is.came is.found is.walked is.read a (λ k. (sym is.whose k, sym is.number k)) refl is.changes is.outputs is.end

  pub run_explained : (r : Result Attempt Stop) → Finishes m base.description t shell txn old new r → IfOk r (IsExplained base)
  run_explained (Ok a) is = attempt_explained a is
  run_explained (Err why) is = tt

  pub run_foretold : (r : Result Attempt Stop) → Finishes m base.description t shell txn old new r → IfOk r (λ a. Foretells base (shell, txn) (m.reads old) a.reads)
  run_foretold (Ok a) is = foretells base (shell, txn) t planned (m.reads old) is.more a.reads is.kept is.came is.found is.order
  run_foretold (Err why) is = tt

  keeps_on : (paths : List (List (List ℕ))) → Went m old new paths → KeepsOn m old new
  keeps_on paths went = record { more = went.more; kept = went.kept; same = went.same; vouched = went.vouched }

  pub run_stopped : (r : Result Attempt Stop) → Finishes m base.description t shell txn old new r → IfErr r (StoppedAt m base (shell, txn) old new)
  run_stopped (Ok a) is = tt
  run_stopped (Err stop.NoMemory) is = keeps_on (walked (known_of (m.reads new)) no_own (pursued base.description t)) is
  run_stopped (Err (stop.Needs q)) is = (
    keeps_on (walked (known_of (m.reads new)) no_own (pursued base.description t)) is.2,
    record {
      incomplete = is.1;
      unread = unread_needed base (shell, txn) t planned (m.reads old) is.2.more (m.reads new) fit is.2.kept q is.0;
      next = next_needed base (shell, txn) t planned (m.reads old) is.2.more (m.reads new) fit is.2.kept q is.0;
      fit = λ node position. fit_again base (shell, txn) t planned (m.reads old) is.2.more (m.reads new) fit is.2.kept q is.0 is.2.only node position;
    },
  )
