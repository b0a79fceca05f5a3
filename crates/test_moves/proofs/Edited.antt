-- What a zipper knows after an edit.
use Rattle.std.proofs.Common.{◌≡◌, ℕ, List, Result, Ok, Err, sym, subst}
use Rattle.std.specs.Prelude.{IfOk, IsErrAnd}
use Rattle.fx_base.proofs.Errors.{err_of}
use Rattle.fx_store.specs.Rule.{Ask}
use Rattle.fx_store.specs.declared.changes.Change.{Change}
use Rattle.fx_spec.specs.Move.{Answered}
use Rattle.fx_view.specs.Meaning.{Meaning}
use Rattle.fx_view.specs.Own.{own_at}
use Rattle.fx_view.specs.OwnList.{OwnList}
use Rattle.fx_session.specs.declared.halt.Halt.{Halt}
use Rattle.fx_session.specs.declared.halt.Halt.TheVariants as halt
use Rattle.fx_session.specs.declared.session.Session.{Session}
use Rattle.fx_session.specs.Halts.{split}
use Rattle.fx_edit.specs.Edits.{Edits, done}
use Rattle.fx_zip.specs.Fresh.{IsFresh, IsFreshIn}
use Rattle.fx_zip.specs.Trees.{ZipTree}
use Rattle.fx_zip.proofs.Sessions.{fresh_on}

module _ {R L : Type 0} {m : Meaning R} {old new : Session R L} {rule : Ask (Answered (List Change))} (z : ZipTree) where
  -- under the own changes from before
  pub fresh_made : (n : ℕ) → Edits m old new rule (done (Ok n)) → IsFreshIn m old z → IsFresh (m.reads new.reader.now) (own_at old.own) z
  fresh_made n edits fresh = fresh_on edits.made.1 z fresh

  at_refusal : (e : Halt) → Edits m old new rule (done (Err e)) → IsFreshIn m old z → IfOk (split {X = Unit {0}} (Err e)) (λ _. IsFreshIn m new z)
  at_refusal (halt.Refused refusal) edits fresh = subst (λ (own : OwnList). IsFresh (m.reads new.reader.now) (own_at own) z) (sym edits.made.1) (fresh_on edits.made.0 z fresh)
  at_refusal (halt.Stopped why) edits fresh = tt

  pub fresh_refused : (e : Halt) (r : Result (Unit {0}) Halt) → IsErrAnd r (λ h. h ≡ e) → Edits m old new rule (done (Err e)) → IsFreshIn m old z → IfOk (split r) (λ _. IsFreshIn m new z)
  fresh_refused e r is edits fresh = subst (λ (r : Result (Unit {0}) Halt). IfOk (split r) (λ _. IsFreshIn m new z)) (sym (err_of r e is)) (at_refusal e edits fresh)
