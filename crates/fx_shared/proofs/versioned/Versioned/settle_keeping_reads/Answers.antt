use Rattle.std.proofs.Common.{◌≡◌, ℕ, List, sym, subst}
use Rattle.fx_store.specs.declared.changes.Change.{Change}
use Rattle.fx_machine.specs.Explained.{IsExplained}
use Rattle.fx_machine.specs.Machine.{next_number}
use Rattle.fx_machine.specs.Passes.{AreTrueReads}
use Rattle.fx_board.specs.Board.{IsFreshReads}
use Rattle.fx_board.specs.Log.{Log}
use Rattle.fx_board.proofs.Refused.{left_as}
use Rattle.fx_shared.specs.Tables.{AreAdded}
use Rattle.fx_shared.specs.Kept.{HasVersions}
use Rattle.fx_shared.proofs.Versionings.{same_versions, has_more}
use Rattle.fx_shared.proofs.versioned.Versioned.settle_keeping_reads.Goals as goal

pub invariant_of-self : goal.invariant_of-self
invariant_of-self c =
    let board = c.self.inside.board in
    let new = c.prepare.new.table.entries in
    subst (λ (log : Log). HasVersions log new) (sym (left_as board c.settle_keeping_reads.new.self c.args.attempt _ c.in_err-settled-in-Ok.ensures.refused)) (same_versions board c.self.inside.versions.value.entries new c.self.invariant (rw c.deref_mut.ensures.value at c.prepare.ensures.roomier.same))

pub invariant_of-self-in-Ok : goal.invariant_of-self-in-Ok
invariant_of-self-in-Ok c =
    let board = c.self.inside.board in
    let a = c.args.attempt in
    let back = sym c.self.view_is in
    let mid = c.prepare.new.table.entries in
    let new = c.add_all.new.table.entries in
    let settled = c.in_ok-settled-in-Ok.ensures in
    let added = subst (λ (n : ℕ). AreAdded mid new a.changes n) c.len-entry.ensures.len (subst (λ (cs : List Change). AreAdded mid new cs c.len-entry.result) c.in-Ok.ensures.copied (rw c.deref_mut-in-Ok.ensures.value at c.add_all.ensures)) in
    subst (λ (log : Log). HasVersions log new) (sym settled.settled)
    (has_more board mid new a (same_versions board c.self.inside.versions.value.entries mid c.self.invariant (rw c.deref_mut.ensures.value at c.prepare.ensures.roomier.same)) c.len-entry.ensures.log
    (subst (λ (log : Log). IsExplained log.base a) back c.requires.explained) (subst (λ (log : Log). a.txn ≡ next_number log.order a.shell) back c.requires.next) (subst (λ (log : Log). AreTrueReads log.base log.order a.reads) back c.requires.reads) settled.fresh c.prepare.ensures.ascending added)

pub returns-in_ok-settled-in-Ok-clause-fresh : goal.returns-in_ok-settled-in-Ok-clause-fresh
returns-in_ok-settled-in-Ok-clause-fresh c = subst (λ (log : Log). IsFreshReads log.base log.order c.args.attempt.reads) c.self.view_is c.in_ok-settled-in-Ok.ensures.fresh
