use Rattle.std.proofs.Common.{refl, ap, subst, ◌∙◌, take}
use Rattle.fx_board.specs.Log.{Log}
use Rattle.fx_board.specs.Present.{IsNowIn, nothing_new}
use Rattle.fx_sched.proofs.Shells.{fits_as, planned_shell, planned_ready, unplanned_shell}
use Rattle.fx_sched.proofs.moves.plan.Goals as goal

pub run-requires-clause-fit : goal.run-requires-clause-fit
run-requires-clause-fit c =
    let l = c.new-present.ensures.reads ∙ (c.truncate.ensures ∙ ap (take c.args.shell.now.looked) c.replace-reads.ensures.value) in
    fits_as c.args.board.now c.args.number c.args.shell.now c.new-present.result.reads _ l c.shared_base.ensures c.requires.shell

pub returns-in-Ok-clause-shell : goal.returns-in-Ok-clause-shell
returns-in-Ok-clause-shell c =
    let l = c.new-present.ensures.reads ∙ (c.truncate.ensures ∙ ap (take c.args.shell.now.looked) c.replace-reads.ensures.value) in
    let a = c.in-Ok.ensures.attempted in
    let now = subst (λ (log : Log). IsNowIn log c.new-present.result.reads c.in-Ok.attempt.reads) c.new-present.ensures.board (a.vouched c.new-present.result (refl, nothing_new c.new-present.result.board.now c.new-present.result.reads)).1 in
    planned_shell c.args.board.now c.args.number c.args.shell.now c.requires.shell c.new-present.result.reads l _ c.shared_base.ensures c.in-Ok.attempt c.len-reads.ensures.reads a.whose a.number now c.in-Ok.ensures.explained c.in-Ok.ensures.foretold c.len.result c.len.ensures.len

pub returns-in-Ok-clause-ready : goal.returns-in-Ok-clause-ready
returns-in-Ok-clause-ready c =
    let l = c.new-present.ensures.reads ∙ (c.truncate.ensures ∙ ap (take c.args.shell.now.looked) c.replace-reads.ensures.value) in
    let a = c.in-Ok.ensures.attempted in
    let now = subst (λ (log : Log). IsNowIn log c.new-present.result.reads c.in-Ok.attempt.reads) c.new-present.ensures.board (a.vouched c.new-present.result (refl, nothing_new c.new-present.result.board.now c.new-present.result.reads)).1 in
    planned_ready c.args.board.now c.args.number c.args.shell.now c.requires.shell c.new-present.result.reads l _ c.shared_base.ensures c.in-Ok.attempt c.len-reads.ensures.reads a.whose a.number now c.in-Ok.ensures.explained c.in-Ok.ensures.foretold c.len.result c.len.ensures.len

pub returns-in-Err-NoMemory-clause-shell : goal.returns-in-Err-NoMemory-clause-shell
returns-in-Err-NoMemory-clause-shell c =
    let l = c.new-present.ensures.reads ∙ (c.truncate.ensures ∙ ap (take c.args.shell.now.looked) c.replace-reads.ensures.value) in
    let stopped = rw c.in-Err-NoMemory.field-0-is at c.in-Err-NoMemory.ensures.stopped in
    unplanned_shell c.args.board.now c.args.number c.args.shell.now c.requires.shell c.new-present.result.reads l c.into_reads.result stopped.more (c.into_reads.ensures ∙ stopped.kept)
