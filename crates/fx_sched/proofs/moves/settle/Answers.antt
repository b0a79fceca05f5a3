use Rattle.std.proofs.Common.{refl, ap, ◌∙◌}
use Rattle.fx_machine.specs.declared.attempt.Attempt.{Attempt}
use Rattle.fx_sched.proofs.Shells.{settled_shell, refused_shell, has_settled, has_restarted}
use Rattle.fx_sched.proofs.moves.settle.Goals as goal

pub returns-in-Ok-clause-shell : goal.returns-in-Ok-clause-shell
returns-in-Ok-clause-shell c = settled_shell c.args.board.now c.settle.new.self c.args.number c.args.shell.now c.requires.shell c.replace.new.dest c.replace.ensures.after c.args.shell.now.retries c.replace-2.new.dest c.in-Ok.ensures.settled

pub returns-in-Ok-clause-ok : goal.returns-in-Ok-clause-ok
returns-in-Ok-clause-ok c = (
  refl,
  has_settled c.args.board.now c.settle.new.self c.args.number c.args.shell.now _ c.requires.shell c.requires.ready c.requires.all c.replace-2.result c.replace-2.ensures.value c.in-Ok.entry c.in-Ok.ensures.fresh c.in-Ok.ensures.entry c.in-Ok.ensures.settled refl refl refl,
)

pub returns-in-Err-NoMemory-clause-shell : goal.returns-in-Err-NoMemory-clause-shell
returns-in-Err-NoMemory-clause-shell c =
    let refused = rw c.in-Err-NoMemory.field-0-is at c.in-Err-NoMemory.ensures.refused in
    refused_shell c.args.board.now c.settle.new.self c.args.number c.args.shell.now c.requires.shell c.replace.new.dest c.replace.ensures.after c.args.shell.now.retries c.in-Err-NoMemory.attempt.reads refused.1 (ap (λ (a : Attempt). a.reads) refused.0 ∙ c.replace-2.ensures.value)

pub returns-in-Ok-note-clause-ok : goal.returns-in-Ok-note-clause-ok
returns-in-Ok-note-clause-ok c =
    let refused = rw c.in-Err-Conflict.field-0-is at c.in-Err-Conflict.ensures.refused in (
      refl,
      has_restarted c.args.board.now c.settle.new.self c.args.number c.args.shell.now _ c.requires.shell c.requires.ready c.requires.all c.replace-2.result c.replace-2.ensures.value c.in-Err-Conflict.entry c.in-Err-Conflict.path refused.2 refused.1 refl refl c.in-Ok-note.ensures.ok,
    )

pub returns-in-Err-clause-shell : goal.returns-in-Err-clause-shell
returns-in-Err-clause-shell c =
    let refused = rw c.in-Err-Conflict.field-0-is at c.in-Err-Conflict.ensures.refused in
    refused_shell c.args.board.now c.settle.new.self c.args.number c.args.shell.now c.requires.shell c.replace.new.dest c.replace.ensures.after c.note.new.retries c.in-Err-Conflict.attempt.reads refused.1 (ap (λ (a : Attempt). a.reads) refused.0 ∙ c.replace-2.ensures.value)
