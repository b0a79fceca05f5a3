use Rattle.std.proofs.Common.{length, sym, ◌∙◌}
use Rattle.fx_spec.specs.Bases.{base_tree}
use Rattle.fx_words.specs.Job.{shells_of}
use Rattle.fx_words.specs.JobOf.{asked}
use Rattle.fx_words.proofs.Below.{asked_below}
use Rattle.fx_run_commands.proofs.Journals.Keeping.{unread}
use Rattle.fx_run_commands.proofs.journaling.command.run_on.Goals as goal

pub returns-in-Err-clause-broken : goal.returns-in-Err-clause-broken
returns-in-Err-clause-broken g c =
    let base = base_tree c.args.base.value in
    let shells = shells_of (asked c.args.job.now) in
    let disk = g.D.Disk.view c.args.disk.now in
    let sink = g.S.Sink.view c.args.out.now in
    unread base shells disk sink c.args.journal c.requires.started

pub record-requires-clause-shells : goal.record-requires-clause-shells
record-requires-clause-shells g c = asked_below c.args.job.now c.deref.result.now (length c.args.base.value.plan) c.requires.job c.requires.count (sym c.in-Ok.ensures ∙ sym c.deref.ensures.value)
