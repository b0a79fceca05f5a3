use Rattle.std.proofs.Common.{sym, subst, ◌∙◌}
use Rattle.std.specs.FinMap.{get}
use Rattle.fx_store.specs.Whole.{IsWhole}
use Rattle.fx_spec.specs.Bases.{base_tree}
use Rattle.fx_spec.specs.declared.base.Base.{Base}
use Rattle.fx_words.specs.JobOf.{asked_journal}
use Rattle.fx_command.specs.StatusOf.{status_of}
use Rattle.fx_durable.proofs.Choices.{early_over}
use Rattle.fx_base.proofs.Errors.{err_of}
use Rattle.fx_run_commands.specs.Journals.Rows.{JournalEnd}
use Rattle.fx_run_commands.proofs.Journals.Ending.{not_started, not_recorded, finished}
use Rattle.fx_run_commands.proofs.Journals.Keeping.{unstarted_keeps, broken_keeps, finished_keeps}
use Rattle.fx_run_commands.proofs.journaling.command.keep.Goals as goal

pub returns-in-Err-clause-end : goal.returns-in-Err-clause-end
returns-in-Err-clause-end g c =
    let j = asked_journal c.args.job.now in
    let host = g.H.Host.view c.args.host.now in
    let sink = g.S.Sink.view c.args.out.now in
    let disk = g.D.Disk.view c.args.disk.now in
    let started = g.D.Disk.view c.start.new.disk in
    not_started j (base_tree c.args.base.value) c.args.there host sink disk started c.in-Err.status c.requires.begins c.requires.free c.in-Err.ensures.cause

pub returns-in-Err-clause-keeps : goal.returns-in-Err-clause-keeps
returns-in-Err-clause-keeps g c =
    unstarted_keeps (asked_journal c.args.job.now) (g.H.Host.view c.args.host.now) (g.S.Sink.view c.args.out.now) (g.D.Disk.view c.args.disk.now) (g.D.Disk.view c.start.new.disk) c.in-Err.ensures.unstarted

pub returns-in_err-recorded-clause-end : goal.returns-in_err-recorded-clause-end
returns-in_err-recorded-clause-end g c =
    let j = asked_journal c.args.job.now in
    let host = g.H.Host.view c.args.host.now in
    let sink = g.S.Sink.view c.args.out.now in
    let sink' = g.S.Sink.view c.run_on.new.out in
    let disk = g.D.Disk.view c.args.disk.now in
    let started = g.D.Disk.view c.start.new.disk in
    let disk' = g.D.Disk.view c.run_on.new.disk in
    let st = c.in_err-recorded.field-0.0 in
    let is = err_of c.from_residual.result st c.from_residual.ensures.1 in
    let whole : IsWhole (get c.args.base.value.loaded.nodes) = subst (λ (b : Base). IsWhole (get b.loaded.nodes)) c.deref.ensures c.places-whole.ensures.table.whole in
    subst (λ r. JournalEnd j host host sink sink' disk disk' (status_of r)) (sym is)
    (not_recorded j (base_tree c.args.base.value) whole c.args.there host sink sink' disk started disk' c.requires.begins c.requires.free c.in-Ok.ensures.empty c.in-Ok.ensures.calm st c.in_err-recorded.ensures.broken)

pub returns-in_err-recorded-clause-keeps : goal.returns-in_err-recorded-clause-keeps
returns-in_err-recorded-clause-keeps g c =
    broken_keeps (asked_journal c.args.job.now) (base_tree c.args.base.value) (g.H.Host.view c.args.host.now) (g.S.Sink.view c.args.out.now) (g.S.Sink.view c.run_on.new.out) (g.D.Disk.view c.args.disk.now) (g.D.Disk.view c.start.new.disk) (g.D.Disk.view c.run_on.new.disk) c.in_err-recorded.field-0.0
    c.requires.begins c.in-Ok.ensures.empty c.in-Ok.ensures.goes_on c.in-Ok.ensures.gate c.in_err-recorded.ensures.broken

pub returns-in-Err-clause-chooses : goal.returns-in-Err-clause-chooses
returns-in-Err-clause-chooses g c = record { others = c.in-Err.ensures.others; early = c.in-Err.ensures.early }

pub returns-in_err-recorded-clause-chooses : goal.returns-in_err-recorded-clause-chooses
returns-in_err-recorded-clause-chooses g c =
    let broken = c.in_err-recorded.ensures.broken.broken in
    record {
      others = λ at. broken.others ∙ c.in-Ok.ensures.others at;
      early = early_over (g.D.Disk.view c.args.disk.now) (g.D.Disk.view c.start.new.disk) (g.D.Disk.view c.run_on.new.disk) c.in-Ok.ensures.early c.in-Ok.ensures.chosen broken.asks;
    }

pub returns-clause-chooses : goal.returns-clause-chooses
returns-clause-chooses g c =
    let done = c.in_ok-recorded.ensures.done in
    record {
      others = λ at. done.others ∙ c.in-Ok.ensures.others at;
      early = early_over (g.D.Disk.view c.args.disk.now) (g.D.Disk.view c.start.new.disk) (g.D.Disk.view c.run_on.new.disk) c.in-Ok.ensures.early c.in-Ok.ensures.chosen done.asks;
    }

pub returns-clause-end : goal.returns-clause-end
returns-clause-end g c =
    let r = c.in_ok-recorded.recorded in
    finished (asked_journal c.args.job.now) (base_tree c.args.base.value) c.args.there (g.H.Host.view c.args.host.now) (g.H.Host.view c.finish-ended.new.host) (g.S.Sink.view c.args.out.now) (g.S.Sink.view c.run_on.new.out) (g.S.Sink.view c.finish-ended.new.out) (g.D.Disk.view c.args.disk.now) (g.D.Disk.view c.start.new.disk) (g.D.Disk.view c.run_on.new.disk) r.board r.retries
    c.requires.job.scheduled c.in-Ok.ensures.empty c.in-Ok.ensures.calm c.requires.begins c.requires.free c.in_ok-recorded.ensures.done (status_of c.finish-ended.result) c.finish-ended.ensures.end

pub returns-clause-keeps : goal.returns-clause-keeps
returns-clause-keeps g c =
    let r = c.in_ok-recorded.recorded in
    finished_keeps (asked_journal c.args.job.now) (base_tree c.args.base.value) c.args.there (g.H.Host.view c.args.host.now) (g.H.Host.view c.finish-ended.new.host) (g.S.Sink.view c.args.out.now) (g.S.Sink.view c.run_on.new.out) (g.S.Sink.view c.finish-ended.new.out) (g.D.Disk.view c.args.disk.now) (g.D.Disk.view c.start.new.disk) (g.D.Disk.view c.run_on.new.disk) r.board r.retries (status_of c.finish-ended.result)
    c.requires.begins c.in-Ok.ensures.empty c.in-Ok.ensures.goes_on c.in-Ok.ensures.gate c.in_ok-recorded.ensures.done c.finish-ended.ensures.end
