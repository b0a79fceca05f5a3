use Rattle.std.proofs.Common.{sym, subst}
use Rattle.fx_outside.proofs.Views.{reads_then}
use Rattle.fx_spec.specs.Bases.{base_tree}
use Rattle.fx_words.specs.JobOf.{asked, asked_journal}
use Rattle.fx_durable.proofs.Choices.{unasked}
use Rattle.fx_command.specs.StatusOf.{status_of}
use Rattle.fx_base.proofs.Errors.{err_of}
use Rattle.fx_inputs.proofs.Stages.{inputs_read, then_told}
use Rattle.fx_inputs.specs.Inputs.{HasBase}
use Rattle.fx_folder.specs.Folder.{IsReady}
use Rattle.fx_run_commands.specs.Journals.Rows.{JournalEnd}
use Rattle.fx_run_commands.proofs.Journals.Ending.{inputs_unread, out_unready, end_back}
use Rattle.fx_run_commands.proofs.Journals.Keeping.{keeps_back, unbegun_keeps}
use Rattle.fx_outside.specs.Host.{Guard}
use Rattle.fx_outside.proofs.Views.{asks_both}
use Rattle.fx_inputs.specs.Reads.{LetsRun}
use Rattle.fx_run_commands.proofs.journaling.command.journal.Goals as goal

pub returns-in_err-base-clause-row : goal.returns-in_err-base-clause-row
returns-in_err-base-clause-row g c =
    let j = asked_journal c.args.job.now in
    let a = g.H.Host.view c.args.host.now in
    let b = g.H.Host.view c.read_base.new.host in
    let sink = g.S.Sink.view c.args.out.now in
    let disk = g.D.Disk.view c.args.disk.now in
    let st = c.in_err-base.field-0.0 in
    let is = err_of c.from_residual.result st c.from_residual.ensures.1 in
    (unasked j.journal disk, subst (λ r. JournalEnd j a b sink sink disk disk (status_of r)) (sym is) (inputs_unread j a b sink disk st c.in_err-base.ensures.same c.in_err-base.ensures.ends))

pub returns-in_err-base-clause-keeps : goal.returns-in_err-base-clause-keeps
returns-in_err-base-clause-keeps g c = unbegun_keeps (asked_journal c.args.job.now) (g.H.Host.view c.args.host.now) (g.S.Sink.view c.args.out.now) (g.D.Disk.view c.args.disk.now)

pub returns-in-Err-clause-row : goal.returns-in-Err-clause-row
returns-in-Err-clause-row g c =
    let j = asked_journal c.args.job.now in
    let a = g.H.Host.view c.args.host.now in
    let b = g.H.Host.view c.read_base.new.host in
    let d = g.H.Host.view c.ready_out.new.host in
    let sink = g.S.Sink.view c.args.out.now in
    let disk = g.D.Disk.view c.args.disk.now in
    let inputs = inputs_read j.run.inputs (base_tree c.in_ok-base.base.value) a b c.in_ok-base.ensures.same c.in_ok-base.ensures.read in
    (unasked j.journal disk, end_back j a b d sink sink disk disk c.in-Err.status c.in_ok-base.ensures.same (out_unready j b d sink disk c.in-Err.status c.in-Err.ensures.same inputs c.in-Err.ensures.unready))

pub returns-in-Err-clause-keeps : goal.returns-in-Err-clause-keeps
returns-in-Err-clause-keeps g c = unbegun_keeps (asked_journal c.args.job.now) (g.H.Host.view c.args.host.now) (g.S.Sink.view c.args.out.now) (g.D.Disk.view c.args.disk.now)

pub keep-requires-clause-begins : goal.keep-requires-clause-begins
keep-requires-clause-begins g c =
    let a = g.H.Host.view c.args.host.now in
    let b = g.H.Host.view c.read_base.new.host in
    let d = g.H.Host.view c.ready_out.new.host in
    then_told (λ t. HasBase t (asked c.args.job.now.run).inputs (base_tree c.in_ok-base.base.value)) a d (reads_then a b d c.in_ok-base.ensures.same c.in-Ok.ensures.same) c.in_ok-base.ensures.read

pub keep-requires-clause-free : goal.keep-requires-clause-free
keep-requires-clause-free g c =
    then_told (λ t. IsReady t (asked c.args.job.now.run).out c.in-Ok.there) (g.H.Host.view c.read_base.new.host) (g.H.Host.view c.ready_out.new.host) c.in-Ok.ensures.same c.in-Ok.ensures.ready

pub returns-clause-row : goal.returns-clause-row
returns-clause-row g c =
    let a = g.H.Host.view c.args.host.now in
    let b = g.H.Host.view c.read_base.new.host in
    let d = g.H.Host.view c.ready_out.new.host in
    (c.keep.ensures.chooses, end_back (asked_journal c.args.job.now) a d (g.H.Host.view c.keep.new.host) (g.S.Sink.view c.args.out.now) (g.S.Sink.view c.keep.new.out) (g.D.Disk.view c.args.disk.now) (g.D.Disk.view c.keep.new.disk) (status_of c.keep.result) (reads_then a b d c.in_ok-base.ensures.same c.in-Ok.ensures.same) c.keep.ensures.end)

pub returns-clause-keeps : goal.returns-clause-keeps
returns-clause-keeps g c =
    let a = g.H.Host.view c.args.host.now in
    let b = g.H.Host.view c.read_base.new.host in
    let d = g.H.Host.view c.ready_out.new.host in
    keeps_back (asked_journal c.args.job.now) a d (g.S.Sink.view c.args.out.now) (g.S.Sink.view c.keep.new.out) (g.D.Disk.view c.args.disk.now) (g.D.Disk.view c.keep.new.disk) (reads_then a b d c.in_ok-base.ensures.same c.in-Ok.ensures.same) c.keep.ensures.keeps

pub returns-clause-fit : goal.returns-clause-fit
returns-clause-fit g c =
    let a = g.H.Host.view c.args.host.now in
    let b = g.H.Host.view c.read_base.new.host in
    let d = g.H.Host.view c.ready_out.new.host in
    let e = g.H.Host.view c.keep.new.host in
    let Lets : Guard → Type 0 = λ guard. LetsRun guard (asked c.args.job.now.run).inputs (asked c.args.job.now.run).out in
    asks_both Lets a b e (λ lets. c.in_ok-base.ensures.fit lets.inputs) (asks_both Lets b d e (λ lets. c.in-Ok.ensures.fit lets.out.ready) (λ lets. c.keep.ensures.fit lets.out.written))
