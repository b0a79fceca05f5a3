use Rattle.std.proofs.Common.{sym, subst}
use Rattle.fx_spec.specs.Bases.{base_tree}
use Rattle.fx_command.specs.declared.status.Status.TheVariants as status
use Rattle.fx_command.specs.StatusOf.{status_of}
use Rattle.fx_base.proofs.Errors.{err_of}
use Rattle.fx_words.specs.JobOf.{asked}
use Rattle.fx_run_commands.specs.Runs.Answers.{last_of, IsRunFrom}
use Rattle.fx_inputs.specs.Reads.{LetsRun}
use Rattle.fx_run_commands.specs.Runs.Rows.{RunRow}
use Rattle.fx_run_commands.proofs.Runs.Ending.{no_memory, row_back}
use Rattle.fx_run_commands.proofs.Runs.Stages.{can_leave}
use Rattle.fx_outside.proofs.Views.{asks_both}
use Rattle.fx_run_commands.proofs.running.command.run.Goals as goal

pub returns-in_err-base-clause-row : goal.returns-in_err-base-clause-row
returns-in_err-base-clause-row g c =
    let j = asked c.args.job.now in
    let a = g.H.Host.view c.args.host.now in
    let b = g.H.Host.view c.begin.new.host in
    let sink = g.S.Sink.view c.args.out.now in
    let is = err_of c.from_residual.result c.in_err-base.field-0.0 c.from_residual.ensures.1 in
    subst (λ r. RunRow j a b sink sink (status_of r)) (sym is) (c.in_err-base.ensures.ends sink)

pub returns-in_err-answer-clause-row : goal.returns-in_err-answer-clause-row
returns-in_err-answer-clause-row g c =
    let j = asked c.args.job.now in
    let a = g.H.Host.view c.args.host.now in
    let b = g.H.Host.view c.begin.new.host in
    let sink = g.S.Sink.view c.args.out.now in
    let is = err_of c.from_residual-in_err-answer.result status.NoMemory c.from_residual-in_err-answer.ensures.1 in
    subst (λ r. RunRow j a b sink sink (status_of r)) (sym is) (no_memory j a b c.in_ok-base.ensures.same sink)

pub leave-ended-requires : goal.leave-ended-requires
leave-ended-requires g c =
    let j = asked c.args.job.now in
    can_leave j (base_tree c.in_ok-base.base.value) (last_of c.in_ok-answer.answer) c.in_ok-answer.answer.output c.in_ok-base.there (g.H.Host.view c.args.host.now) (g.H.Host.view c.begin.new.host)
    c.in_ok-base.ensures.same c.in_ok-base.ensures.read c.in_ok-base.ensures.ready
    (subst (λ m. IsRunFrom (base_tree c.in_ok-base.base.value) m (last_of c.in_ok-answer.answer) c.in_ok-answer.answer.output) (sym c.requires.plain) c.in_ok-answer.ensures)

pub returns-clause-row : goal.returns-clause-row
returns-clause-row g c =
    let a = g.H.Host.view c.args.host.now in
    let b = g.H.Host.view c.begin.new.host in
    row_back (asked c.args.job.now) a b (g.H.Host.view c.leave-ended.new.host) (g.S.Sink.view c.args.out.now) (g.S.Sink.view c.leave-ended.new.out) (status_of c.leave-ended.result) c.in_ok-base.ensures.same c.leave-ended.ensures.row

pub returns-clause-fit : goal.returns-clause-fit
returns-clause-fit g c =
    asks_both (λ guard. LetsRun guard (asked c.args.job.now).inputs (asked c.args.job.now).out) (g.H.Host.view c.args.host.now) (g.H.Host.view c.begin.new.host) (g.H.Host.view c.leave-ended.new.host)
    c.in_ok-base.ensures.fit c.leave-ended.ensures.fit
