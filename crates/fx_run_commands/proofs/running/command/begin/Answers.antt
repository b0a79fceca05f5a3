use Rattle.fx_outside.proofs.Views.{asks_both}
use Rattle.fx_spec.specs.Bases.{base_tree}
use Rattle.fx_folder.specs.Folder.{IsReady}
use Rattle.fx_words.specs.JobOf.{asked}
use Rattle.fx_command.specs.Table.{CommandEndsAs}
use Rattle.fx_command.proofs.Told.{some_back}
use Rattle.fx_base.proofs.Errors.{if_err_of}
use Rattle.fx_inputs.proofs.Stages.{inputs_read}
use Rattle.fx_inputs.specs.Reads.{LetsRun}
use Rattle.fx_run_commands.specs.Runs.Rows.{run_command}
use Rattle.fx_run_commands.proofs.Runs.Ending.{not_read, not_ready}
use Rattle.fx_run_commands.proofs.running.command.begin.Goals as goal

pub returns-in_err-base-clause-ends : goal.returns-in_err-base-clause-ends
returns-in_err-base-clause-ends g c =
    let j = asked c.args.job.now in
    let a = g.H.Host.view c.args.host.now in
    let b = g.H.Host.view c.read_base.new.host in
    let st = c.in_err-base.field-0.0 in
    if_err_of (CommandEndsAs (run_command j) a b) c.from_residual.result st c.from_residual.ensures.1 (not_read j a b st c.in_err-base.ensures.same c.in_err-base.ensures.ends)

pub returns-in-Err-clause-ends : goal.returns-in-Err-clause-ends
returns-in-Err-clause-ends g c =
    let j = asked c.args.job.now in
    let a = g.H.Host.view c.args.host.now in
    let b = g.H.Host.view c.read_base.new.host in
    let d = g.H.Host.view c.ready_out.new.host in
    let inputs = inputs_read j.inputs (base_tree c.in_ok-base.base.value) a b c.in_ok-base.ensures.same c.in_ok-base.ensures.read in
    not_ready j a b d c.in-Err.status c.in_ok-base.ensures.same c.in-Err.ensures.same inputs c.in-Err.ensures.unready

pub returns-in-Ok-clause-ready : goal.returns-in-Ok-clause-ready
returns-in-Ok-clause-ready g c =
    let a = g.H.Host.view c.args.host.now in
    let b = g.H.Host.view c.read_base.new.host in
    some_back (λ t. IsReady t (asked c.args.job.now).out c.in-Ok.there) a b c.in_ok-base.ensures.same c.in-Ok.ensures.ready

pub returns-in_err-base-clause-fit : goal.returns-in_err-base-clause-fit
returns-in_err-base-clause-fit g c = λ lets. c.in_err-base.ensures.fit lets.inputs

pub returns-in-Err-clause-fit : goal.returns-in-Err-clause-fit
returns-in-Err-clause-fit g c =
    asks_both (λ guard. LetsRun guard (asked c.args.job.now).inputs (asked c.args.job.now).out) (g.H.Host.view c.args.host.now) (g.H.Host.view c.read_base.new.host) (g.H.Host.view c.ready_out.new.host)
    (λ lets. c.in_ok-base.ensures.fit lets.inputs) (λ lets. c.in-Err.ensures.fit lets.out.ready)

pub returns-in-Ok-clause-fit : goal.returns-in-Ok-clause-fit
returns-in-Ok-clause-fit g c =
    asks_both (λ guard. LetsRun guard (asked c.args.job.now).inputs (asked c.args.job.now).out) (g.H.Host.view c.args.host.now) (g.H.Host.view c.read_base.new.host) (g.H.Host.view c.ready_out.new.host)
    (λ lets. c.in_ok-base.ensures.fit lets.inputs) (λ lets. c.in-Ok.ensures.fit lets.out.ready)
