use Rattle.std.proofs.Common.{inl, refl, sym, subst}
use Rattle.fx_spec.specs.Bases.{base_tree}
use Rattle.fx_words.specs.JobOf.{asked_recover}
use Rattle.fx_command.specs.StatusOf.{status_of}
use Rattle.fx_durable.proofs.Choices.{unasked}
use Rattle.fx_base.proofs.Errors.{err_of}
use Rattle.fx_inputs.specs.Inputs.{HasBase, IsOnlyBase}
use Rattle.fx_inputs.proofs.Stages.{then_told}
use Rattle.fx_inputs.specs.Reads.{LetsRun}
use Rattle.fx_commands.specs.Recoveries.Rows.{RecoverEnd}
use Rattle.fx_commands.proofs.Recoveries.Ending.{not_read, end_back}
use Rattle.fx_outside.proofs.Views.{asks_both}
use Rattle.fx_commands.proofs.recovering.command.recover.Goals as goal

pub returns-in_err-base-clause-row : goal.returns-in_err-base-clause-row
returns-in_err-base-clause-row g c =
    let j = asked_recover c.args.job.now in
    let a = g.H.Host.view c.args.host.now in
    let b = g.H.Host.view c.read_base.new.host in
    let sink = g.S.Sink.view c.args.out.now in
    let disk = g.D.Disk.view c.args.disk.now in
    let st = c.in_err-base.field-0.0 in
    let is = err_of c.from_residual.result st c.from_residual.ensures.1 in
    (refl, unasked j.journal disk, inl refl, subst (λ r. RecoverEnd j a b sink sink disk disk (status_of r)) (sym is) (not_read j disk disk a b st c.in_err-base.ensures.same c.in_err-base.ensures.ends sink))

pub restore-ended-requires-clause-begins : goal.restore-ended-requires-clause-begins
restore-ended-requires-clause-begins g c =
    then_told (λ t. HasBase t (asked_recover c.args.job.now).inputs (base_tree c.in_ok-base.base.value)) (g.H.Host.view c.args.host.now) (g.H.Host.view c.read_base.new.host) c.in_ok-base.ensures.same c.in_ok-base.ensures.read

pub restore-ended-requires-clause-only : goal.restore-ended-requires-clause-only
restore-ended-requires-clause-only g c =
    then_told (λ t. IsOnlyBase t (asked_recover c.args.job.now).inputs (base_tree c.in_ok-base.base.value)) (g.H.Host.view c.args.host.now) (g.H.Host.view c.read_base.new.host) c.in_ok-base.ensures.same c.in_ok-base.ensures.only

pub returns-clause-row : goal.returns-clause-row
returns-clause-row g c =
    let j = asked_recover c.args.job.now in
    let a = g.H.Host.view c.args.host.now in
    let b = g.H.Host.view c.read_base.new.host in
    let d = g.H.Host.view c.restore-ended.new.host in
    let sink = g.S.Sink.view c.args.out.now in
    let sink' = g.S.Sink.view c.restore-ended.new.out in
    let disk = g.D.Disk.view c.args.disk.now in
    let disk' = g.D.Disk.view c.restore-ended.new.disk in
    let row = c.restore-ended.ensures.row in
    (row.0, row.1, row.2, end_back j disk disk' a b d sink sink' (status_of c.restore-ended.result) c.in_ok-base.ensures.same row.3)

pub returns-clause-fit : goal.returns-clause-fit
returns-clause-fit g c =
    asks_both (λ guard. LetsRun guard (asked_recover c.args.job.now).inputs (asked_recover c.args.job.now).out) (g.H.Host.view c.args.host.now) (g.H.Host.view c.read_base.new.host) (g.H.Host.view c.restore-ended.new.host)
    (λ lets. c.in_ok-base.ensures.fit lets.inputs) (λ lets. c.restore-ended.ensures.fit lets.out)
