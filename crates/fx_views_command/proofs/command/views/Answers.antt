use Rattle.std.proofs.Common.{◌≡◌, true, sym, subst, arith}
use Rattle.fx_outside.specs.Host.{Guard}
use Rattle.fx_outside.proofs.Views.{reads_then, asks_both}
use Rattle.fx_spec.specs.Bases.{base_tree}
use Rattle.fx_words.specs.JobOf.{asked_views}
use Rattle.fx_views_command.specs.Answers.{last_of_views}
use Rattle.fx_inputs.specs.Reads.{LetsRun}
use Rattle.fx_views_command.specs.Rows.{ViewsRow}
use Rattle.fx_command.specs.StatusOf.{status_of}
use Rattle.fx_base.proofs.Errors.{err_of}
use Rattle.fx_views_command.proofs.Ending.{not_read, not_ready, row_back}
use Rattle.fx_views_command.proofs.Stages.{can_leave, inputs_read}
use Rattle.fx_views_command.proofs.command.views.Goals as goal

pub returns-in_err-bases-clause-row : goal.returns-in_err-bases-clause-row
returns-in_err-bases-clause-row g c =
    let a = g.H.Host.view c.args.host.now in
    let b = g.H.Host.view c.read_bases.new.host in
    let sink = g.S.Sink.view c.args.out.now in
    let is = err_of c.from_residual.result c.in_err-bases.field-0.0 c.from_residual.ensures.1 in
    subst (λ r. ViewsRow (asked_views c.args.job.now) a b sink sink (status_of r)) (sym is) (not_read (asked_views c.args.job.now) a b c.in_err-bases.field-0.0 c.in_err-bases.ensures.same c.in_err-bases.ensures.ends sink)

pub returns-in-Err-clause-row : goal.returns-in-Err-clause-row
returns-in-Err-clause-row g c =
    let j = asked_views c.args.job.now in
    let a = g.H.Host.view c.args.host.now in
    let b = g.H.Host.view c.read_bases.new.host in
    let d = g.H.Host.view c.ready_out.new.host in
    let sink = g.S.Sink.view c.args.out.now in
    let inputs = inputs_read j (base_tree c.in_ok-bases.bases.scripts.value) (base_tree c.in_ok-bases.bases.views.value) a b c.in_ok-bases.ensures.same c.in_ok-bases.ensures.read in
    not_ready j a b d c.in-Err.status c.in_ok-bases.ensures.same c.in-Err.ensures.same inputs c.in-Err.ensures.unready sink

pub leave-ended-requires : goal.leave-ended-requires
leave-ended-requires g c =
    can_leave (asked_views c.args.job.now) (base_tree c.in_ok-bases.bases.scripts.value) (base_tree c.in_ok-bases.bases.views.value) (last_of_views c.in_ok-answer.answer) c.in_ok-answer.answer.output c.in-Ok.there (g.H.Host.view c.args.host.now) (g.H.Host.view c.read_bases.new.host) (g.H.Host.view c.ready_out.new.host)
    c.in_ok-bases.ensures.same c.in-Ok.ensures.same c.in_ok-bases.ensures.read c.in-Ok.ensures.ready c.in_ok-answer.ensures

pub returns-clause-fit : goal.returns-clause-fit
returns-clause-fit g c =
    let a = g.H.Host.view c.args.host.now in
    let b = g.H.Host.view c.read_bases.new.host in
    let d = g.H.Host.view c.ready_out.new.host in
    let e = g.H.Host.view c.leave-ended.new.host in
    let Lets : Guard → Type 0 = λ guard. LetsRun guard (asked_views c.args.job.now).inputs (asked_views c.args.job.now).out × (guard.may_read (asked_views c.args.job.now).views ≡ true) in
    asks_both Lets a b e (λ lets. c.in_ok-bases.ensures.fit (lets.0.inputs, lets.1)) (asks_both Lets b d e (λ lets. c.in-Ok.ensures.fit lets.0.out.ready) c.leave-ended.ensures.fit)

pub run_bases-requires-clause-few : goal.run_bases-requires-clause-few
run_bases-requires-clause-few g c = omega (arith, c.in_ok-bases.ensures.count, c.requires.beside)

pub returns-clause-row : goal.returns-clause-row
returns-clause-row g c =
    let a = g.H.Host.view c.args.host.now in
    let b = g.H.Host.view c.read_bases.new.host in
    let d = g.H.Host.view c.ready_out.new.host in
    row_back (asked_views c.args.job.now) a d (g.H.Host.view c.leave-ended.new.host) (g.S.Sink.view c.args.out.now) (g.S.Sink.view c.leave-ended.new.out) (status_of c.leave-ended.result)
    (reads_then a b d c.in_ok-bases.ensures.same c.in-Ok.ensures.same) c.leave-ended.ensures.row
