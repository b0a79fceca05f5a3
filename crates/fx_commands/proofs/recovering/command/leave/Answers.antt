use Rattle.std.proofs.Common.{sym, subst}
use Rattle.fx_spec.specs.Bases.{base_tree}
use Rattle.fx_words.specs.JobOf.{asked_recover}
use Rattle.fx_command.specs.Saved.{SaveEnd}
use Rattle.fx_command.specs.StatusOf.{status_of}
use Rattle.fx_command.specs.declared.status.Status.TheVariants as status
use Rattle.fx_folder.specs.Folder.{IsReady}
use Rattle.fx_base.proofs.Errors.{err_of}
use Rattle.fx_inputs.proofs.Stages.{then_told}
use Rattle.fx_durable.specs.Journal.{turns_of}
use Rattle.fx_commands.specs.Recoveries.Rows.{RecoverEnd}
use Rattle.fx_commands.proofs.Recoveries.Ending.{not_ready, no_memory, left}
use Rattle.fx_command.specs.Out.{LetsOut}
use Rattle.fx_outside.proofs.Views.{asks_both}
use Rattle.fx_commands.proofs.recovering.command.leave.Goals as goal

pub returns-in_err-there-clause-end : goal.returns-in_err-there-clause-end
returns-in_err-there-clause-end g c disk disk' has =
    let j = asked_recover c.args.job.now in
    let a = g.H.Host.view c.args.host.now in
    let b = g.H.Host.view c.ready_out.new.host in
    let sink = g.S.Sink.view c.args.out.now in
    let st = c.in_err-there.field-0.0 in
    let is = err_of c.from_residual.result st c.from_residual.ensures.1 in
    subst (λ r. RecoverEnd j a b sink sink disk disk' (status_of r)) (sym is)
    (not_ready j disk disk' a b (base_tree c.args.base.now.value) (turns_of c.args.order.now) st c.in_err-there.ensures.same has c.in_err-there.ensures.unready sink)

pub returns-in_err-recovered-clause-end : goal.returns-in_err-recovered-clause-end
returns-in_err-recovered-clause-end g c disk disk' has =
    let j = asked_recover c.args.job.now in
    let a = g.H.Host.view c.args.host.now in
    let b = g.H.Host.view c.ready_out.new.host in
    let sink = g.S.Sink.view c.args.out.now in
    let is = err_of c.from_residual-in_err-recovered.result status.NoMemory c.from_residual-in_err-recovered.ensures.1 in
    subst (λ r. RecoverEnd j a b sink sink disk disk' (status_of r)) (sym is) (no_memory j disk disk' a b c.in_ok-there.ensures.same sink)

pub save_and_print-ended-requires : goal.save_and_print-ended-requires
save_and_print-ended-requires g c = then_told (λ t. IsReady t c.args.job.now.out.now c.in_ok-there.there) (g.H.Host.view c.args.host.now) (g.H.Host.view c.ready_out.new.host) c.in_ok-there.ensures.same c.in_ok-there.ensures.ready

pub returns-clause-end : goal.returns-clause-end
returns-clause-end g c disk disk' has =
    let j = asked_recover c.args.job.now in
    let a = g.H.Host.view c.args.host.now in
    let b = g.H.Host.view c.ready_out.new.host in
    let d = g.H.Host.view c.save_and_print-ended.new.host in
    let sink = g.S.Sink.view c.args.out.now in
    let sink' = g.S.Sink.view c.save_and_print-ended.new.out in
    let st = status_of c.save_and_print-ended.result in
    let r = c.in_ok-recovered.recovered in
    left j disk disk' (base_tree c.args.base.now.value) (turns_of c.args.order.now) r.store.nodes r.line.items c.in_ok-there.there a b d sink sink' st
    c.in_ok-there.ensures.same has c.in_ok-there.ensures.ready c.in_ok-recovered.ensures.last c.in_ok-recovered.ensures.line
    (subst (λ l. SaveEnd j.out c.in_ok-there.there r.store.nodes l b d sink sink' st) c.deref.ensures.value c.save_and_print-ended.ensures.end)

pub returns-clause-fit : goal.returns-clause-fit
returns-clause-fit g c =
    asks_both (λ guard. LetsOut guard (asked_recover c.args.job.now).out) (g.H.Host.view c.args.host.now) (g.H.Host.view c.ready_out.new.host) (g.H.Host.view c.save_and_print-ended.new.host)
    (λ lets. c.in_ok-there.ensures.fit lets.ready) (λ lets. c.save_and_print-ended.ensures.fit lets.written)
