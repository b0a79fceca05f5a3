use Rattle.std.proofs.Common.{sym, subst}
use Rattle.fx_command.specs.declared.status.Status.TheVariants as status
use Rattle.fx_command.specs.Saved.{SaveEnd, done, unprinted}
use Rattle.fx_command.specs.StatusOf.{status_of, save_status}
use Rattle.fx_base.proofs.Errors.{err_of}
use Rattle.fx_command.proofs.Tables.{not_saved_end}
use Rattle.fx_command.proofs.saving.save_and_print.Goals as goal

pub returns-in_err-save-clause-end : goal.returns-in_err-save-clause-end
returns-in_err-save-clause-end g c =
    let host = g.H.Host.view c.args.host.now in
    let host' = g.H.Host.view c.save.new.host in
    let sink = g.S.Sink.view c.args.out.now in
    let fault = c.in_err-save.field-0.0 in
    let is = err_of c.from_residual.result (save_status fault) c.from_residual.ensures.1 in
    subst (λ r. SaveEnd c.args.path.now c.args.there c.args.store.now.nodes c.args.output.now host host' sink sink (status_of r)) (sym is)
    (not_saved_end c.args.path.now c.args.there c.args.store.now.nodes c.args.output.now host host' sink fault c.in_err-save.ensures.part c.in_err-save.ensures.fault)

pub returns-in_err-print_all-clause-end : goal.returns-in_err-print_all-clause-end
returns-in_err-print_all-clause-end g c =
    let host = g.H.Host.view c.args.host.now in
    let host' = g.H.Host.view c.save.new.host in
    let sink = g.S.Sink.view c.args.out.now in
    let sink' = g.S.Sink.view c.print_all.new.out in
    let is = err_of c.from_residual-in_err-print_all.result status.WriteFault c.from_residual-in_err-print_all.ensures.1 in
    subst (λ r. SaveEnd c.args.path.now c.args.there c.args.store.now.nodes c.args.output.now host host' sink sink' (status_of r)) (sym is)
    (unprinted c.in_ok-save.ensures.saved c.in_err-print_all.ensures.front c.in_err-print_all.ensures.cause.failed)

pub returns-clause-end : goal.returns-clause-end
returns-clause-end g c = done c.in_ok-save.ensures.saved c.in_ok-print_all.ensures.written
