use Rattle.std.proofs.Common.{sym, subst, ◌∙◌}
use Rattle.fx_board.specs.Board.{last_state}
use Rattle.fx_report.specs.Entries.{report}
use Rattle.fx_command.specs.declared.status.Status.TheVariants as status
use Rattle.fx_command.specs.Saved.{SaveEnd}
use Rattle.fx_command.specs.StatusOf.{status_of}
use Rattle.fx_base.proofs.Errors.{err_of}
use Rattle.fx_run_commands.proofs.Journals.Finishing.{not_made}
use Rattle.fx_run_commands.proofs.journaling.command.finish.Goals as goal

pub returns-in_err-report-clause-end : goal.returns-in_err-report-clause-end
returns-in_err-report-clause-end g c =
    let r = c.args.recorded.now in
    let host = g.H.Host.view c.args.host.now in
    let sink = g.S.Sink.view c.args.out.now in
    let text = report r.board.base r.board.order r.retries in
    let is = err_of c.from_residual.result status.NoMemory c.from_residual.ensures.1 in
    subst (λ e. SaveEnd c.args.out_path.now c.args.there (last_state r.board) text host host sink sink (status_of e)) (sym is) (not_made c.args.out_path.now c.args.there (last_state r.board) text host sink)

pub returns-clause-end : goal.returns-clause-end
returns-clause-end g c =
    let r = c.args.recorded.now in
    let path = c.args.out_path.now in
    let host = g.H.Host.view c.args.host.now in
    let host' = g.H.Host.view c.save_and_print.new.host in
    let sink = g.S.Sink.view c.args.out.now in
    let sink' = g.S.Sink.view c.save_and_print.new.out in
    let st = status_of c.save_and_print.result in
    subst (λ n. SaveEnd path c.args.there n (report r.board.base r.board.order r.retries) host host' sink sink' st) c.store-store.ensures.nodes
    (subst (λ t. SaveEnd path c.args.there c.store-store.result.now.nodes t host host' sink sink' st) (c.as_slice.ensures ∙ c.in_ok-report.ensures) c.save_and_print.ensures.end)
