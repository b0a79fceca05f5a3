use Rattle.std.proofs.Common.{sym, subst}
use Rattle.fx_command.specs.StatusOf.{status_of}
use Rattle.fx_base.proofs.Errors.{err_of}
use Rattle.fx_command.specs.Table.{CommandRow, making_only}
use Rattle.fx_command.specs.declared.status.Status.TheVariants as status
use Rattle.fx_command.proofs.Readings.{nothing_steady}
use Rattle.fx_command.proofs.Tables.{no_memory, not_ready, row_back}
use Rattle.fx_command.proofs.Told.{some_unit}
use Rattle.fx_large_commands.specs.LargeRows.{large_making}
use Rattle.fx_large_commands.proofs.large_command.run_generated.Goals as goal

pub returns-in_err-there-clause-row : goal.returns-in_err-there-clause-row
returns-in_err-there-clause-row g c =
    let m = making_only (large_making c.args.number c.args.path.now) in
    let a = g.H.Host.view c.args.host.now in
    let b = g.H.Host.view c.ready_out.new.host in
    let sink = g.S.Sink.view c.args.out.now in
    let status = c.in_err-there.field-0.0 in
    let is = err_of c.from_residual.result status c.from_residual.ensures.1 in
    subst (λ r. CommandRow m a b sink sink (status_of r)) (sym is) (not_ready m a b status c.in_err-there.ensures.same (some_unit a.told) c.in_err-there.ensures.unready sink)

pub returns-in_err-board-clause-row : goal.returns-in_err-board-clause-row
returns-in_err-board-clause-row g c =
    let m = making_only (large_making c.args.number c.args.path.now) in
    let a = g.H.Host.view c.args.host.now in
    let b = g.H.Host.view c.ready_out.new.host in
    let sink = g.S.Sink.view c.args.out.now in
    let is = err_of c.from_residual-in_err-board.result status.NoMemory c.from_residual-in_err-board.ensures.1 in
    subst (λ r. CommandRow m a b sink sink (status_of r)) (sym is) (no_memory m a b c.in_ok-there.ensures.same sink)

pub returns-in-Err-clause-row : goal.returns-in-Err-clause-row
returns-in-Err-clause-row g c =
    let m = making_only (large_making c.args.number c.args.path.now) in
    let a = g.H.Host.view c.args.host.now in
    let b = g.H.Host.view c.ready_out.new.host in
    let sink = g.S.Sink.view c.args.out.now in
    no_memory m a b c.in_ok-there.ensures.same sink

pub returns-clause-row : goal.returns-clause-row
returns-clause-row g c =
    let m = making_only (large_making c.args.number c.args.path.now) in
    row_back m nothing_steady (g.H.Host.view c.args.host.now) (g.H.Host.view c.ready_out.new.host) (g.H.Host.view c.leave-ended.new.host) (g.S.Sink.view c.args.out.now) (g.S.Sink.view c.leave-ended.new.out) (status_of c.leave-ended.result) c.in_ok-there.ensures.same c.leave-ended.ensures.row
