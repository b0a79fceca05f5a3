use Rattle.std.proofs.Common.{inl, sym, subst}
use Rattle.fx_outside.proofs.Views.{reads_none}
use Rattle.fx_spec.specs.Bases.{base_tree}
use Rattle.fx_spec.specs.Order.{IsLegal}
use Rattle.fx_words.specs.JobOf.{asked_recover}
use Rattle.fx_command.specs.StatusOf.{status_of}
use Rattle.fx_base.proofs.Errors.{err_of}
use Rattle.fx_durable.specs.Journal.{turns_of}
use Rattle.fx_commands.specs.Recoveries.Rows.{RecoverEnd, StaysCalm}
use Rattle.fx_commands.specs.Recoveries.Unread.{OrderCause}
use Rattle.fx_commands.proofs.Recoveries.Ending.{order_unread, has_order}
use Rattle.fx_commands.proofs.recovering.command.restore.Goals as goal

pub returns-in_err-order-clause-row : goal.returns-in_err-order-clause-row
returns-in_err-order-clause-row g c =
    let j = asked_recover c.args.job.now in
    let host = g.H.Host.view c.args.host.now in
    let sink = g.S.Sink.view c.args.out.now in
    let disk = g.D.Disk.view c.args.disk.now in
    let disk' = g.D.Disk.view c.read_order.new.disk in
    let base = base_tree c.args.base.now.value in
    let st = c.in_err-order.field-0.0 in
    let is = err_of c.from_residual.result st c.from_residual.ensures.1 in (
      c.in_err-order.ensures.same,
      record { others = c.in_err-order.ensures.others; early = c.in_err-order.ensures.early },
      subst (λ r. StaysCalm disk disk' (status_of r)) (sym is) c.in_err-order.ensures.calm_err,
      subst (λ r. RecoverEnd j host host sink sink disk disk' (status_of r)) (sym is)
          (order_unread j disk disk' host host base st (reads_none host) c.requires.begins c.requires.only (subst (λ b. OrderCause j.journal (base_tree b) disk disk' st) c.deref.ensures c.in_err-order.ensures.cause) sink),
    )

pub returns-clause-row : goal.returns-clause-row
returns-clause-row g c =
    let j = asked_recover c.args.job.now in
    let host = g.H.Host.view c.args.host.now in
    let disk = g.D.Disk.view c.args.disk.now in
    let disk' = g.D.Disk.view c.read_order.new.disk in
    let base = base_tree c.args.base.now.value in
    let order = turns_of c.in_ok-order.order in (
      c.in_ok-order.ensures.same,
      record { others = c.in_ok-order.ensures.others; early = c.in_ok-order.ensures.early },
      inl c.in_ok-order.ensures.calm,
      c.leave.ensures.end disk disk' (has_order j base order host disk c.requires.begins c.requires.only c.in_ok-order.ensures.read (subst (λ b. IsLegal (base_tree b) order) c.deref.ensures c.in_ok-order.ensures.legal)),
    )
