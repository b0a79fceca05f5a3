use Rattle.std.proofs.Common.{sym, subst}
use Rattle.fx_command.specs.declared.status.Status.TheVariants as status
use Rattle.fx_command.specs.Saved.{Prints, PrintsPart}
use Rattle.fx_command.specs.StatusOf.{status_of}
use Rattle.fx_base.proofs.Errors.{err_of}
use Rattle.fx_words.specs.JobOf.{asked_show}
use Rattle.fx_commands.specs.Shows.Rows.{ShowRow}
use Rattle.fx_commands.proofs.Shows.Showing.{show_done, show_unprinted}
use Rattle.fx_commands.proofs.showing.command.show.Goals as goal

pub returns-in_err-output-clause-row : goal.returns-in_err-output-clause-row
returns-in_err-output-clause-row g c =
    let a = g.H.Host.view c.args.host.now in
    let b = g.H.Host.view c.output_of.new.host in
    let sink = g.S.Sink.view c.args.out.now in
    let is = err_of c.from_residual.result c.in_err-output.field-0.0 c.from_residual.ensures.1 in
    subst (λ r. ShowRow (asked_show c.args.job.now) a b sink sink (status_of r)) (sym is) (c.in_err-output.ensures.ends sink)

pub returns-in_err-print_all-clause-row : goal.returns-in_err-print_all-clause-row
returns-in_err-print_all-clause-row g c =
    let a = g.H.Host.view c.args.host.now in
    let b = g.H.Host.view c.output_of.new.host in
    let sink = g.S.Sink.view c.args.out.now in
    let sink' = g.S.Sink.view c.print_all.new.out in
    let is = err_of c.from_residual-in_err-print_all.result status.WriteFault c.from_residual-in_err-print_all.ensures.1 in
    subst (λ r. ShowRow (asked_show c.args.job.now) a b sink sink' (status_of r)) (sym is)
    (show_unprinted (asked_show c.args.job.now) c.in_ok-output.output a b sink sink' c.in_ok-output.ensures.same c.in_ok-output.ensures.shows
    (subst (λ b. PrintsPart b sink sink') c.as_slice.ensures c.in_err-print_all.ensures.front) c.in_err-print_all.ensures.cause.failed)

pub returns-clause-row : goal.returns-clause-row
returns-clause-row g c =
    let a = g.H.Host.view c.args.host.now in
    let b = g.H.Host.view c.output_of.new.host in
    let sink = g.S.Sink.view c.args.out.now in
    let sink' = g.S.Sink.view c.print_all.new.out in
    show_done (asked_show c.args.job.now) c.in_ok-output.output a b sink sink' c.in_ok-output.ensures.same c.in_ok-output.ensures.shows
    (subst (λ b. Prints b sink sink') c.as_slice.ensures c.in_ok-print_all.ensures.written)
