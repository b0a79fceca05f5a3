use Rattle.fx_command.proofs.Writing.{begins, goes_on}
use Rattle.fx_command.proofs.print.print_all.Goals as goal

pub writing-init : goal.writing-init
writing-init g c = begins c.args.bytes.now (g.S.Sink.view c.args.out.now)

pub writing-preserved : goal.writing-preserved
writing-preserved g c =
    goes_on c.args.bytes.now c.writing.rest.now c.after-rest.result.now c.in_ok-count.count (g.S.Sink.view c.args.out.now) (g.S.Sink.view c.writing.out) (g.S.Sink.view c.write.new.self)
    c.writing.invariant c.in_ok-count.ensures.written c.in_ok-count.ensures.cause.later c.after-rest.ensures
