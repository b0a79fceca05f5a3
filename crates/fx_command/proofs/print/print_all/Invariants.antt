use Rattle.std.proofs.Common.{length}
use Rattle.fx_command.proofs.Writing.{IsWriting}
use Rattle.fx_command.proofs.print.print_all.Given as goal

abbrev pub invariant-writing : goal.invariant-writing
invariant-writing g l = IsWriting l.bytes l.rest (g.S.Sink.view l.initial.out) (g.S.Sink.view l.out)

abbrev pub decreases-writing : goal.decreases-writing
decreases-writing g l = length l.rest
