use Rattle.fx_audit.specs.Retries.{last_tree}
use Rattle.fx_audit.proofs.Trying.{AreTried}
use Rattle.fx_audit.proofs.retries.first_untrue.Given as goal

abbrev pub invariant-loop-m : goal.invariant-loop-m
invariant-loop-m l = AreTried l.board.base l.board.order l.retries l.m (last_tree l.last)
