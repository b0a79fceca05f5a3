use Rattle.std.proofs.Common.{length}
use Rattle.fx_edit.proofs.Relists.{ArePassed}
use Rattle.fx_edit.proofs.relisting.next_change.Given as goal

abbrev pub invariant-loop-name : goal.invariant-loop-name
invariant-loop-name l = ArePassed l.initial.olds l.initial.news l.olds l.news

abbrev pub decreases-loop-name : goal.decreases-loop-name
decreases-loop-name l = length l.olds
