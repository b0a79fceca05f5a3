use Rattle.fx_view.specs.Own.{AreRead}
use Rattle.test_low.proofs.known.net.Given as goal

abbrev pub invariant-loop-line : goal.invariant-loop-line
invariant-loop-line l = AreRead l.own l.reads
