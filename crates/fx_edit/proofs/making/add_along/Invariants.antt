use Rattle.fx_edit.proofs.Makes.{IsMaking}
use Rattle.fx_edit.proofs.making.add_along.Given as goal

abbrev pub invariant-loop-i : goal.invariant-loop-i
invariant-loop-i l = IsMaking l.here l.names l.node l.initial.edits l.path l.edits l.i
