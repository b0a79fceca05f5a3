use Rattle.fx_edit.proofs.Looks.{IsLooking}
use Rattle.fx_edit.proofs.edits.Edits.look_at_rest.Given as goal

abbrev pub invariant-loop-i : goal.invariant-loop-i
invariant-loop-i g l = IsLooking g.R.Reader.meaning l.self l.initial.session l.session l.i
