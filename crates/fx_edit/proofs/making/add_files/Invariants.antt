use Rattle.fx_edit.proofs.Makes.{AreFiles}
use Rattle.fx_edit.proofs.making.add_files.Given as goal

abbrev pub invariant-loop-name : goal.invariant-loop-name
invariant-loop-name l = AreFiles l.path l.names l.initial.edits l.edits l.name-iterator
