use Rattle.fx_edit.proofs.Naming.{AreNamed}
use Rattle.fx_edit.proofs.nodes.names_of.Given as goal

abbrev pub invariant-loop-text : goal.invariant-loop-text
invariant-loop-text l = AreNamed l.texts l.names.items l.text-iterator
