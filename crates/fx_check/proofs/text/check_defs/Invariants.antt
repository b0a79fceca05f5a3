use Rattle.std.proofs.Common.{map}
use Rattle.std.specs.Slice.Iter.{iter_rest}
use Rattle.fx_spec.specs.DefViews.{def_tree}
use Rattle.fx_check.proofs.Rests.{AreLeft}
use Rattle.fx_check.proofs.text.check_defs.Given as goal

abbrev pub invariant-loop-before : goal.invariant-loop-before
invariant-loop-before l = AreLeft l.defs l.before (map def_tree (iter_rest l.def-iterator))
