use Rattle.std.proofs.Common.{◌≡◌, ◌++◌, map}
use Rattle.std.specs.List.{All}
use Rattle.std.specs.Vec.Iter.{into_iter_items}
use Rattle.fx_spec.specs.DefViews.{def_tree}
use Rattle.fx_check.specs.Fitting.{IsFitting}
use Rattle.fx_check.proofs.settling.settled_defs.Given as goal

abbrev pub invariant-loop-def : goal.invariant-loop-def
invariant-loop-def l = record {
  left : All IsFitting (map def_tree (into_iter_items l.def-iterator));
  done : l.settled ++ map def_tree (into_iter_items l.def-iterator) ≡ l.fn.defs;
}
