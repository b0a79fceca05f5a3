use Rattle.std.specs.Ordering.{eq_by_cmp}
use Rattle.fx_store.specs.Names.{path_cmp}
use Rattle.fx_view.proofs.Few.{Sought}
use Rattle.fx_view.proofs.table.place_in.Given as goal

abbrev pub invariant-loop-i : goal.invariant-loop-i
invariant-loop-i g l = Sought (eq_by_cmp path_cmp l.path) l.few l.i
