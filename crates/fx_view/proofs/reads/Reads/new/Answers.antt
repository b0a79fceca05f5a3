use Rattle.std.proofs.Common.{sym, subst}
use Rattle.std.specs.List.{IsDistinct}
use Rattle.fx_view.specs.Reads.{IsReads}
use Rattle.fx_view.proofs.reads.Reads.new.Goals as goal

pub invariant_of-result : goal.invariant_of-result
unfolding IsDistinct
invariant_of-result c = subst IsReads (sym c.new.ensures) tt
