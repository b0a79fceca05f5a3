use Rattle.std.proofs.Common.{sym, subst}
use Rattle.std.specs.List.{IsDistinct}
use Rattle.fx_view.specs.Own.{IsOwn}
use Rattle.fx_view.proofs.overlay.Overlay.new.Goals as goal

pub invariant_of-result : goal.invariant_of-result
unfolding IsDistinct
invariant_of-result c = subst IsOwn (sym c.new.ensures) tt
