use Rattle.std.proofs.Common.{sym, subst}
use Rattle.fx_view.specs.Reads.{IsReads}
use Rattle.fx_view.proofs.Lookups.{placed_once}
use Rattle.fx_view.proofs.reads.Reads.place.Goals as goal

pub invariant_of-self : goal.invariant_of-self
invariant_of-self c = subst IsReads (sym c.place.ensures) (placed_once c.self.inside.table c.args.i c.args.position c.self.invariant)
