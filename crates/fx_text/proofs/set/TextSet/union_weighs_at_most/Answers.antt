use Rattle.std.proofs.Common.{sym}
use Rattle.std.proofs.lemmas.Bool.{le-leb}
use Rattle.fx_text.proofs.Weights.{union_fits}
use Rattle.fx_text.proofs.set.TextSet.union_weighs_at_most.Goals as goal

pub returns-then-fits : goal.returns-then-fits
returns-then-fits c =
    rw (← c.self.view_is, ← c.other.view_is) (sym (le-leb _ c.args.limit (union_fits c.self.inside.texts c.other.inside.texts _ _ c.args.limit c.self.invariant c.other.invariant (c.fits.ensures c.if-fits.true))))
