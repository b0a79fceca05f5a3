use Rattle.std.proofs.Common.{sym, ap, subst, ◌∙◌}
use Rattle.fx_shared.specs.Versions.{AreAscending}
use Rattle.fx_shared.specs.Tables.{listed}
use Rattle.fx_shared.proofs.versioned.Versioned.at.Goals as goal

pub node_at-requires : goal.node_at-requires
node_at-requires c = subst AreAscending (ap listed (sym (rw c.deref.ensures at c.in-Some.ensures.value)) ∙ sym c.deref-in-Some.ensures.value) (c.self.invariant.ascend c.args.path.now)
