use Rattle.std.proofs.Common.{sym, subst, ◌∙◌}
use Rattle.std.specs.Cmp.{eq_by_cmp_equiv}
use Rattle.fx_store.specs.Orders.{path_total}
use Rattle.fx_view.specs.Reads.{IsReads}
use Rattle.fx_view.proofs.Few.{once_insert}
use Rattle.fx_view.proofs.Lookups.{insert-new, lookup-read_at}
use Rattle.fx_view.proofs.reads.Reads.add.Goals as goal

pub push-requires : goal.push-requires
push-requires c = lookup-read_at c.self.inside.table c.args.path ∙ rw c.self.view_is c.requires

pub invariant_of-self-2 : goal.invariant_of-self-2
invariant_of-self-2 c =
    let new = insert-new c.self.inside.table c.args.path (c.args.node, c.args.position) (rw c.self.view_is c.requires) in
    subst IsReads (new ∙ sym c.in_ok-push.ensures.ok) (once_insert (eq_by_cmp_equiv path_total) c.args.path (c.args.node, c.args.position) c.self.inside.table c.self.invariant)
