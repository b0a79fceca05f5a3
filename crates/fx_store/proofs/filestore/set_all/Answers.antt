use Rattle.std.proofs.Common.{ap, sym, ◌∙◌}
use Rattle.fx_store.specs.Whole.{set_node}
use Rattle.fx_store.proofs.Stores.{over_nodes-push}
use Rattle.fx_store.proofs.filestore.set_all.Goals as goal

pub loop-change-preserved : goal.loop-change-preserved
loop-change-preserved c = record {
  nodes = c.in_ok-set.ensures.nodes ∙ (ap (λ m. set_node m c.in-Some.change.path c.in-Some.change.node) c.loop-change.invariant.nodes ∙ sym (over_nodes-push _ c.loop-change.yielded c.in-Some.change));
  unique = λ u. c.in_ok-set.ensures.unique (c.loop-change.invariant.unique u);
}
