use Rattle.std.proofs.Common.{subst, sym}
use Rattle.fx_store.specs.declared.node.Node.{Node}
use Rattle.fx_expr.specs.Views.{tree_of}
use Rattle.fx_spec.specs.Move.{Answered}
use Rattle.fx_edit.specs.Values.{Tells}
use Rattle.fx_edit.proofs.Holding.{link_told, link-wrong}
use Rattle.fx_edit.proofs.nodes.link_node.Goals as goal

pub returns-in-Some : goal.returns-in-Some
returns-in-Some c = subst (λ (a : Answered Node). Tells (λ (n : Node). n) a c.link_of.result) (sym (link_told (tree_of c.args.value.now) c.in-Some.text.now (sym c.in-Some.ensures))) c.link_of.ensures

pub returns-in-None : goal.returns-in-None
returns-in-None c = link-wrong (tree_of c.args.value.now) (sym c.in-None.ensures)
