use Rattle.std.proofs.Common.{sym, ◌∙◌}
use Rattle.fx_store.specs.declared.node.Node.{Node}
use Rattle.fx_store.specs.declared.node.Node.TheVariants.{Dir}
use Rattle.fx_expr.specs.Views.{tree_of}
use Rattle.fx_spec.specs.Edit as edit
use Rattle.fx_spec.specs.SpecTree.{SpecTree}
use Rattle.fx_edit.proofs.Holding.{dir_told, dir-wrong}
use Rattle.fx_edit.proofs.Naming.{told_on}
use Rattle.fx_edit.proofs.nodes.dir_node.Goals as goal

pub returns-in_err-names_of-in-Some : goal.returns-in_err-names_of-in-Some
returns-in_err-names_of-in-Some c =
    told_on (λ names. Dir names) (λ (n : Node). n) (edit.names_node c.in-Some.texts.now) (edit.stored_node SpecTree.dir (tree_of c.args.value.now))
    (λ refusal is. dir_told (tree_of c.args.value.now) c.in-Some.texts.now (sym c.in-Some.ensures) c.in_err-names_of-in-Some.ensures.order ∙ is) c.from_residual.result c.in_err-names_of-in-Some.field-0.0 c.from_residual.ensures.1 c.in_err-names_of-in-Some.ensures.names

pub returns-in_ok-names_of-in-Some : goal.returns-in_ok-names_of-in-Some
returns-in_ok-names_of-in-Some c =
    dir_told (tree_of c.args.value.now) c.in-Some.texts.now (sym c.in-Some.ensures) c.in_ok-names_of-in-Some.ensures.order ∙ c.in_ok-names_of-in-Some.ensures.names

pub returns-in-None : goal.returns-in-None
returns-in-None c = dir-wrong (tree_of c.args.value.now) (sym c.in-None.ensures)
