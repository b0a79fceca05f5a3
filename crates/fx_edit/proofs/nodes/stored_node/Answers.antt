use Rattle.std.proofs.Common.{◌≡◌, subst, sym}
use Rattle.fx_store.specs.declared.node.Node.{Node}
use Rattle.fx_expr.specs.Views.{tree_of}
use Rattle.fx_spec.specs.Edit as edit
use Rattle.fx_spec.specs.Forms.{IsForm}
use Rattle.fx_spec.specs.Parts.{part_of}
use Rattle.fx_spec.specs.SpecTree.{SpecTree}
use Rattle.fx_edit.specs.Values.{Tells}
use Rattle.fx_edit.proofs.nodes.stored_node.Goals as goal

pub returns-in-File : goal.returns-in-File
returns-in-File c =
    let tree : part_of c.args.form.now ≡ SpecTree.file = subst (IsForm (part_of c.args.form.now)) c.in-File.is c.form.ensures.form in
    subst (λ (s : SpecTree). Tells (λ (n : Node). n) (edit.stored_node s (tree_of c.args.value.now)) c.file_node.result) (sym tree) c.file_node.ensures

pub returns-in-Dir : goal.returns-in-Dir
returns-in-Dir c =
    let tree : part_of c.args.form.now ≡ SpecTree.dir = subst (IsForm (part_of c.args.form.now)) c.in-Dir.is c.form.ensures.form in
    subst (λ (s : SpecTree). Tells (λ (n : Node). n) (edit.stored_node s (tree_of c.args.value.now)) c.dir_node.result) (sym tree) c.dir_node.ensures

pub returns-in-Link : goal.returns-in-Link
returns-in-Link c =
    let tree : part_of c.args.form.now ≡ SpecTree.link = subst (IsForm (part_of c.args.form.now)) c.in-Link.is c.form.ensures.form in
    subst (λ (s : SpecTree). Tells (λ (n : Node). n) (edit.stored_node s (tree_of c.args.value.now)) c.link_node.result) (sym tree) c.link_node.ensures
