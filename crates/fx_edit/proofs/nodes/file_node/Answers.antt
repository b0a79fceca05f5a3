use Rattle.std.proofs.Common.{sym, ◌∙◌}
use Rattle.fx_expr.specs.Views.{tree_of}
use Rattle.fx_edit.proofs.Holding.{file_told}
use Rattle.fx_edit.proofs.nodes.file_node.Goals as goal

pub returns-in_ok-share-in-Some : goal.returns-in_ok-share-in-Some
returns-in_ok-share-in-Some c =
    let copied = c.in_ok-content-in-Some.ensures in
    file_told (tree_of c.args.value.now) c.in-Some.text.now c.in_ok-share-in-Some.field-0 (sym c.in-Some.ensures) (c.in_ok-share-in-Some.ensures ∙ copied.0, copied.1)
