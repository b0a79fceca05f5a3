use Rattle.std.proofs.Common.{sym}
use Rattle.fx_expr.specs.Views.{tree_of}
use Rattle.fx_edit.proofs.Holding.{file-wrong}
use Rattle.fx_edit.proofs.nodes.flag_node.Goals as goal

pub returns-in-None : goal.returns-in-None
returns-in-None c = file-wrong (tree_of c.args.value.now) c.requires (sym c.in-None.ensures)
