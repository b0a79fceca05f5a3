-- Which plain tree a description, an act and a command of the program stand for.
use Rattle.fx_expr.specs.Views.{expr_tree, shape_tree}
use Rattle.fx_spec.specs.declared.spec.Spec.{Spec, fold-Spec}
use Rattle.fx_spec.specs.declared.spec.Spec.TheOpen.{Spec-F}
use Rattle.fx_spec.specs.declared.command.Act.{Act}
use Rattle.fx_spec.specs.declared.command.Command.{Command}
use Rattle.fx_spec.specs.Written.{WrittenTree}
use Rattle.fx_spec.specs.CommandTree.{ActTree, CommandTree, block}

-- one level of a description, with each part seen as its tree already
abbrev pub spec_step : Spec-F WrittenTree → WrittenTree
spec_step Spec-F.File = WrittenTree.file
spec_step Spec-F.Dir = WrittenTree.dir
spec_step Spec-F.Link = WrittenTree.link
spec_step (Spec-F.Focus e s) = WrittenTree.focus e s.value
spec_step (Spec-F.Pair x a b) = WrittenTree.pair x a.value b.value
spec_step (Spec-F.Comp s x e) = WrittenTree.comp s.value x e
spec_step (Spec-F.Opt s) = WrittenTree.opt s.value
spec_step (Spec-F.Pred e) = WrittenTree.pred e
spec_step (Spec-F.Call f args) = WrittenTree.call f args

abbrev pub spec_tree : Spec → WrittenTree
spec_tree = fold-Spec WrittenTree spec_step

abbrev pub act_tree : Act → ActTree
act_tree Act.Into = ActTree.into
act_tree (Act.To e) = ActTree.to (expr_tree e)
act_tree Act.Next = ActTree.next
act_tree Act.Prev = ActTree.prev
act_tree Act.Out = ActTree.out
act_tree Act.Down = ActTree.down
act_tree Act.Up = ActTree.up
act_tree Act.Top = ActTree.top
act_tree (Act.Store e) = ActTree.store (expr_tree e)
act_tree Act.Create = ActTree.create
act_tree Act.Remove = ActTree.remove

abbrev pub command_tree : Command → CommandTree
command_tree (Command.Do a) = CommandTree.act (act_tree a)
command_tree (Command.Attempt x a) = CommandTree.attempt x (act_tree a)
command_tree (Command.Bind x e) = CommandTree.bind x (expr_tree e)
command_tree (Command.Assign x e) = CommandTree.assign x (expr_tree e)
command_tree (Command.Fetch x s) = CommandTree.fetch x (shape_tree s)
command_tree (Command.Whole x s) = CommandTree.whole x (shape_tree s)
command_tree (Command.Validate x) = CommandTree.validate x
command_tree (Command.Print e) = CommandTree.print (expr_tree e)
command_tree (Command.Branch e a b) = CommandTree.branch (expr_tree e) (block a) (block b)
command_tree (Command.Each x e a) = CommandTree.each x (expr_tree e) (block a)
command_tree Command.Abort = CommandTree.abort
