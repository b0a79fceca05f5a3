use Rattle.std.proofs.Common.{◌≡◌, map, take}
use Rattle.fx_expr.specs.Views.{entry_tree}
use Rattle.fx_expr.proofs.env.copy_bindings.Given as goal

abbrev pub invariant-loop-binding : goal.invariant-loop-binding
invariant-loop-binding l = map entry_tree l.copies.items ≡ map entry_tree (take l.binding-index l.bindings)
