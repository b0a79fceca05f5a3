use Rattle.std.proofs.Common.{◌≡◌, ◌++◌}
use Rattle.std.specs.FinMap.{entries}
use Rattle.fx_outside.proofs.Trees.{children}
use Rattle.fx_outside.proofs.memory_tree.names_in.Given as goal

abbrev pub invariant-loop-place : goal.invariant-loop-place
invariant-loop-place l = entries l.names ++ children l.folder l.place-iterator ≡ children l.folder l.tree.entries
