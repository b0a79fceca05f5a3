use Rattle.fx_folder.proofs.Prelude.{◌≡◌, ◌++◌, drop, entries, items_of}
use Rattle.fx_folder.proofs.walking.add_items.Given as goal

abbrev pub invariant-loop-i : goal.invariant-loop-i
invariant-loop-i l = l.todo.items ≡ l.fn.todo.items ++ items_of l.parent (drop l.i (entries l.names))
