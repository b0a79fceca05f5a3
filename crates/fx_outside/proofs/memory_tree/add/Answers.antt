use Rattle.fx_outside.proofs.Trees.{insert_tree}
use Rattle.fx_outside.proofs.memory_tree.add.Goals as goal

pub returns-clause-added : goal.returns-clause-added
returns-clause-added c = insert_tree c.args.tree.now.entries _ c.args.names _ c.in_ok-insert.ensures.updates.0
