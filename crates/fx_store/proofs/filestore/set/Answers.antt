use Rattle.fx_store.proofs.Tables.{nodes_of_put}
use Rattle.fx_store.proofs.filestore.set.Goals as goal

pub returns-clause-nodes : goal.returns-clause-nodes
returns-clause-nodes c = nodes_of_put _ _ c.args.change.path c.args.change.node c.in_ok-insert.ensures.updates.0
