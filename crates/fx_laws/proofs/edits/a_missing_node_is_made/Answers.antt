use Rattle.fx_laws.proofs.Edited.{stores_make, creations_make}
use Rattle.fx_laws.proofs.edits.a_missing_node_is_made.Goals as goal

pub returns-clause-store : goal.returns-clause-store
returns-clause-store c = stores_make

pub returns-clause-create : goal.returns-clause-create
returns-clause-create c = creations_make
