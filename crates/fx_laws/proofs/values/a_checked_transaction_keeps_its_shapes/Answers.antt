use Rattle.fx_laws.proofs.Scoped.{commands_keep_shapes, blocks_keep_shapes}
use Rattle.fx_laws.proofs.values.a_checked_transaction_keeps_its_shapes.Goals as goal

pub returns-clause-command : goal.returns-clause-command
returns-clause-command c = commands_keep_shapes

pub returns-clause-block : goal.returns-clause-block
returns-clause-block c = blocks_keep_shapes
