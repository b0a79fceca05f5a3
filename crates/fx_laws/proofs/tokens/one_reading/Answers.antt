use Rattle.fx_laws.proofs.Described.{spec_reading, def_reading, text_reading}
use Rattle.fx_laws.proofs.Commanded.{act_reading, command_reading, block_reading, txn_reading, scripts_differ}
use Rattle.fx_laws.proofs.tokens.one_reading.Goals as goal

pub returns-clause-text : goal.returns-clause-text
returns-clause-text c = text_reading

pub returns-clause-definition : goal.returns-clause-definition
returns-clause-definition c = def_reading

pub returns-clause-description : goal.returns-clause-description
returns-clause-description c = spec_reading

pub returns-clause-act : goal.returns-clause-act
returns-clause-act c = act_reading

pub returns-clause-command : goal.returns-clause-command
returns-clause-command c = command_reading

pub returns-clause-block : goal.returns-clause-block
returns-clause-block c = block_reading

pub returns-clause-transaction : goal.returns-clause-transaction
returns-clause-transaction c = txn_reading

pub returns-clause-script : goal.returns-clause-script
returns-clause-script c = scripts_differ
