use Rattle.fx_grammar.specs.Grammars.{transactions}
use Rattle.fx_grammar.proofs.Wholes.{has_one_place}
use Rattle.fx_source_parse.specs.Scripts.Reader.{read_txn}
use Rattle.fx_source_parse.proofs.Scripts.Machine.{Txn, table}
use Rattle.fx_source_parse.proofs.Scripts.Again.{txn_reader}
use Rattle.fx_source_parse.proofs.Scripts.Places as place
use Rattle.fx_source_parse.proofs.script.laws.one_place.Goals as goal

pub returns-clause-transaction : goal.returns-clause-transaction
returns-clause-transaction c = has_one_place table transactions Txn read_txn txn_reader

pub returns-clause-script : goal.returns-clause-script
returns-clause-script c = place.one_place
