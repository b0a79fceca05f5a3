use Rattle.fx_grammar.specs.Grammars.{descriptions}
use Rattle.fx_grammar.proofs.Wholes.{has_one_place}
use Rattle.fx_source_parse.specs.Descriptions.Reader.{read_text}
use Rattle.fx_source_parse.proofs.Descriptions.Machine.{Text, table}
use Rattle.fx_source_parse.proofs.Descriptions.Again.{text_reader}
use Rattle.fx_source_parse.proofs.spec.laws.one_place.Goals as goal

pub returns : goal.returns
returns c = has_one_place table descriptions Text read_text text_reader
