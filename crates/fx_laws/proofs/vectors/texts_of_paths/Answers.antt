use Rattle.fx_laws.proofs.Small.{extended_examples, link_text_examples, path_text_examples}
use Rattle.fx_laws.proofs.vectors.texts_of_paths.Goals as goal

pub returns : goal.returns
returns c = record { extended = extended_examples; links = link_text_examples; paths = path_text_examples }
