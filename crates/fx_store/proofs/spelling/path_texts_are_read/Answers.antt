use Rattle.fx_store.proofs.SpellingLaws.{path_texts_read}
use Rattle.fx_store.proofs.spelling.path_texts_are_read.Goals as goal

pub returns : goal.returns
returns c = path_texts_read
