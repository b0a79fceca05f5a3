use Rattle.fx_store.proofs.SpellingLaws.{paths_go_on}
use Rattle.fx_store.proofs.spelling.paths_go_on_by_names.Goals as goal

pub returns : goal.returns
returns c = paths_go_on
