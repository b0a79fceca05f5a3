use Rattle.fx_laws.proofs.Wanting.{texts_want_no_memory}
use Rattle.fx_laws.proofs.paths.texts_want_no_memory.Goals as goal

pub returns : goal.returns
returns c = texts_want_no_memory
