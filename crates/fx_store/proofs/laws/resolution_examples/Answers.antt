use Rattle.fx_store.proofs.Examples.{resolve_examples}
use Rattle.fx_store.proofs.laws.resolution_examples.Goals as goal

pub returns : goal.returns
returns c = resolve_examples
