use Rattle.fx_folder.proofs.DeepExamples.{deep_examples}
use Rattle.fx_folder.proofs.laws.deep_examples.Goals as goal

pub returns : goal.returns
returns c = deep_examples
