use Rattle.fx_laws.proofs.Small.{expression_examples}
use Rattle.fx_laws.proofs.vectors.values_of_expressions.Goals as goal

pub returns : goal.returns
returns c = expression_examples
