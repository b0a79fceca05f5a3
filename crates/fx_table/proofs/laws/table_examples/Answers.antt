use Rattle.fx_table.proofs.TableExamples.{table_examples}
use Rattle.fx_table.proofs.laws.table_examples.Goals as goal

pub returns : goal.returns
returns c = table_examples
