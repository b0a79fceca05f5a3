use Rattle.fx_table.proofs.Versions.{tables_are_read}
use Rattle.fx_table.proofs.laws.tables_are_read.Goals as goal

pub returns : goal.returns
returns c = tables_are_read
