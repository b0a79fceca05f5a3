use Rattle.fx_table.proofs.Versions.{tables_are_readable}
use Rattle.fx_table.proofs.laws.tables_are_readable.Goals as goal

pub returns : goal.returns
returns c = tables_are_readable
