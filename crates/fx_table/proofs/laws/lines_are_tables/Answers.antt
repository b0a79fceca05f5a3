use Rattle.fx_table.proofs.TableLinks.{lines_are_tables}
use Rattle.fx_table.proofs.laws.lines_are_tables.Goals as goal

pub returns : goal.returns
returns c = lines_are_tables
