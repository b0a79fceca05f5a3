use Rattle.fx_table.proofs.Versions.{read_texts_are_tables}
use Rattle.fx_table.proofs.laws.read_texts_are_tables.Goals as goal

pub returns : goal.returns
returns c = read_texts_are_tables
