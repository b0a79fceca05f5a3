use Rattle.fx_table.proofs.Versions.{bad_lines_are_first}
use Rattle.fx_table.proofs.laws.bad_lines_are_first.Goals as goal

pub returns : goal.returns
returns c = bad_lines_are_first
