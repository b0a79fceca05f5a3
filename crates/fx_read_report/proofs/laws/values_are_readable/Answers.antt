use Rattle.fx_read_report.proofs.Readable.{one_value}
use Rattle.fx_read_report.proofs.laws.values_are_readable.Goals as goal

pub returns : goal.returns
returns c = one_value
