use Rattle.fx_read_report.proofs.Readable.{one_quote}
use Rattle.fx_read_report.proofs.laws.quotes_are_readable.Goals as goal

pub returns : goal.returns
returns c = one_quote
