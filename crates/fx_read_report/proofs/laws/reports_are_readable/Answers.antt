use Rattle.fx_read_report.proofs.Readable.{report_cancel}
use Rattle.fx_read_report.proofs.laws.reports_are_readable.Goals as goal

pub returns : goal.returns
returns c = report_cancel
