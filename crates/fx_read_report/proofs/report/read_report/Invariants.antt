use Rattle.std.proofs.Common.{length}
use Rattle.fx_read_report.specs.Stages.{state_of}
use Rattle.fx_read_report.proofs.FirstBad.{Reached}
use Rattle.fx_read_report.proofs.Texts.{reports}
use Rattle.fx_read_report.proofs.report.read_report.Given as goal

abbrev pub invariant-reading : goal.invariant-reading
invariant-reading l = Reached reports l.bytes (state_of l.reading) l.rest l.number

abbrev pub decreases-reading : goal.decreases-reading
decreases-reading l = length l.rest
