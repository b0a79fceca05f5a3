use Rattle.fx_read_report.specs.Lines.{held_line}
use Rattle.fx_read_report.specs.Stages.{state_of}
use Rattle.fx_read_report.proofs.Reporting.{takes}
use Rattle.fx_read_report.proofs.report.take_text.Goals as goal

pub returns-in-Some : goal.returns-in-Some
returns-in-Some c = takes (state_of c.args.reading.now) (state_of c.take.new.self) c.args.text.now (held_line c.in-Some.line) c.take.result (rw c.in-Some.is at c.in_ok-line.ensures) c.take.ensures

pub returns-in-None : goal.returns-in-None
returns-in-None c = λ l is spelled. absurd ((rw c.in-None.is at c.in_ok-line.ensures) l is spelled)
