use Rattle.fx_read_report.specs.Lines.{held_line}
use Rattle.fx_read_report.proofs.LineLaws.{found_none, found_other, found_same}
use Rattle.fx_read_report.proofs.lines.read_line.Goals as goal

pub returns-in_default : goal.returns-in_default
returns-in_default c = found_none c.args.text.now (rw c.in_default.is at c.in_ok-line.ensures.read)

pub returns-then-not-branch : goal.returns-then-not-branch
returns-then-not-branch c = found_other c.args.text.now (held_line c.in-Some.line) _ (rw c.in-Some.is at c.in_ok-line.ensures.read) c.in_ok-is_printed.ensures c.if-not-branch.true

pub returns : goal.returns
returns c = found_same c.args.text.now (held_line c.in-Some.line) _ (rw c.in-Some.is at c.in_ok-line.ensures.fit) c.in_ok-is_printed.ensures c.if-not-branch.false
