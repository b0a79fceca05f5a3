use Rattle.std.proofs.Common.{◌≡◌, length, sym, append_assoc}
use Rattle.fx_report.specs.Entries.{entries_of}
use Rattle.fx_report.specs.Report.{report_text}
use Rattle.fx_report.proofs.Logs.{entries_of_length}
use Rattle.fx_report.proofs.lines.add_report.Goals as goal

pub returns : goal.returns
unfolding report_text
returns c =
    let count : length c.args.board.now.order ≡ length (entries_of c.args.board.now.base c.args.board.now.order) = sym (entries_of_length c.args.board.now.base c.args.board.now.order) in
    rw (c.in_ok-add_tail.ensures, c.in_ok-add_log.ensures, c.in_ok-add_head.ensures, c.len.ensures.len, count) (simp append_assoc)
