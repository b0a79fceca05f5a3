use Rattle.std.proofs.Common.{◌≤◌, length, ap, ◌∙◌, arith}
use Rattle.std.specs.List.{count_by}
use Rattle.std.proofs.lemmas.List.{take_all}
use Rattle.fx_report.specs.declared.printed.PrintedEntry.{PrintedEntry}
use Rattle.fx_report.specs.Entries.{entries_of}
use Rattle.fx_report.proofs.Logs.{entry_there, entries_of_length}
use Rattle.fx_large_commands.specs.Summary.{is_done}
use Rattle.fx_large_commands.proofs.Sums.{one_more}
use Rattle.fx_large_commands.proofs.entries.done.Goals as goal

pub loop-i-preserved : goal.loop-i-preserved
loop-i-preserved c =
    let log = c.args.board.now in
    one_more (λ (e : PrintedEntry). is_done e.end) (entries_of log.base log.order) c.loop-i.i _ c.loop-i.done c.from-done.result c.is_done.result (entry_there log c.loop-i.i c.in-Some.entry.now c.in-Some.ensures.entry) c.loop-i.invariant c.is_done.ensures c.from-done.ensures

pub returns : goal.returns
returns c =
    let log = c.args.board.now in
    let all : length (entries_of log.base log.order) ≤ c.loop-i.i = omega (arith, entries_of_length log.base log.order, c.loop-i-test.false, c.len-i-end.ensures.len) in
    c.loop-i.invariant ∙ ap (count_by (λ (e : PrintedEntry). is_done e.end)) (take_all c.loop-i.i (entries_of log.base log.order) all)
