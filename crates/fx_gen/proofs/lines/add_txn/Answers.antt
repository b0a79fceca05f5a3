use Rattle.std.proofs.Common.{length, ap, arith}
use Rattle.std.proofs.lemmas.List.{length-append}
use Rattle.fx_gen.specs.Scripts.{count_line, log_line}
use Rattle.fx_gen.proofs.Ranges.{count_short, log_short}
use Rattle.fx_gen.proofs.lines.add_txn.Goals as goal

pub returns-in_ok-add_log-clause-short : goal.returns-in_ok-add_log-clause-short
returns-in_ok-add_log-clause-short c =
    let p = c.draw-project.result in
    let e = ap length c.in_ok-add_log.ensures in
    omega (arith, e, length-append c.args.out.now.items (log_line p c.args.script c.args.place), log_short p c.args.script c.args.place c.requires.script c.requires.place)

pub returns-in_ok-add_count-clause-short : goal.returns-in_ok-add_count-clause-short
returns-in_ok-add_count-clause-short c =
    let p = c.draw-project.result in
    let e = ap length c.in_ok-add_count.ensures in
    omega (arith, e, length-append c.args.out.now.items (count_line p), count_short p)
