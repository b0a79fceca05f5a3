use Rattle.std.proofs.Common.{◌+◌, arith}
use Rattle.std.proofs.lemmas.List.{take_rest}
use Rattle.fx_report.proofs.Spelling.{next_spelled}
use Rattle.fx_report.proofs.quotes.add_all_spelled.Goals as goal

pub adding-preserved : goal.adding-preserved
adding-preserved c =
    next_spelled c.adding.out.items c.add_bytes.new.out.items c.add_spelled.new.out.items c.args.out.now.items c.args.bytes.now c.adding.rest.now _ c.plain_len-plain.result
    c.adding.invariant (let within = c.plain_len-plain.ensures.within in let more = c.if-plain-rest.false in omega (arith, within, more)) c.plain_len-plain.ensures.plain c.in_ok-add_bytes.ensures c.in_ok-add_spelled.ensures (take_rest c.adding.rest.now (c.plain_len-plain.result + 1))
