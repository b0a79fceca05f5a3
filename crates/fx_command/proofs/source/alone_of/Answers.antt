use Rattle.std.proofs.Common.{rules}
use Rattle.fx_command.proofs.Ahead.{found_alone}
use Rattle.fx_command.proofs.source.alone_of.Goals as goal

pub returns : goal.returns
returns c =
    found_alone c.args.text.now c.in_ok-txns.txns (record { script = c.in_ok-script.script; count = c.len-count.result }) c.in_ok-txns.ensures.ok
    (λ others is. (c.in_ok-txns.ensures.only others is).0) c.in_ok-script.ensures c.len-count.ensures (search rules)
