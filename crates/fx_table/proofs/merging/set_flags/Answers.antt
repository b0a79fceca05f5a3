use Rattle.fx_table.proofs.Prelude.{◌≡◌, length, arith, common_steps, flag_change}
use Rattle.fx_table.proofs.Flagging.{flags_more}
use Rattle.fx_table.proofs.merging.set_flags.Goals as goal

pub loop-i-preserved : goal.loop-i-preserved
loop-i-preserved c =
    let count : c.len-i-end.result ≡ length c.args.found.now.items = grind (arith, common_steps) in
    flags_more (flag_change c.args.lines.now) c.args.found.now.items c.loop-i.found.items c.loop-i.i c.index_mut.result.now c.set_flag.new.change (omega (arith, count, c.loop-i-test.true)) c.loop-i.invariant c.index_mut.ensures.value c.set_flag.ensures
