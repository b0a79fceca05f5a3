use Rattle.std.proofs.Common.{arith}
use Rattle.fx_table.proofs.Parents.{child_test}
use Rattle.fx_table.proofs.listing.is_child.Goals as goal

pub returns-then-len : goal.returns-then-len
returns-then-len c = child_test c.args.dir.now c.args.path.now c.starts_with.result (omega (arith, c.len.ensures.len, c.len-2.ensures.len, c.if-len.true)) c.starts_with.ensures
