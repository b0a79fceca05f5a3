use Rattle.std.proofs.Common.{rules}
use Rattle.fx_disk.proofs.Taken.{taken}
use Rattle.fx_disk.proofs.ahead.Ahead.take.Goals as goal

pub returns-then-eq : goal.returns-then-eq
returns-then-eq c = taken _ _ _ _ _ _ (search (c.if-eq.ensures, c.eq.ensures, c.as_str.ensures, rules)) c.loop-held.invariant.1 c.in-Some.ensures.rest
