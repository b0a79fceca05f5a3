use Rattle.std.proofs.Common.{arith}
use Rattle.std.proofs.lemmas.Bool.{false≢true}
use Rattle.fx_machine.specs.Tried.{retry_tree}
use Rattle.fx_audit.proofs.Trying.{cause_is, no_cause}
use Rattle.fx_audit.proofs.retries.is_cause.Goals as goal

pub returns-then-entry-retry : goal.returns-then-entry-retry
returns-then-entry-retry c =
    cause_is c.args.board.now c.in-Some.entry.now (retry_tree c.args.retry.now) c.has.result c.in-Some.ensures.entry (λ e. omega (arith, c.if-entry-retry.true, e)) c.has.ensures.found

pub returns-in-None : goal.returns-in-None
returns-in-None c = (λ t. absurd (false≢true t), λ cause. absurd (no_cause c.args.board.now (retry_tree c.args.retry.now) (c.entry.ensures.none.0 c.in-None.is) cause))
