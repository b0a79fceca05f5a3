use Rattle.std.proofs.Common.{false, ap, sym}
use Rattle.fx_store.specs.Resolve.{resolve}
use Rattle.fx_store.specs.Rule.{Answer}
use Rattle.fx_spec.specs.Describe as describe
use Rattle.fx_session.proofs.Calls.{then_answers, stops}
use Rattle.fx_session.proofs.entries.exists.Goals as goal

pub returns-in_err-landing : goal.returns-in_err-landing
returns-in_err-landing g c = record { follows = stops (resolve c.args.path.now false) (λ l. Answer (describe.is_at l)) c.from_residual.result c.from_residual.ensures.1 c.in_err-landing.ensures }

pub returns : goal.returns
returns g c = record { follows = then_answers (resolve c.args.path.now false) (λ l. Answer (describe.is_at l)) c.is_at.result c.in_ok-landing.ensures (ap Answer (sym c.is_at.ensures)) }
