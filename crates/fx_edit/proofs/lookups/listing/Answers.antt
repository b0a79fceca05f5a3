use Rattle.std.proofs.Common.{ap, sym}
use Rattle.fx_store.specs.Rule.{Answer, look}
use Rattle.fx_session.proofs.Calls.{then_answers, stops}
use Rattle.fx_edit.specs.Rules.{listing}
use Rattle.fx_edit.proofs.lookups.listing.Goals as goal

pub returns-in_err-node : goal.returns-in_err-node
returns-in_err-node g c = record { follows = stops (look c.args.path.now) (λ n. Answer (listing n)) c.from_residual.result c.from_residual.ensures.1 c.in_err-node.ensures }

pub returns : goal.returns
returns g c = record { follows = then_answers (look c.args.path.now) (λ n. Answer (listing n)) c.listed.result c.in_ok-node.ensures (ap Answer (sym c.listed.ensures)) }
