use Rattle.std.proofs.Common.{false}
use Rattle.fx_store.specs.Resolve.{resolve}
use Rattle.fx_spec.specs.Edit as edit
use Rattle.fx_session.proofs.Calls.{then_on}
use Rattle.fx_session.proofs.Halting.{stop_halts}
use Rattle.fx_edit.proofs.creating.create_node.Goals as goal

pub returns-in_err-landing : goal.returns-in_err-landing
returns-in_err-landing g c = record { follows = stop_halts (resolve c.args.path.now false) (edit.create_landed c.args.path.now c.args.node.now) c.from_residual.result c.from_residual.ensures.1 c.in_err-landing.ensures }

pub returns : goal.returns
returns g c = record { follows = then_on (resolve c.args.path.now false) (edit.create_landed c.args.path.now c.args.node.now) c.in_ok-landing.ensures c.create_landed.ensures.follows }
