use Rattle.fx_store.specs.Rule.{look}
use Rattle.fx_spec.specs.Edit as edit
use Rattle.fx_session.proofs.Calls.{then_on}
use Rattle.fx_session.proofs.Halting.{stop_halts}
use Rattle.fx_edit.proofs.storing.replace.Goals as goal

pub returns-in_err-found : goal.returns-in_err-found
returns-in_err-found g c = record { follows = stop_halts (look c.args.path) (edit.replaced c.args.flag c.args.path c.args.node) c.from_residual.result c.from_residual.ensures.1 c.in_err-found.ensures }

pub returns : goal.returns
returns g c = record { follows = then_on (look c.args.path) (edit.replaced c.args.flag c.args.path c.args.node) c.in_ok-found.ensures c.replaced.ensures.follows }
