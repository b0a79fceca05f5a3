use Rattle.std.proofs.Common.{Bool, ap, sym}
use Rattle.fx_store.specs.Resolve.{resolve}
use Rattle.fx_store.specs.Rule.{◌>>=◌}
use Rattle.fx_session.proofs.Calls.{then_on}
use Rattle.fx_session.proofs.Halting.{stop_halts}
use Rattle.fx_spec.specs.Edit as edit
use Rattle.fx_edit.proofs.Exits.{by_rule}
use Rattle.fx_edit.proofs.storing.store_node.Goals as goal

pub returns-in_err-landing : goal.returns-in_err-landing
returns-in_err-landing g c =
    record {
      follows =
          by_rule (ap (λ (b : Bool). resolve c.args.path.now b >>= edit.store_landed c.args.flag c.args.path.now c.args.node) (sym c.follows_last.ensures))
          (stop_halts (resolve c.args.path.now c.follows_last.result) (edit.store_landed c.args.flag c.args.path.now c.args.node) c.from_residual.result c.from_residual.ensures.1 c.in_err-landing.ensures);
    }

pub returns : goal.returns
returns g c =
    record {
      follows =
          by_rule (ap (λ (b : Bool). resolve c.args.path.now b >>= edit.store_landed c.args.flag c.args.path.now c.args.node) (sym c.follows_last.ensures))
          (then_on (resolve c.args.path.now c.follows_last.result) (edit.store_landed c.args.flag c.args.path.now c.args.node) c.in_ok-landing.ensures c.store_landed.ensures.follows);
    }
