use Rattle.std.proofs.Common.{sym}
use Rattle.fx_run.proofs.Planned.{planned_shaped}
use Rattle.fx_run.proofs.engine.commands_of.Goals as goal

pub returns-clause-shaped : goal.returns-clause-shaped
returns-clause-shaped c = planned_shaped c.args.plan.now (c.args.shell, c.args.txn) c.in-Some.txn.now.commands c.len-scripts.ensures.plan (sym c.in-Some.ensures)
