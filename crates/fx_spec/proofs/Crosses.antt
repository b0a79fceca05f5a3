-- That the types of this crate cross threads: a value may move to another thread, and two threads may read one.
use denote.Param.Send.{IsSend, IsSync, sendable}
use Rattle.std.proofs.Crossing.{crosses}
use Rattle.fx_store.proofs.Crosses.{Path-send, Filestore-send, Filestore-sync}
use Rattle.fx_expr.proofs.Crosses.{Expr-send, Expr-sync, Formula-send, Formula-sync, Word-send, Word-sync, Shape-send, Shape-sync}
use Rattle.fx_spec.specs.contracts.spec.Spec as spec
use Rattle.fx_spec.specs.contracts.exprs.Exprs as exprs
use Rattle.fx_spec.specs.contracts.description.Params as params
use Rattle.fx_spec.specs.contracts.description.Def as def
use Rattle.fx_spec.specs.contracts.description.Defs as defs
use Rattle.fx_spec.specs.contracts.description.Description as description
use Rattle.fx_spec.specs.contracts.checked.Checked as checked
use Rattle.fx_spec.specs.contracts.command.Act as act
use Rattle.fx_spec.specs.contracts.command.Commands as commands
use Rattle.fx_spec.specs.contracts.txn.Txn as txn
use Rattle.fx_spec.specs.contracts.txn.Txns as txns
use Rattle.fx_spec.specs.contracts.checked.Script as script
use Rattle.fx_spec.specs.contracts.plan.Plan as plan
use Rattle.fx_spec.specs.contracts.base.Base as base
use Rattle.fx_spec.specs.contracts.refusal.Refusal as refusal
use Rattle.fx_spec.specs.contracts.refusal.End as end
use Rattle.fx_spec.proofs.spec.Spec.TheLaws.TheKnot.{send-Spec, sync-Spec}
use Rattle.fx_spec.proofs.command.Commands.TheLaws.TheKnot.{send-Commands, sync-Commands}

pub Exprs-send : IsSend (exprs.the_field).row
Exprs-send = search (sendable, crosses, Formula-send) depth 40

pub Exprs-sync : IsSync (exprs.the_field).row
Exprs-sync = search (sendable, crosses, Formula-sync) depth 40

pub Spec-send : IsSend (spec.the_field).row
Spec-send = search (sendable, crosses, send-Spec, Exprs-send, Formula-send, Word-send) depth 40

pub Spec-sync : IsSync (spec.the_field).row
Spec-sync = search (sendable, crosses, sync-Spec, Exprs-sync, Formula-sync, Word-sync) depth 40

pub Params-send : IsSend (params.the_field).row
Params-send = search (sendable, crosses, Word-send, Shape-send) depth 40

pub Params-sync : IsSync (params.the_field).row
Params-sync = search (sendable, crosses, Word-sync, Shape-sync) depth 40

pub Def-send : IsSend (def.the_field).row
Def-send = search (sendable, crosses, Word-send, Params-send, Spec-send) depth 40

pub Def-sync : IsSync (def.the_field).row
Def-sync = search (sendable, crosses, Word-sync, Params-sync, Spec-sync) depth 40

pub Defs-send : IsSend (defs.the_field).row
Defs-send = search (sendable, crosses, Def-send) depth 40

pub Defs-sync : IsSync (defs.the_field).row
Defs-sync = search (sendable, crosses, Def-sync) depth 40

pub Description-send : IsSend (description.the_field).row
Description-send = search (sendable, crosses, Defs-send, Spec-send) depth 40

pub Description-sync : IsSync (description.the_field).row
Description-sync = search (sendable, crosses, Defs-sync, Spec-sync) depth 40

pub Checked-send : IsSend (checked.the_field).row
Checked-send = search (sendable, crosses, Description-send, Description-sync) depth 40

pub Checked-sync : IsSync (checked.the_field).row
Checked-sync = search (sendable, crosses, Description-send, Description-sync) depth 40

pub Act-send : IsSend (act.the_field).row
Act-send = search (sendable, crosses, Expr-send) depth 40

pub Act-sync : IsSync (act.the_field).row
Act-sync = search (sendable, crosses, Expr-sync) depth 40

pub Commands-send : IsSend (commands.the_field).row
Commands-send = search (sendable, crosses, send-Commands, Act-send, Expr-send, Word-send, Shape-send) depth 40

pub Commands-sync : IsSync (commands.the_field).row
Commands-sync = search (sendable, crosses, sync-Commands, Act-sync, Expr-sync, Word-sync, Shape-sync) depth 40

pub Txn-send : IsSend (txn.the_field).row
Txn-send = search (sendable, crosses, Commands-send) depth 40

pub Txn-sync : IsSync (txn.the_field).row
Txn-sync = search (sendable, crosses, Commands-sync) depth 40

pub Txns-send : IsSend (txns.the_field).row
Txns-send = search (sendable, crosses, Txn-send) depth 40

pub Txns-sync : IsSync (txns.the_field).row
Txns-sync = search (sendable, crosses, Txn-sync) depth 40

pub Script-send : IsSend (script.the_field).row
Script-send = search (sendable, crosses, Txns-send) depth 40

pub Script-sync : IsSync (script.the_field).row
Script-sync = search (sendable, crosses, Txns-sync) depth 40

pub Plan-send : IsSend (plan.the_field).row
Plan-send = search (sendable, crosses, Script-send) depth 40

pub Plan-sync : IsSync (plan.the_field).row
Plan-sync = search (sendable, crosses, Script-sync) depth 40

pub Base-send : IsSend (base.the_field).row
Base-send = search (sendable, crosses, Checked-send, Plan-send, Filestore-send) depth 40

pub Base-sync : IsSync (base.the_field).row
Base-sync = search (sendable, crosses, Checked-sync, Plan-sync, Filestore-sync) depth 40

pub Refusal-send : IsSend (refusal.the_field).row
Refusal-send = search (sendable, crosses, Path-send) depth 40

pub End-send : IsSend (end.the_field).row
End-send = search (sendable, crosses, Refusal-send) depth 40
