use Rattle.std.proofs.Common.{ap}
use Rattle.fx_store.specs.declared.node.Landing.{Landing}
use Rattle.fx_session.proofs.Halting.{no_memory_at_once}
use Rattle.fx_spec.specs.declared.refusal.Refusal.{Refusal}
use Rattle.fx_spec.specs.Edit as edit
use Rattle.fx_edit.proofs.Edited.{edit_refused}
use Rattle.fx_edit.proofs.Exits.{by_rule}
use Rattle.fx_edit.proofs.storing.store_landed.Goals as goal

pub returns-in-At : goal.returns-in-At
returns-in-At g c = record { follows = by_rule (ap (λ (l : Landing). edit.store_landed c.args.flag c.args.path.now c.args.node l) c.in-At.is) c.replace.ensures.follows }

pub returns-in-Absent : goal.returns-in-Absent
returns-in-Absent g c = record { follows = by_rule (ap (λ (l : Landing). edit.store_landed c.args.flag c.args.path.now c.args.node l) c.in-Absent.is) c.make.ensures.follows }

pub returns-in-Blocked : goal.returns-in-Blocked
returns-in-Blocked g c = record { follows = edit_refused (Refusal.Blocked c.in-Blocked.at) (ap (λ (l : Landing). edit.store_landed c.args.flag c.args.path.now c.args.node l) c.in-Blocked.is) }

pub returns-in_err-copy-in-TooManyLinks : goal.returns-in_err-copy-in-TooManyLinks
returns-in_err-copy-in-TooManyLinks g c = record { follows = no_memory_at_once (edit.store_landed c.args.flag c.args.path.now c.args.node c.args.landing) c.from_residual.result c.from_residual.ensures.1 }
