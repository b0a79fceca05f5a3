use Rattle.std.proofs.Common.{Err, sym, ap, ◌∙◌}
use Rattle.fx_store.specs.declared.node.Landing.{Landing}
use Rattle.fx_store.specs.Rule.{Answer}
use Rattle.fx_session.proofs.Halting.{no_memory_at_once}
use Rattle.fx_spec.specs.declared.refusal.Refusal.{Refusal}
use Rattle.fx_spec.specs.Edit as edit
use Rattle.fx_edit.proofs.Edited.{edit_refused}
use Rattle.fx_edit.proofs.Exits.{by_rule}
use Rattle.fx_edit.proofs.removing.remove_landed.Goals as goal

pub returns-in-At : goal.returns-in-At
returns-in-At g c = record { follows = by_rule (ap (λ (l : Landing). edit.remove_landed c.args.path.now l) c.in-At.is) c.remove_entry.ensures.follows }

pub returns-in-Absent : goal.returns-in-Absent
returns-in-Absent g c = record { follows = edit_refused Refusal.Absent (ap (λ (l : Landing). edit.remove_landed c.args.path.now l) c.in-Absent.is) }

pub returns-in-Blocked : goal.returns-in-Blocked
returns-in-Blocked g c = record { follows = edit_refused (Refusal.Blocked c.in-Blocked.at) (ap (λ (l : Landing). edit.remove_landed c.args.path.now l) c.in-Blocked.is) }

pub returns-in_err-copy-in-TooManyLinks : goal.returns-in_err-copy-in-TooManyLinks
returns-in_err-copy-in-TooManyLinks g c = record { follows = no_memory_at_once (edit.remove_landed c.args.path.now c.args.landing) c.from_residual.result c.from_residual.ensures.1 }

pub returns : goal.returns
returns g c = record { follows = edit_refused (Refusal.Blocked c.in_ok-copy-in-TooManyLinks.field-0) (ap (λ (l : Landing). edit.remove_landed c.args.path.now l) c.in-TooManyLinks.is ∙ ap (λ p. Answer (Err (Refusal.Blocked p))) (sym c.in_ok-copy-in-TooManyLinks.ensures.copied)) }
