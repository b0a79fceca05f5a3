use Rattle.fx_spec.proofs.EditLaws.{edits_keep_whole}
use Rattle.fx_spec.proofs.EditLooks.{edits_look_at_changes}
use Rattle.fx_session.specs.Places.{place_tree}
use Rattle.fx_edit.proofs.Done.{edits_done, edits_late, edits_halt}
use Rattle.fx_edit.proofs.Untouched.{untouched_same, untouched_next}
use Rattle.fx_edit.proofs.removing.remove.Goals as goal

pub returns-in_err-edits-clause-edits : goal.returns-in_err-edits-clause-edits
returns-in_err-edits-clause-edits g c = edits_halt c.in_err-edits.field-0.0 c.from_residual.result c.from_residual.ensures.1 c.in_err-edits.ensures.follows

pub returns-in_err-put_all-clause-edits : goal.returns-in_err-put_all-clause-edits
returns-in_err-put_all-clause-edits g c = edits_late c.from_residual-in_err-put_all.result c.from_residual-in_err-put_all.ensures.1 c.in_ok-edits.ensures.follows

pub returns-clause-edits : goal.returns-clause-edits
returns-clause-edits g c =
    edits_done (λ known own. edits_look_at_changes.remove known own (place_tree c.args.place.now)) (λ S whole. edits_keep_whole.remove S whole (place_tree c.args.place.now) c.len.ensures.path)
    c.in_ok-edits.ensures.follows c.in_ok-put_all.ensures

pub returns-clause-untouched : goal.returns-clause-untouched
returns-clause-untouched g c = untouched_same c.in_ok-edits.edits c.in_ok-edits.ensures.follows.own c.in_ok-put_all.ensures c.reads.ensures c.untouched-untouched.ensures

pub returns-clause-next : goal.returns-clause-next
returns-clause-next g c = untouched_next c.in_ok-edits.edits c.in_ok-edits.ensures.follows.own c.in_ok-put_all.ensures c.reads.ensures c.untouched-untouched.ensures
