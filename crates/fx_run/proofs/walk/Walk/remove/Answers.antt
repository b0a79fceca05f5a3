use Rattle.fx_spec.specs.Edit as edit
use Rattle.fx_session.specs.Places.{place_tree}
use Rattle.fx_run.proofs.Edited.{unfound_acts, failed_acts, edited_acts}
use Rattle.fx_run.proofs.walk.Walk.remove.Goals as goal

pub returns-in_err-find : goal.returns-in_err-find
returns-in_err-find g c = record { acts = unfound_acts edit.remove_at c.in_err-find.field-0.0 c.from_residual.ensures.1 c.in_err-find.ensures }

pub returns-in_err-untouched : goal.returns-in_err-untouched
returns-in_err-untouched g c = record {
  acts = failed_acts edit.remove_at c.in_ok-find.ensures (place_tree c.here.result) c.here.ensures.place c.in_err-untouched.field-0.0 c.from_residual-in_err-untouched.ensures.1 c.in_err-untouched.ensures.edits;
}

pub returns : goal.returns
returns g c = record {
  acts =
      edited_acts edit.remove_at c.in_ok-find.ensures (place_tree c.here.result) c.here.ensures.place c.in_ok-untouched.untouched c.edited.ensures.root c.edited.ensures.address c.edited.ensures.fresh
      c.in_ok-untouched.ensures.untouched c.in_ok-untouched.ensures.edits;
}
