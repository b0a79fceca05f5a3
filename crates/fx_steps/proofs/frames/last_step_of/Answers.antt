use Rattle.fx_steps.proofs.Prelude.{sym, ap, ◌∙◌, last_step, step_tree, turned}
use Rattle.fx_steps.proofs.Turning.{turned-last}
use Rattle.fx_steps.proofs.frames.last_step_of.Goals as goal

pub returns-in-Some : goal.returns-in-Some
returns-in-Some c = sym (ap last_step (ap (turned step_tree) c.in-Some.ensures.cases.0 ∙ turned-last step_tree c.in-Some.field-0-1.now c.in-Some.step.now))
