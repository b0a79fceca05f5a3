use Rattle.fx_steps.proofs.Prelude.{sym, ap, ◌∙◌, around_last, step_tree, turned}
use Rattle.fx_steps.proofs.Turning.{turned-last}
use Rattle.fx_steps.proofs.frames.unbind_last.Goals as goal

pub returns-in-Some : goal.returns-in-Some
returns-in-Some c = c.unbind.ensures ∙ ap (λ a. around_last a c.args.caller c.args.env.now) (sym (ap (turned step_tree) c.in-Some.ensures.cases.0 ∙ turned-last step_tree c.in-Some.field-0-1.now c.in-Some.step.now))
