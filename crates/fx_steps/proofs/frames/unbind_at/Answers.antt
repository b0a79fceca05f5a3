use Rattle.fx_steps.proofs.Prelude.{ap, ◌∙◌, around_last, step_tree}
use Rattle.fx_steps.proofs.Turning.{turned_take}
use Rattle.fx_steps.proofs.frames.unbind_at.Goals as goal

pub returns-then-place-steps : goal.returns-then-place-steps
returns-then-place-steps c = c.unbind_last.ensures ∙ ap (λ a. around_last a c.args.caller c.args.env.now) (turned_take step_tree c.args.steps.now c.args.place c.if-place-steps.true)
