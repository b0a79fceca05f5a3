use Rattle.fx_steps.proofs.Prelude.{rules, step_tree}
use Rattle.fx_steps.proofs.Turning.{length-turned}
use Rattle.fx_steps.proofs.frames.as_many.Goals as goal

pub returns : goal.returns
returns c = rw (length-turned (λ f. f) c.args.frames.now, length-turned step_tree c.args.steps.now) (search rules)
