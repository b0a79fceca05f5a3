use Rattle.fx_steps.proofs.Prelude.{arith, step_tree}
use Rattle.fx_steps.proofs.Turning.{popped}
use Rattle.fx_steps.proofs.frames.pop_step.Goals as goal

pub returns : goal.returns
returns c = popped step_tree c.args.steps.now.items c.pop-last.new.self.items c.pop-last.result c.pop-last.ensures.items (λ more. c.pop-last.ensures.variant.1 (omega (arith, more, c.args.steps.now.ok.0)))
