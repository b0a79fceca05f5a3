use Rattle.fx_steps.proofs.Prelude.{arith}
use Rattle.fx_steps.proofs.Turning.{popped, popped_set, popped_caller}
use Rattle.fx_steps.proofs.frames.pop_frame.Goals as goal

pub returns-clause-frames : goal.returns-clause-frames
returns-clause-frames c = popped (λ f. f) c.args.frames.now.items c.pop-last.new.self.items c.pop-last.result c.pop-last.ensures.items (λ more. c.pop-last.ensures.variant.1 (omega (arith, more, c.args.frames.now.ok.0)))

pub returns-clause-set : goal.returns-clause-set
returns-clause-set c = popped_set c.args.frames.now.items c.pop-last.new.self.items c.pop-last.result c.pop-last.ensures.items (λ more. c.pop-last.ensures.variant.1 (omega (arith, more, c.args.frames.now.ok.0))) c.kept_in.result.0 c.kept_in.ensures.set

pub returns-clause-caller : goal.returns-clause-caller
returns-clause-caller c = popped_caller c.args.frames.now.items c.pop-last.new.self.items c.pop-last.result c.pop-last.ensures.items (λ more. c.pop-last.ensures.variant.1 (omega (arith, more, c.args.frames.now.ok.0))) c.kept_in.result.1 c.kept_in.ensures.caller
