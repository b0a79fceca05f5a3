use Rattle.fx_steps.proofs.Prelude.{◌≡◌, take, part_of, part, step_tree, turned}
use Rattle.fx_steps.proofs.part.part.Given as goal

abbrev pub invariant-loop-step : goal.invariant-loop-step
invariant-loop-step l = (part_of l.spec ≡ part (part_of l.root) (turned step_tree (take l.step-index l.steps))) × (l.spec.defs.now ≡ l.root.defs.now)
