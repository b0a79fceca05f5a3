use Rattle.fx_steps.proofs.Prelude.{◌≡◌, ◌++◌, ◌∷◌, [], ap, ◌∙◌, rules, step_tree, turned}
use Rattle.fx_steps.proofs.Turning.{turned-last}
use Rattle.fx_steps.proofs.frames.push_step.Goals as goal

pub returns : goal.returns
returns c =
    let items : c.push.new.self.items ≡ c.args.steps.now.items ++ c.args.step ∷ [] = search rules in
    ap (turned step_tree) items ∙ turned-last step_tree c.args.steps.now.items c.args.step
