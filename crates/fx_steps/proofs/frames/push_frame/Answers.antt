use Rattle.fx_steps.proofs.Prelude.{◌≡◌, ◌++◌, ◌∷◌, [], ap, ◌∙◌, rules, turned}
use Rattle.fx_steps.proofs.Turning.{turned-last}
use Rattle.fx_steps.proofs.frames.push_frame.Goals as goal

pub returns : goal.returns
returns c =
    let items : c.push.new.self.items ≡ c.args.frames.now.items ++ c.args.frame ∷ [] = search rules in
    ap (turned (λ f. f)) items ∙ turned-last (λ f. f) c.args.frames.now.items c.args.frame
