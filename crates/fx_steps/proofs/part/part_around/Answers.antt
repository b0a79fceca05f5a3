use Rattle.fx_steps.proofs.Prelude.{sym, ap, ◌∙◌, drop, part_of, part, step_tree, turned}
use Rattle.fx_steps.proofs.Turning.{turned-last}
use Rattle.fx_steps.proofs.part.part_around.Goals as goal

pub returns-in-Some-clause-part : goal.returns-in-Some-clause-part
returns-in-Some-clause-part c =
    c.part.ensures.part
    ∙ ap (λ a. part (part_of c.args.root.now) (drop 1 a)) (sym (ap (turned step_tree) c.in-Some.ensures.cases.0 ∙ turned-last step_tree c.in-Some.front.now c.in-Some.field-0-0.now))
