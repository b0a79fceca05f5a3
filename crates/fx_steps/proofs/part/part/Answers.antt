use Rattle.fx_steps.proofs.Prelude.{◌≡◌, ◌++◌, ◌∷◌, [], ◌+◌, ◌<◌, length, take, refl, sym, ap, ◌∙◌, rules, take_more, part_of, child, part, step_tree, turned}
use Rattle.fx_steps.proofs.Turning.{turned-last}
use Rattle.fx_steps.proofs.part.part.Goals as goal

pub loop-step-preserved : goal.loop-step-preserved
loop-step-preserved c =
    let steps = c.args.steps.now in
    let i = c.loop-step.step-index in
    let item = c.step-item.result in
    let within : i < length steps = search rules in
    let taken : take (i + 1) steps ≡ take i steps ++ item ∷ [] = take_more steps i item within ∙ ap (λ y. take i steps ++ y ∷ []) (sym c.step-item.is) in (
      c.child-spec.ensures.part ∙ ap (child (step_tree item)) c.loop-step.invariant.0 ∙ ap (part (part_of c.args.root.now)) (sym (ap (turned step_tree) taken ∙ turned-last step_tree (take i steps) item)),
      c.child-spec.ensures.defs ∙ c.loop-step.invariant.1,
    )

pub loop-step-init : goal.loop-step-init
loop-step-init c = (refl, refl)

pub returns-clause-defs : goal.returns-clause-defs
returns-clause-defs c = c.loop-step.invariant.1
