use Rattle.std.proofs.Common.{ap, ◌∙◌}
use Rattle.fx_store.specs.Resolve.{missing}
use Rattle.fx_view.proofs.WalkRules.{rule_named-looks, rule_named-full}
use Rattle.fx_view.proofs.walk.enter.Goals as goal

pub returns-in-Ok-clause-rule : goal.returns-in-Ok-clause-rule
returns-in-Ok-clause-rule c = rule_named-looks c.args.walk.now c.args.name c.in-Ok.path c.in-Ok.ensures

pub returns-in_ok-missing-in-Err-TooDeep-clause-rule : goal.returns-in_ok-missing-in-Err-TooDeep-clause-rule
returns-in_ok-missing-in-Err-TooDeep-clause-rule c =
    rule_named-full c.args.walk.now c.args.name _ (rw c.in-Err-TooDeep.field-0-is at c.in-Err-TooDeep.ensures) (c.in_ok-missing-in-Err-TooDeep.ensures ∙ ap (λ here. missing here c.args.name c.args.walk.now.rest) c.in_ok-here-in-Err-TooDeep.ensures.copied)
