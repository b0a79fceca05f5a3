use Rattle.std.proofs.Common.{◌≡◌, ◌∷◌, sym, ap, subst, ◌∙◌, refl}
use Rattle.std.specs.Prelude.{IfOk}
use Rattle.fx_store.specs.declared.node.Landing.{Landing}
use Rattle.fx_store.specs.Rule.{Ask}
use Rattle.fx_view.specs.Ways.{meant}
use Rattle.fx_view.specs.Walks.{rule_then}
use Rattle.fx_view.specs.declared.walk.Walk.{Walk}
use Rattle.fx_view.proofs.WalkRules.{rule_of-ends, rule_of-stays, rule_of-rises, rule_of-named}
use Rattle.fx_view.proofs.walk.advance.Goals as goal

pub returns-in-None-clause-rule : goal.returns-in-None-clause-rule
returns-in-None-clause-rule c = rule_of-ends c.args.walk.now _ (rw c.in-None.is at c.in_ok-first.ensures).0 c.take.ensures

pub returns-in-Some-CurDir-clause-rule : goal.returns-in-Some-CurDir-clause-rule
returns-in-Some-CurDir-clause-rule c =
    rule_of-stays c.args.walk.now _ refl refl ((rw c.in-Some-CurDir.is at c.in_ok-first.ensures) ∙ ap (λ x. meant x ∷ c.take_first.new.self) c.in-Some-CurDir.field-0-is) refl

pub returns-in_ok-walk-in-Some-ParentDir-clause-rule : goal.returns-in_ok-walk-in-Some-ParentDir-clause-rule
returns-in_ok-walk-in-Some-ParentDir-clause-rule c =
    rule_of-rises c.args.walk.now _ refl refl ((rw c.in-Some-ParentDir.is at c.in_ok-first.ensures) ∙ ap (λ x. meant x ∷ c.take_first.new.self) c.in-Some-ParentDir.field-0-is) c.in_ok-walk-in-Some-ParentDir.ensures

pub returns-in-Some-Normal-clause-rule : goal.returns-in-Some-Normal-clause-rule
returns-in-Some-Normal-clause-rule c =
    let w = c.args.walk.now in
    let after : Walk = record w { rest = c.take_first.new.self } in
    let named = rule_of-named w after refl refl c.in-Some-Normal.name ((rw c.in-Some-Normal.is at c.in_ok-first.ensures) ∙ ap (λ x. meant x ∷ c.take_first.new.self) c.in-Some-Normal.field-0-is) refl in
    subst (λ (rule : Ask Landing). IfOk c.enter.result (λ next. rule ≡ rule_then after next)) (sym named) c.enter.ensures.rule
