use Rattle.std.proofs.Common.{◌≡◌, Bool, [], ◌++◌, cond, suc, ◌-◌, sym, ap, ◌∙◌, refl, arith}
use Rattle.fx_view.proofs.WalkRules.{rule_linked-lands, rule_linked-tires, rule_linked-goes}
use Rattle.fx_view.proofs.walk.at_link.Goals as goal
use Rattle.fx_view.proofs.walk.at_link.Goals.{then-is_absolute, else-is_absolute}

pub returns-then-not-goes_along-clause-rule : goal.returns-then-not-goes_along-clause-rule
returns-then-not-goes_along-clause-rule c = rule_linked-lands c.args.walk.now c.args.path c.args.text (sym c.goes_along.ensures ∙ c.if-not-goes_along.true)

pub returns-then-walk-eq0-clause-rule : goal.returns-then-walk-eq0-clause-rule
returns-then-walk-eq0-clause-rule c = rule_linked-tires c.args.walk.now c.args.path c.args.text (sym c.goes_along.ensures ∙ c.if-not-goes_along.false) c.if-walk-eq0.true

pub returns-clause-rule : goal.returns-clause-rule
returns-clause-rule c =
    let links : c.args.walk.now.links ≡ suc (c.args.walk.now.links - 1) = omega arith in
    let rest = c.in_ok-put_first.ensures ∙ ap (λ parts. parts ++ c.args.walk.now.rest) c.in_ok-parts.ensures.way in
    let goes = sym c.goes_along.ensures ∙ c.if-not-goes_along.false in
    let absolute = λ (b : Bool). cond b [] c.args.walk.now.here in
    elim c.if-is_absolute.branch [
      | then-is_absolute w ↦ rw w.walk-is (rule_linked-goes c.args.walk.now c.args.path c.args.text _ goes links refl (w.root.ensures ∙ ap absolute (sym (sym c.is_absolute.ensures ∙ w.if-is_absolute.true))) rest)
      | else-is_absolute w ↦ rw w.walk-is (rule_linked-goes c.args.walk.now c.args.path c.args.text _ goes links refl (ap absolute (sym (sym c.is_absolute.ensures ∙ w.if-is_absolute.false))) rest)
    ]
