use Rattle.std.proofs.Common.{sym, ap, subst, ◌∙◌}
use Rattle.fx_store.specs.declared.node.Landing.{Landing}
use Rattle.fx_store.specs.Rule.{Ask}
use Rattle.fx_view.specs.Own.{own_at}
use Rattle.fx_view.specs.Steps.{StepsFrom}
use Rattle.fx_view.specs.Walks.{rule_then}
use Rattle.fx_view.proofs.resolving.step.Goals as goal

pub returns-in-Looks-clause-rule : goal.returns-in-Looks-clause-rule
returns-in-Looks-clause-rule g c = λ n.
    let is = c.in_ok-landing.ensures.rule ∙ ap (rule_then c.advance.new.walk) c.in-Looks.is in
    subst (λ (rule : Ask Landing). StepsFrom g.R.Reader.meaning (own_at c.args.overlay.now) (c.args.reader.now, n) (c.look_into.new.reader, n) rule c.look_into.new.walk c.look_into.result) (sym is) (c.look_into.ensures.rule n)
