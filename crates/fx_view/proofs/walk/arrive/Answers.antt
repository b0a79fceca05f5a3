use Rattle.std.proofs.Common.{◌≡◌, Some, sym, ap, subst, ◌∙◌, refl}
use Rattle.std.specs.Prelude.{IfOk}
use Rattle.fx_store.specs.declared.node.Landing.{Landing}
use Rattle.fx_store.specs.declared.node.Node.TheVariants.{Link}
use Rattle.fx_store.specs.Resolve.{missing}
use Rattle.fx_store.specs.Rule.{Ask}
use Rattle.fx_view.specs.Walks.{rule_after}
use Rattle.fx_view.proofs.WalkRules.{rule_at-none, rule_at-file, rule_at-dir, rule_at-link}
use Rattle.fx_view.proofs.walk.arrive.Goals as goal

pub returns-in-None-clause-rule : goal.returns-in-None-clause-rule
returns-in-None-clause-rule c =
    rule_at-none c.args.walk.now c.args.name c.args.node _ c.in-None.is (c.in_ok-missing-in-None.ensures ∙ ap (λ here. missing here c.args.name c.args.walk.now.rest) c.take-here.ensures)

pub returns-in-Some-File-clause-rule : goal.returns-in-Some-File-clause-rule
returns-in-Some-File-clause-rule c =
    rule_at-file c.args.walk.now c.args.name c.args.path c.requires c.args.node c.in-Some-File.bytes c.in-Some-File.field-0-1 _ (c.in-Some-File.is ∙ ap Some c.in-Some-File.field-0-is) c.at_file.ensures

pub returns-in-Some-Dir-clause-rule : goal.returns-in-Some-Dir-clause-rule
returns-in-Some-Dir-clause-rule c =
    rule_at-dir c.args.walk.now c.args.name c.args.path c.requires c.args.node c.in-Some-Dir.names _ (c.in-Some-Dir.is ∙ ap Some c.in-Some-Dir.field-0-is) refl refl refl refl

pub returns-clause-rule : goal.returns-clause-rule
returns-clause-rule c =
    let is = c.in-Some-Link.is ∙ ap Some (c.in-Some-Link.field-0-is ∙ ap Link (sym c.in-Some-Link.text-is)) in
    subst (λ (rule : Ask Landing). IfOk c.at_link.result (λ landing. rule ≡ rule_after c.at_link.new.walk landing)) (sym (rule_at-link c.args.walk.now c.args.name c.args.path c.requires c.args.node _ is)) c.at_link.ensures.rule
