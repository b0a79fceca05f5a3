use Rattle.std.proofs.Common.{rules, ◌≡◌, Some, ◌∙◌}
use Rattle.std.proofs.lemmas.Result.{on_ok_weaker}
use Rattle.std.specs.Prelude.{slice_get}
use Rattle.fx_large_commands.proofs.Standing.{text_is, text_there, script_count, one_fits, goes_on}
use Rattle.fx_large_commands.proofs.base.add_script.Goals as goal

pub unreachable-requires : goal.unreachable-requires
unreachable-requires c = text_there c.args.texts.now c.args.k c.requires.generated c.requires.small (search rules)

pub script-requires-clause-text : goal.script-requires-clause-text
script-requires-clause-text c =
    let here : slice_get c.args.texts.now c.args.k ≡ Some c.in-Some.text.now = search rules in
    let generated = c.requires.generated in
    (generated.0, c.args.k, c.requires.small, c.as_slice.ensures.value ∙ text_is c.args.texts.now c.in-Some.text.now c.args.k generated.0 generated.1 c.requires.small here)

pub add-requires : goal.add-requires
add-requires c =
    let here : slice_get c.args.texts.now c.args.k ≡ Some c.in-Some.text.now = search rules in
    let was = c.requires.before in
    let long = script_count c.args.texts.now c.args.k c.in-Some.text.now c.in_ok-script.script c.requires.generated c.requires.small here (λ number k small is. c.in_ok-script.ensures.script number k small (c.as_slice.ensures.value ∙ is)) in
    one_fits c.args.plan.now c.in_ok-script.script c.args.k was.planned was.count was.sum c.requires.small long c.in_ok-script.ensures.shaped

pub returns : goal.returns
returns c =
    let here : slice_get c.args.texts.now c.args.k ≡ Some c.in-Some.text.now = search rules in
    on_ok_weaker c.add.result
    (λ added. goes_on c.args.texts.now c.args.k c.args.plan.now c.add.new.self c.in-Some.text.now c.in_ok-script.script c.requires.generated c.requires.small here c.requires.before added c.in_ok-script.ensures.shaped
    (λ number k small is. c.in_ok-script.ensures.script number k small (c.as_slice.ensures.value ∙ is))) c.add.ensures.ok
