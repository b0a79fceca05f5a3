use Rattle.std.proofs.Common.{◌≡◌, Some, rules}
use Rattle.std.specs.Option.{option_copied}
use Rattle.fx_steps.proofs.Entering.{chooses}
use Rattle.fx_steps.proofs.moving.chosen.Goals as goal

pub returns-in_ok-copy-in-Some-3 : goal.returns-in_ok-copy-in-Some-3
returns-in_ok-copy-in-Some-3 c =
    λ p.
    let here : option_copied c.args.choice ≡ Some c.in-Some.text.now = search rules in
    chooses p c.args.name.now c.in-Some.text.now c.args.set.now (option_copied c.args.choice) (record { name = c.in_ok-copy-in-Some.field-0; text = c.in_ok-copy-in-Some-2.field-0; set = c.in_ok-copy-in-Some-3.field-0 })
    here c.in_ok-copy-in-Some.ensures c.in_ok-copy-in-Some-2.ensures c.in_ok-copy-in-Some-3.ensures
