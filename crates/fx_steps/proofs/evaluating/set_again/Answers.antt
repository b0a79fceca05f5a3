use Rattle.fx_steps.proofs.Prelude.{◌≡◌, Some, Ok, sym, ap, ◌∙◌, rules, option_copied}
use Rattle.fx_steps.proofs.evaluating.set_again.Goals as goal

pub returns-in_ok-copy-in-Some-clause-set : goal.returns-in_ok-copy-in-Some-clause-set
returns-in_ok-copy-in-Some-clause-set g c =
    let is : option_copied c.args.kept ≡ Some c.in-Some.set.now = search rules in
    ap Some (c.requires.kept c.in-Some.set.now is ∙ ap Ok (sym c.in_ok-copy-in-Some.ensures))
