use Rattle.fx_table.proofs.Prelude.{rules, ◌≡◌, Some, subst, get, Dir, EntersDirectory}
use Rattle.fx_table.proofs.Descents.{entered_left}
use Rattle.fx_table.proofs.descent.enter.Goals as goal

pub returns-in_ok-push-in-Some-Dir-clause-left : goal.returns-in_ok-push-in-Some-Dir-clause-left
returns-in_ok-push-in-Some-Dir-clause-left c =
    let here : get c.args.store.now.nodes c.args.path.now ≡ Some (Dir c.in-Some-Dir.names) = search rules in
    entered_left c.args.store.now.nodes c.args.levels.now.items c.push.new.levels.items c.args.path.now c.in-Some-Dir.names here (subst (λ p. EntersDirectory c.args.levels.now.items p c.in-Some-Dir.names c.push.new.levels.items) c.in_ok-directory-in-Some-Dir.ensures c.in_ok-push-in-Some-Dir.ensures)
