use Rattle.fx_zip.proofs.Prelude.{◌≡◌, Ok, is_some, sym, ap, ◌∙◌, rules, Answer, Tree, tree_of, value, part_of, stop_halts, then_answers}
use Rattle.fx_expr.specs.declared.value.Value as values
use Rattle.fx_expr.specs.declared.value.Value.TheVariants.{Bool}
use Rattle.fx_zip.proofs.fetching.validate_at.Goals as goal

pub returns-in_err-value-clause-follows : goal.returns-in_err-value-clause-follows
returns-in_err-value-clause-follows g c =
    stop_halts (value c.args.path.now c.args.env.now (part_of c.args.spec.now)) (λ v. Answer (Ok (Tree.bool (is_some v)))) c.from_residual.result c.from_residual.ensures.1 c.in_err-value.ensures.follows

pub returns-clause-follows : goal.returns-clause-follows
returns-clause-follows g c =
    let tree : tree_of (Bool c.is_there.result) ≡ Tree.bool c.is_there.result = search (rules, values.the_lemmas) in
    then_answers (value c.args.path.now c.args.env.now (part_of c.args.spec.now)) (λ v. Answer (Ok (Tree.bool (is_some v)))) (Ok (Bool c.is_there.result)) c.in_ok-value.ensures.follows (ap (λ b. Answer (Ok (Tree.bool b))) (sym c.is_there.ensures) ∙ ap (λ v. Answer (Ok v)) (sym tree))
