use Rattle.fx_zip.proofs.Prelude.{◌≡◌, Ok, sym, ap, rules, Answer, Tree, tree_of, exists, stop_halts, then_answers}
use Rattle.fx_expr.specs.declared.value.Value as values
use Rattle.fx_expr.specs.declared.value.Value.TheVariants.{Bool}
use Rattle.fx_zip.proofs.fetching.entry_at.Goals as goal

pub returns-in_err-there : goal.returns-in_err-there
returns-in_err-there g c = record {
  follows = λ env part.
      stop_halts (exists c.args.path.now) (λ there. Answer (Ok (Tree.bool there))) c.from_residual.result c.from_residual.ensures.1 c.in_err-there.ensures.follows;
}

pub returns : goal.returns
returns g c =
    let tree : tree_of (Bool c.in_ok-there.there) ≡ Tree.bool c.in_ok-there.there = search (rules, values.the_lemmas) in
    record {
      follows = λ env part.
          then_answers (exists c.args.path.now) (λ there. Answer (Ok (Tree.bool there))) (Ok (Bool c.in_ok-there.there)) c.in_ok-there.ensures.follows (ap (λ v. Answer (Ok v)) (sym tree));
    }
