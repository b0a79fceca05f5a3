use Rattle.std.proofs.Common.{◌≡◌, ◌∙◌, sym, ap, subst, Ok, rules}
use Rattle.std.specs.List.{filter}
use Rattle.fx_expr.specs.declared.expr.Expr.{the_lemmas}
use Rattle.fx_expr.specs.Eval.{Outcome, eval_of, then_on, names_in}
use Rattle.fx_expr.specs.ExprTree.{ExprTree}
use Rattle.fx_expr.specs.Gives.{Gives}
use Rattle.fx_expr.specs.Globs.{glob_matches}
use Rattle.fx_expr.specs.Tree.{Tree}
use Rattle.fx_expr.specs.Views.{expr_tree, tree_of}
use Rattle.fx_eval.proofs.evaluation.+evaluated.Goals as goal

pub returns-in_ok-evaluated-in-Only : goal.returns-in_ok-evaluated-in-Only
returns-in_ok-evaluated-in-Only t c =
    let env = c.args.env.now in
    let e : expr_tree c.args.expr.now ≡ ExprTree.only (expr_tree c.in-Only.a.value) c.in-Only.glob = search (rules, the_lemmas) in
    let value : eval_of env (expr_tree c.in-Only.a.value) ≡ Ok (tree_of c.in_ok-evaluated-in-Only.field-0) = ap (λ x. eval_of env (expr_tree x)) (sym c.deref-in-Only.ensures) ∙ c.in_ok-evaluated-in-Only.ensures in
    subst (λ (o : Outcome). Gives tree_of c.matching.result o) (sym (ap (λ x. eval_of env x) e ∙ ap (λ o. then_on o λ v. Ok (Tree.names (filter (λ x. glob_matches c.in-Only.glob x) (names_in v)))) value)) c.matching.ensures
