use Rattle.fx_expr.specs.Views.{expr_tree, tree_of}
use Rattle.fx_run.proofs.Scoped.{scopes_bind}
use Rattle.fx_run.proofs.binding.bind.Goals as goal

pub returns-clause-scope : goal.returns-clause-scope
returns-clause-scope g c = scopes_bind c.args.work.now.variables c.bind_value.new.env c.args.word.now (expr_tree c.args.expr.now) (tree_of c.in_ok-value.value) c.in_ok-value.ensures.value c.in_ok-bind_value.ensures.bound
