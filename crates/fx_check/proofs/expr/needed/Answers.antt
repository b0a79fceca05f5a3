use Rattle.std.proofs.Common.{◌≡◌, true}
use Rattle.fx_expr.specs.Views.{shape_tree}
use Rattle.fx_check.proofs.Checking.{needed_same, needed_other}
use Rattle.fx_check.proofs.expr.needed.Goals as goal

pub returns-then-same : goal.returns-then-same
returns-then-same c = needed_same (shape_tree c.args.expected) (shape_tree c.args.found) (c.same.ensures.0 c.if-same.true)

pub returns-else-same : goal.returns-else-same
returns-else-same c = needed_other (shape_tree c.args.expected) (shape_tree c.args.found) (λ e. let same : c.same.result ≡ true = c.same.ensures.1 e in let other = c.if-same.false in cc)
