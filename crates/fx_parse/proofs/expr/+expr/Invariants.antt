use Rattle.std.proofs.Common.{◌+◌, ◌*◌}
use Rattle.fx_parse.proofs.expr.+expr.Given as goal

abbrev pub decreases-second_at : goal.decreases-second_at
decreases-second_at l = 4 * l.left + 1

abbrev pub decreases-bracket_at : goal.decreases-bracket_at
decreases-bracket_at l = 4 * l.left + 2

abbrev pub decreases-before_at : goal.decreases-before_at
decreases-before_at l = 4 * l.left + 1

abbrev pub decreases-choice_at : goal.decreases-choice_at
decreases-choice_at l = 4 * l.left + 1

abbrev pub decreases-form_at : goal.decreases-form_at
decreases-form_at l = 4 * l.left + 3

abbrev pub decreases-expr_at : goal.decreases-expr_at
decreases-expr_at l = 4 * l.left
