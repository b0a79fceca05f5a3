use Rattle.std.proofs.Common.{◌+◌, ◌*◌}
use Rattle.fx_parse.proofs.shape.+shape.Given as goal

abbrev pub decreases-pair_at : goal.decreases-pair_at
decreases-pair_at l = 4 * l.left + 1

abbrev pub decreases-opt_at : goal.decreases-opt_at
decreases-opt_at l = 4 * l.left + 1

abbrev pub decreases-table_at : goal.decreases-table_at
decreases-table_at l = 4 * l.left + 1

abbrev pub decreases-shape_form_at : goal.decreases-shape_form_at
decreases-shape_form_at l = 4 * l.left + 3

abbrev pub decreases-shape_at : goal.decreases-shape_at
decreases-shape_at l = 4 * l.left
