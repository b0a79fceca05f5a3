use Rattle.std.proofs.Common.{◌+◌, ◌*◌}
use Rattle.fx_source_parse.proofs.spec.form.+spec.Given as goal

abbrev pub decreases-part_at : goal.decreases-part_at
decreases-part_at l = 4 * l.left + 1

abbrev pub decreases-focus_at : goal.decreases-focus_at
decreases-focus_at l = 4 * l.left + 2

abbrev pub decreases-pair_at : goal.decreases-pair_at
decreases-pair_at l = 4 * l.left + 2

abbrev pub decreases-comp_at : goal.decreases-comp_at
decreases-comp_at l = 4 * l.left + 2

abbrev pub decreases-opt_at : goal.decreases-opt_at
decreases-opt_at l = 4 * l.left + 2

abbrev pub decreases-form_at : goal.decreases-form_at
decreases-form_at l = 4 * l.left + 3

abbrev pub decreases-spec_at : goal.decreases-spec_at
decreases-spec_at l = 4 * l.left
