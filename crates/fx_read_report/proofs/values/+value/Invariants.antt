use Rattle.std.proofs.Common.{◌≡◌, ◌+◌, ◌*◌, length}
use Rattle.fx_read_report.specs.Limits.{strict}
use Rattle.fx_read_report.specs.Values.{row_at, value_at}
use Rattle.fx_read_report.proofs.ValueLoops.{Going, sides}
use Rattle.fx_read_report.proofs.values.+value.Given as goal

abbrev pub decreases-value : goal.decreases-value
decreases-value l = 5 * l.levels

abbrev pub decreases-value_before : goal.decreases-value_before
decreases-value_before l = 5 * l.levels + 1

abbrev pub decreases-row : goal.decreases-row
decreases-row l = 5 * l.levels + 1

abbrev pub decreases-rows : goal.decreases-rows
decreases-rows l = 5 * l.levels + 2

abbrev pub decreases-pair_value : goal.decreases-pair_value
decreases-pair_value l = 5 * l.levels + 2

abbrev pub decreases-some_value : goal.decreases-some_value
decreases-some_value l = 5 * l.levels + 2

abbrev pub decreases-table_value : goal.decreases-table_value
decreases-table_value l = 5 * l.levels + 3

abbrev pub invariant-rows-loop-i : goal.invariant-rows-loop-i
invariant-rows-loop-i l = record {
  going : Going (row_at strict (value_at strict l.levels)) 93 l.most l.bytes l.i (sides l.keys.items l.values.items) l.rest;
  same : length l.values.items ≡ length l.keys.items;
}
