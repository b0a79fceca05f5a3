use Rattle.std.proofs.Common.{◌≡◌, ◌+◌, ◌*◌, ◌-◌, length}
use Rattle.fx_parse.specs.Reader.{kinds}
use Rattle.fx_source_parse.specs.Scripts.Reader.{many_at, items_at, read_command}
use Rattle.fx_source_parse.proofs.script.command.+command.Given as goal

abbrev pub decreases-command_at : goal.decreases-command_at
decreases-command_at l = 8 * l.left

abbrev pub decreases-added_at : goal.decreases-added_at
decreases-added_at l = 8 * l.left + 1

abbrev pub decreases-many_at : goal.decreases-many_at
decreases-many_at l = 8 * l.left + 2

abbrev pub decreases-braced_at : goal.decreases-braced_at
decreases-braced_at l = 8 * l.left + 3

abbrev pub decreases-branch_at : goal.decreases-branch_at
decreases-branch_at l = 8 * l.left + 4

abbrev pub decreases-each_at : goal.decreases-each_at
decreases-each_at l = 8 * l.left + 4

abbrev pub decreases-form_at : goal.decreases-form_at
decreases-form_at l = 8 * l.left + 5

abbrev pub invariant-many_at-loop-i : goal.invariant-many_at-loop-i
invariant-many_at-loop-i l = many_at (read_command l.left) (kinds l.tokens) ≡ items_at (read_command l.left) (length l.tokens - l._i) l.commands (kinds l.rest)
