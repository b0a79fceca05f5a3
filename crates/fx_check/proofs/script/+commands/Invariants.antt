use Rattle.std.proofs.Common.{◌≡◌, ◌≤◌, ◌+◌, ◌*◌, map}
use Rattle.std.specs.Slice.Iter.{iter_rest}
use Rattle.fx_spec.specs.CommandTree.{block, count, commands_size}
use Rattle.fx_spec.specs.Views.{command_tree}
use Rattle.fx_check.specs.Checked.{checked_block}
use Rattle.fx_check.proofs.script.+commands.Given as goal

abbrev pub decreases-check_command : goal.decreases-check_command
decreases-check_command l = 3 * count (command_tree l.command.now)

abbrev pub decreases-check_block : goal.decreases-check_block
decreases-check_block l = 3 * commands_size l.commands.now + 1

abbrev pub decreases-check_inner : goal.decreases-check_inner
decreases-check_inner l = 3 * commands_size l.commands.now + 2

abbrev pub invariant-check_block-loop-command : goal.invariant-check_block-loop-command
invariant-check_block-loop-command l = record {
  checked : checked_block l.initial.scope (block l.commands) ≡ checked_block l.scope (block (map command_tree (iter_rest l.command-iterator)));
  few : commands_size (map command_tree (iter_rest l.command-iterator)) ≤ commands_size l.commands;
}
