use Rattle.std.proofs.Common.{◌≡◌, ◌+◌, ◌*◌, drop}
use Rattle.fx_spec.specs.CommandTree.{block, count, count_block}
use Rattle.fx_spec.specs.Views.{command_tree}
use Rattle.fx_run.proofs.counting.+number.Given as goal

abbrev pub decreases-number_of : goal.decreases-number_of
decreases-number_of l = 2 * count (command_tree l.command.now)

abbrev pub decreases-number_of_all : goal.decreases-number_of_all
decreases-number_of_all l = 2 * count_block (block l.commands.now) + 1

abbrev pub invariant-number_of_all-counting : goal.invariant-number_of_all-counting
invariant-number_of_all-counting l = l.number + count_block (block (drop l.i l.commands)) ≡ count_block (block l.commands)
