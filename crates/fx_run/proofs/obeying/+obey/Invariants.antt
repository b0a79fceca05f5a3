use Rattle.std.proofs.Common.{◌+◌, ◌*◌}
use Rattle.fx_spec.specs.CommandTree.{block, count, count_block}
use Rattle.fx_spec.specs.Views.{command_tree}
use Rattle.fx_run.proofs.Cycles.{IsObeying, IsTurning}
use Rattle.fx_run.proofs.obeying.+obey.Given as goal

abbrev pub decreases-obey : goal.decreases-obey
decreases-obey g l = 5 * count (command_tree l.command.now)

abbrev pub decreases-obey_all : goal.decreases-obey_all
decreases-obey_all g l = 5 * count_block (block l.commands.now) + 1

abbrev pub decreases-within_block : goal.decreases-within_block
decreases-within_block g l = 5 * count_block (block l.commands.now) + 2

abbrev pub decreases-choose : goal.decreases-choose
decreases-choose g l = 5 * (count_block (block l.yes.now) + count_block (block l.no.now)) + 3

abbrev pub decreases-each : goal.decreases-each
decreases-each g l = 5 * count_block (block l.body.now) + 4

abbrev pub decreases-repeat : goal.decreases-repeat
decreases-repeat g l = 5 * count_block (block l.body.now) + 3

abbrev pub decreases-turn : goal.decreases-turn
decreases-turn g l = 5 * count_block (block l.body.now) + 2

abbrev pub invariant-obey_all-obeying : goal.invariant-obey_all-obeying
invariant-obey_all-obeying g l = IsObeying g.R.Reader.meaning l.initial.work l.number l.commands l.i l.next l.work

abbrev pub invariant-repeat-repeating : goal.invariant-repeat-repeating
invariant-repeat-repeating g l = IsTurning g.R.Reader.meaning l.initial.work l.number (block l.body) l.word l.texts l.i l.work
