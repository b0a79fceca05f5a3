use Rattle.std.proofs.Common.{◌≡◌, ◌+◌, ◌<◌, ◌^◌, drop, arith}
use Rattle.fx_spec.specs.CommandTree.{block, count, count_block}
use Rattle.fx_spec.specs.Views.{command_tree}
use Rattle.fx_run.proofs.Counts.{count_at}
use Rattle.fx_run.proofs.counting.+number.Goals as goal

pub number_of_all-number_of-number-requires : goal.number_of_all-number_of-number-requires
number_of_all-number_of-number-requires t c =
    let at = count_at c.args.commands.now c.counting.i (command_tree c.command_at.result.now) c.command_at.ensures in
    let all : c.counting.number + count_block (block (drop c.counting.i c.args.commands.now)) ≡ count_block (block c.args.commands.now) = c.counting.invariant in
    let few : count (command_tree c.command_at.result.now) < 2 ^ 32 = omega (arith, at, all, c.requires.few) in
    (omega (arith, at, all), few)

pub number_of_all-overflow_add-number : goal.number_of_all-overflow_add-number
number_of_all-overflow_add-number t c =
    let at = count_at c.args.commands.now c.counting.i (command_tree c.command_at.result.now) c.command_at.ensures in
    let all : c.counting.number + count_block (block (drop c.counting.i c.args.commands.now)) ≡ count_block (block c.args.commands.now) = c.counting.invariant in
    omega (arith, at, all, c.requires.few, c.number_of-number.ensures.count)

pub number_of_all-counting-preserved : goal.number_of_all-counting-preserved
number_of_all-counting-preserved t c =
    let at = count_at c.args.commands.now c.counting.i (command_tree c.command_at.result.now) c.command_at.ensures in
    let all : c.counting.number + count_block (block (drop c.counting.i c.args.commands.now)) ≡ count_block (block c.args.commands.now) = c.counting.invariant in
    omega (arith, at, all, c.number_of-number.ensures.count)
