use Rattle.std.proofs.Common.{◌≡◌, ◌∙◌, ◌+◌, List, Ok, map, ap, sym, subst, take, arith}
use Rattle.std.specs.Slice.Iter.{iter_rest}
use Rattle.fx_spec.specs.CommandTree.{CommandTree, block, count, commands_size}
use Rattle.fx_spec.specs.Views.{command_tree}
use Rattle.fx_spec.specs.WellShaped.{Scope}
use Rattle.fx_check.specs.Faults.{OrFault}
use Rattle.fx_check.specs.Gives.{IsFault}
use Rattle.fx_check.specs.Checked.{checked_command, checked_block}
use Rattle.fx_check.proofs.Checking.{cut_back, given, fault_then, handed}
use Rattle.fx_check.proofs.script.+commands.Goals as goal

pub check_inner-returns : goal.check_inner-returns
check_inner-returns t c =
    cut_back c.args.scope.now (block c.args.commands.now) c.check_block.new.scope c.in_ok-check_block.ensures
    ∙ ap (λ s. Ok s) (ap (λ n. take n c.check_block.new.scope) (sym c.len-around.ensures) ∙ sym c.cut.ensures)

pub check_block-check_command-requires : goal.check_block-check_command-requires
check_block-check_command-requires t c =
    let size : commands_size (map command_tree (iter_rest c.loop-command.command-iterator)) ≡ count (command_tree c.in-Some.command.now) + commands_size (map command_tree (iter_rest c.next.new.self)) =
    ap (λ cs. commands_size (map command_tree cs)) c.in-Some.ensures.steps in
    (omega (arith, size, c.loop-command.invariant.few), tt)

pub check_block-returns-in_err-check_command : goal.check_block-returns-in_err-check_command
check_block-returns-in_err-check_command t c =
    let g : Scope = c.loop-command.scope in
    let cs : List CommandTree = map command_tree (iter_rest c.next.new.self) in
    let fault = c.in_err-check_command.field-0.0 in
    handed _ c.from_residual.result fault _ c.from_residual.ensures.1
    (subst (λ (o : OrFault Scope). IsFault fault o) (sym (c.loop-command.invariant.checked ∙ ap (λ cs. checked_block g (block (map command_tree cs))) c.in-Some.ensures.steps))
    (fault_then fault (checked_command g (command_tree c.in-Some.command.now)) (λ inner. checked_block inner (block cs)) c.in_err-check_command.ensures))

pub check_block-loop-command-preserved : goal.check_block-loop-command-preserved
check_block-loop-command-preserved t c =
    let g : Scope = c.loop-command.scope in
    let cs : List CommandTree = map command_tree (iter_rest c.next.new.self) in
    let size : commands_size (map command_tree (iter_rest c.loop-command.command-iterator)) ≡ count (command_tree c.in-Some.command.now) + commands_size cs =
    ap (λ cs. commands_size (map command_tree cs)) c.in-Some.ensures.steps in
    record {
      checked =
          c.loop-command.invariant.checked ∙ ap (λ cs. checked_block g (block (map command_tree cs))) c.in-Some.ensures.steps
          ∙ given (checked_command g (command_tree c.in-Some.command.now)) (λ inner. checked_block inner (block cs)) c.check_command.new.scope c.in_ok-check_command.ensures;
      few = omega (arith, size, c.loop-command.invariant.few);
    }
