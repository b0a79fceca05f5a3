use Rattle.std.proofs.Common.{sym, ◌∙◌}
use Rattle.fx_command.specs.Faults.{of_parse, of_check}
use Rattle.fx_command.specs.Scripted.{IsUnscripted}
use Rattle.fx_base.proofs.Errors.{if_err_of}
use Rattle.fx_command.proofs.ScriptCauses.{not_parsed, not_checked}
use Rattle.fx_command.proofs.scripted.script_of.Goals as goal

pub returns-in_err-txns-clause-refused : goal.returns-in_err-txns-clause-refused
returns-in_err-txns-clause-refused c =
    let fault = c.in_err-txns.field-0.0 in
    if_err_of (IsUnscripted c.args.text.now c.args.before) c.from_residual.result (of_parse fault) c.from_residual.ensures.1
    (not_parsed c.args.text.now c.args.before fault (λ txns is. (c.in_err-txns.ensures.only txns is).1) c.in_err-txns.ensures.fault)

pub returns-in_err-script-clause-refused : goal.returns-in_err-script-clause-refused
returns-in_err-script-clause-refused c =
    let fault = c.in_err-script.field-0.0 in
    if_err_of (IsUnscripted c.args.text.now c.args.before) c.from_residual-in_err-script.result (of_check fault) c.from_residual-in_err-script.ensures.1
    (not_checked c.args.text.now c.args.before c.in_ok-txns.txns fault c.in_ok-txns.ensures.ok (λ other is. (c.in_ok-txns.ensures.only other is).0) c.in_err-script.ensures)

pub returns-clause-only : goal.returns-clause-only
returns-clause-only c = λ others is. sym (c.in_ok-txns.ensures.only others is.read).0 ∙ sym c.in_ok-script.ensures.0
