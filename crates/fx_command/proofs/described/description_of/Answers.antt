use Rattle.std.proofs.Common.{ap, sym, ◌∙◌}
use Rattle.fx_spec.specs.TextViews.{written}
use Rattle.fx_spec.specs.Written.{text_tree}
use Rattle.fx_command.specs.Described.{IsUndescribed}
use Rattle.fx_command.specs.Faults.{of_check}
use Rattle.fx_base.proofs.Errors.{if_err_of}
use Rattle.fx_command.proofs.DescriptionCauses.{not_checked}
use Rattle.fx_command.proofs.described.description_of.Goals as goal

pub returns-in_err-checked-clause-refused : goal.returns-in_err-checked-clause-refused
returns-in_err-checked-clause-refused c =
    let fault = c.in_err-checked.field-0.0 in
    if_err_of (IsUndescribed c.args.text.now) c.from_residual-in_err-checked.result (of_check fault) c.from_residual-in_err-checked.ensures.1
    (not_checked c.args.text.now (written c.in_ok-description.description) fault c.in_ok-description.ensures.ok (λ other is. (c.in_ok-description.ensures.only other is).0) c.in_err-checked.ensures)

pub returns-clause-read : goal.returns-clause-read
returns-clause-read c = record {
  written = written c.in_ok-description.description;
  read = c.in_ok-description.ensures.ok;
  fits = c.in_ok-checked.ensures.1;
  means = c.in_ok-checked.ensures.0;
}

pub returns-clause-only : goal.returns-clause-only
returns-clause-only c = λ other is.
    is.means ∙ ap text_tree (sym (c.in_ok-description.ensures.only is.written is.read).0) ∙ sym c.in_ok-checked.ensures.0
