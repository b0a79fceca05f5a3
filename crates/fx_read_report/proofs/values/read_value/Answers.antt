use Rattle.fx_expr.specs.Views.{tree_of}
use Rattle.fx_read_report.specs.declared.values.TheConstants.{VALUE_LEVELS}
use Rattle.fx_read_report.proofs.ValueFits.{found_fits}
use Rattle.fx_read_report.proofs.values.read_value.Goals as goal

pub returns-in-Some-default-empty-clause-fit : goal.returns-in-Some-default-empty-clause-fit
returns-in-Some-default-empty-clause-fit c =
    found_fits VALUE_LEVELS c.args.bytes.now (tree_of c.in-Some-default-empty.value) c.in-Some-default-empty.field-0-1.now (rw c.in-Some-default-empty.is at c.in_ok-value.ensures)
