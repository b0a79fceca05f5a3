use Rattle.std.proofs.Common.{sym, ◌∙◌, ap}
use Rattle.fx_store.specs.Faults.{read_name}
use Rattle.fx_edit.proofs.Naming.{named_ok, named_fault}
use Rattle.fx_edit.proofs.nodes.name_of.Goals as goal

pub returns-in_err-read : goal.returns-in_err-read
returns-in_err-read c = named_fault c.args.text.now c.from_residual.result c.in_err-read.field-0.0 c.from_residual.ensures.1 (rw c.as_slice.ensures.value at c.in_err-read.ensures)

pub returns : goal.returns
returns c = named_ok c.args.text.now c.in_ok-read.field-0 (ap read_name (sym c.as_slice.ensures.value) ∙ c.in_ok-read.ensures)
