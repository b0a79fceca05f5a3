use Rattle.std.proofs.Common.{Ok, sym, ◌∙◌, ap}
use Rattle.fx_store.specs.Faults.{read_link}
use Rattle.fx_edit.proofs.Holding.{link_node_told, link_fault}
use Rattle.fx_edit.proofs.nodes.link_of.Goals as goal

pub returns-in_err-read : goal.returns-in_err-read
returns-in_err-read c =
    link_fault c.args.text.now c.as_slice.result.now (c.as_slice.ensures.bytes ∙ c.in_ok-bytes.ensures.0) c.in_ok-bytes.ensures.1 c.from_residual-in_err-read.result c.in_err-read.field-0.0 c.from_residual-in_err-read.ensures.1 c.in_err-read.ensures

pub returns : goal.returns
returns c = link_node_told c.args.text.now (Ok c.in_ok-read.field-0) c.in_ok-bytes.ensures.1 (ap read_link (sym (c.as_slice.ensures.bytes ∙ c.in_ok-bytes.ensures.0)) ∙ c.in_ok-read.ensures)
