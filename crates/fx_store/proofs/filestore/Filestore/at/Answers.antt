use Rattle.std.proofs.Common.{ap, ◌∙◌, option_map}
use Rattle.fx_store.proofs.Tables.{place_of_entry}
use Rattle.fx_store.proofs.filestore.Filestore.at.Goals as goal

pub returns-in_err-node-clause-place : goal.returns-in_err-node-clause-place
returns-in_err-node-clause-place c =
    rw (c.from_residual-in_err-node.ensures, ← c.self.view_is)
    (ap (option_map (λ n. (c.in_ok-path.path.now, n))) c.in_err-node.ensures.value ∙ place_of_entry _ c.args.i c.in_ok-path.path.now c.in_ok-path.slot.now c.in_ok-path.ensures.entry c.in_ok-path.ensures.value)

pub returns-clause-place : goal.returns-clause-place
returns-clause-place c =
    rw (← c.self.view_is)
    (ap (option_map (λ n. (c.in_ok-path.path.now, n))) c.in_ok-node.ensures.value ∙ place_of_entry _ c.args.i c.in_ok-path.path.now c.in_ok-path.slot.now c.in_ok-path.ensures.entry c.in_ok-path.ensures.value)
