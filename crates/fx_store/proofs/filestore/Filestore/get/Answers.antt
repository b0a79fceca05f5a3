use Rattle.std.proofs.Common.{Some, None, ◌∙◌}
use Rattle.fx_store.proofs.Tables.{get_of_lookup}
use Rattle.fx_store.proofs.filestore.Filestore.get.Goals as goal

pub returns-in_err-get-clause-node : goal.returns-in_err-get-clause-node
returns-in_err-get-clause-node c =
    rw (c.from_residual.ensures, ← c.self.view_is) (get_of_lookup _ c.args.path.now None c.in_err-get.ensures.value)

pub returns-clause-node : goal.returns-clause-node
returns-clause-node c = rw (← c.self.view_is) (c.as_ref.ensures.value ∙ get_of_lookup _ c.args.path.now (Some _) c.in_ok-get.ensures.value)
