use Rattle.std.proofs.Common.{◌∙◌, ap}
use Rattle.std.proofs.lemmas.Result.{IfOk-weaker}
use Rattle.fx_store.specs.Filestore.{Table}
use Rattle.fx_spec.specs.Bases.{base_tree}
use Rattle.fx_large_commands.proofs.Standing.{base_is}
use Rattle.fx_large_commands.proofs.base.base.Goals as goal

pub returns-in-Ok : goal.returns-in-Ok
returns-in-Ok c =
    IfOk-weaker c.shared.result _ _
    (λ base made. ap base_tree made ∙ base_is c.args.number _ _ _ c.in-Ok.ensures.description (c.in-Ok.ensures.plan c.args.number c.in_ok-case.ensures.scripts) (ap (λ (s : Table). s.nodes) c.into_store-store.ensures ∙ c.in_ok-case.ensures.store))
    c.shared.ensures
