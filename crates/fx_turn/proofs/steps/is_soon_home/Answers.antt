use Rattle.std.proofs.Common.{ap, ◌∙◌, arith}
use Rattle.fx_turn.proofs.Moves.{knows}
use Rattle.fx_turn.proofs.steps.is_soon_home.Goals as goal

pub load-requires : goal.load-requires
load-requires g c =
    let words = c.requires.table.1 in
    (c.loop.invariant.same.0 ∙ c.requires.table.0, omega arith, knows _ _ _ _ _ _ (ap (λ m. m.0.live) c.loop.invariant.view ∙ c.requires.idle.live))
