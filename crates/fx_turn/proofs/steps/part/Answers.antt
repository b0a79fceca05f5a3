use Rattle.std.proofs.Common.{ap, ◌∙◌, arith}
use Rattle.fx_turn.proofs.Moves.{splits, knows}
use Rattle.fx_turn.proofs.steps.part.Goals as goal

pub split_seat-place-requires : goal.split_seat-place-requires
split_seat-place-requires g c =
    let words = c.requires.table.1 in
    (c.requires.table.0, omega arith, splits _ _ _ _ _ c.requires.maker.0 c.requires.maker.1 c.requires.room)

pub load-requires : goal.load-requires
load-requires g c =
    let words = c.requires.table.1 in
    let e = c.split_seat-place.ensures in
    (e.3 ∙ c.requires.table.0, omega arith, knows _ _ _ _ _ _ (ap (λ m. m.0.live) e.4))
