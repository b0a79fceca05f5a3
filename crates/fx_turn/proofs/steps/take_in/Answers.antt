use Rattle.std.proofs.Common.{ap, ◌∙◌, arith}
use Rattle.fx_turn.proofs.Moves.{joined_seats, learns}
use Rattle.fx_turn.proofs.steps.take_in.Goals as goal

pub join_seat-requires : goal.join_seat-requires
join_seat-requires g c =
    let words = c.requires.table.0.1 in
    let idle = c.requires.idle in
    (c.requires.table.0.0, c.requires.table.1.0, idle.none, omega arith, joined_seats _ _ _ _ _ _ _ c.requires.maker.0 c.requires.maker.1 idle.live idle.numbered idle.idle)

pub load-requires : goal.load-requires
load-requires g c =
    let words = c.requires.table.0.1 in
    let e = c.join_seat.ensures in
    (e.0 ∙ c.requires.table.0.0, omega arith, learns _ _ _ _ _ _ (ap (λ m. m.0.live) e.2 ∙ c.requires.maker.0) (ap (λ m. m.0.number) e.2 ∙ c.requires.maker.1))
