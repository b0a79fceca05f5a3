use Rattle.std.proofs.Common.{◌∷◌, Some, sym, ap, ◌∙◌, arith}
use Rattle.atomic_table.specs.Table.{rest}
use Rattle.fx_turn.proofs.Moves.{tries}
use Rattle.fx_turn.proofs.steps.try_hold.Goals as goal

pub compare_exchange-requires : goal.compare_exchange-requires
compare_exchange-requires g c =
    let words = c.requires.table.1 in
    (c.requires.table.0, omega arith, tries _ _ _ _ _ _ c.requires.idle)

pub exchange-requires : goal.exchange-requires
exchange-requires g c =
    let e = c.compare_exchange.ensures in
    let t = e.2.0 c.if-compare_exchange-eq0.true in
    let took = ap (λ m. m.1) t.1 in
    (e.0 ∙ c.requires.table.0, (Some t.0, took ∙ ap (λ l. (0, Some t.0) ∷ l) (sym (ap rest took))))
