use Rattle.std.proofs.Common.{◌∷◌, Some, sym, ap, ◌∙◌, subst, arith}
use Rattle.atomic_table.specs.Table.{rest}
use Rattle.fx_turn.specs.Places.{IsGiven}
use Rattle.fx_turn.specs.Plays.{carried}
use Rattle.fx_turn.proofs.Moves.{posts, releases}
use Rattle.fx_turn.proofs.steps.put_back.Goals as goal

pub store-requires : goal.store-requires
store-requires g c =
    let words = c.requires.table.1 in
    let e = c.exchange.ensures in
    let out = c.requires.out in
    let holds = ap (λ m. m.1) e.3 ∙ ap (λ l. (0, Some c.args.kept) ∷ rest l) out.holds in
    let same = ap (λ m. m.0) e.3 in
    (e.0 ∙ c.requires.table.0, omega arith, posts _ _ _ _ _ _ _ c.args.kept (ap (λ v. v.live) same ∙ out.live) (ap (λ v. v.in_turn) same ∙ out.turn) holds (subst (λ v. IsGiven g.K.Kept.shell v (g.K.Kept.history c.args.kept)) (sym same) c.requires.history) c.length-length.ensures)

pub store-requires-2 : goal.store-requires-2
store-requires-2 g c =
    let words = c.requires.table.1 in
    let e = c.exchange.ensures in
    let out = c.requires.out in
    let holds = ap (λ m. m.1) e.3 ∙ ap (λ l. (0, Some c.args.kept) ∷ rest l) out.holds in
    let same = ap (λ m. m.0) e.3 in
    let s = c.store.ensures in
    let after = ap (λ m. m.0) s.2 in
    (s.0 ∙ e.0 ∙ c.requires.table.0, omega arith, releases _ _ _ _ _ _ c.args.kept (ap (λ v. v.live) after ∙ ap (λ v. v.live) same ∙ out.live) (ap (λ v. v.in_turn) after ∙ ap (λ v. v.in_turn) same ∙ out.turn) (ap (λ m. m.1) s.2 ∙ holds) (ap (λ v. v.base) after ∙ ap (λ v. v.base) same ∙ c.requires.base) (ap (λ v. v.seen) after ∙ ap (carried g.K.Kept.history) holds))
