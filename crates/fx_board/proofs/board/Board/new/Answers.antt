use Rattle.std.proofs.Common.{refl, subst}
use Rattle.std.specs.FinMap.{get}
use Rattle.fx_store.specs.Whole.{IsWhole}
use Rattle.fx_spec.specs.declared.base.Base.{Base}
use Rattle.fx_spec.specs.Plans.{IsPlan}
use Rattle.fx_board.proofs.Settling.{starts}
use Rattle.fx_board.proofs.board.Board.new.Goals as goal

pub invariant_of-result : goal.invariant_of-result
invariant_of-result c =
    rw (c.in_ok-new.ensures.ok, c.new.ensures.items, c.new-2.ensures.empty)
    (starts c.args.base.value c.args.base.value.loaded.nodes (subst (λ (b : Base). IsWhole (get b.loaded.nodes)) c.deref-2.ensures c.places-whole.ensures.table.whole) (subst (λ (b : Base). IsPlan b.plan) c.deref.ensures c.len.ensures.plan) refl)
