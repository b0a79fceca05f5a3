use Rattle.std.proofs.Common.{◌≡◌, ◌+◌, ◌-◌, ◌/◌, true, ap, sym, ◌∙◌, arith}
use Rattle.std.specs.declared.cmp.Ordering.TheVariants.{Less}
use Rattle.std.specs.Ordering.{is_gt}
use Rattle.fx_base.proofs.Searching.{lower, after_Less, at_read}
use Rattle.fx_base.proofs.chunks.Chunks.search.Goals as goal

pub loop-size-preserved-then-is_gt : goal.loop-size-preserved-then-is_gt
loop-size-preserved-then-is_gt g c =
    let xs = c.args.self.now in
    let base = c.loop-size.base in
    let size = c.loop-size.size in
    let middle = base + size / 2 in
    let ord = (λ (y : g.row.T.Denot). g.T.Ord.cmp y c.args.x.now) in
    (omega arith, omega arith, lower ord xs base size middle (size - size / 2) (omega arith) c.loop-size.invariant.2 (at_read xs (λ y. is_gt (ord y) ≡ true) middle c.item.result.now (omega arith) c.item.ensures (ap is_gt (sym c.cmp.ensures) ∙ sym c.if-is_gt.ensures)))

pub returns-in-Less-clause-position : goal.returns-in-Less-clause-position
returns-in-Less-clause-position g c =
    let xs = c.args.self.now in
    let base = c.loop-size.base in
    let size = c.loop-size.size in
    let ord = (λ (y : g.row.T.Denot). g.T.Ord.cmp y c.args.x.now) in
    let at = at_read xs (λ y. ord y ≡ Less) base c.item-2.result.now (omega arith) c.item-2.ensures (sym c.in-Less.ensures) in
    after_Less ord xs base size (omega arith) (omega arith) c.loop-size.invariant.2 at
