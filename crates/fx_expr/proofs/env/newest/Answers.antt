use Rattle.std.proofs.Common.{sym}
use Rattle.fx_expr.specs.Views.{entry_tree}
use Rattle.fx_expr.proofs.Bound.{newest_at}
use Rattle.fx_expr.proofs.env.newest.Goals as goal

pub returns-then-eq-clause-place : goal.returns-then-eq-clause-place
returns-then-eq-clause-place c =
    newest_at entry_tree c.args.bindings.now c.loop-i.i c.index-bindings-i.result c.args.word.now c.loop-i-test.true c.loop-i.invariant.0 c.index-bindings-i.is c.loop-i.invariant.1
    (rw (← c.index-bindings-i.is) at (sym c.if-eq.ensures))
