use Rattle.std.proofs.Common.{sym, ◌∙◌}
use Rattle.std.specs.Ordering.{eq_by_cmp}
use Rattle.fx_store.specs.Names.{path_cmp}
use Rattle.fx_view.proofs.Few.{sought_here, sought_next}
use Rattle.fx_view.proofs.table.place_in.Goals as goal

pub returns-then-eq-clause-place : goal.returns-then-eq-clause-place
returns-then-eq-clause-place g c = sought_here (eq_by_cmp path_cmp c.args.path.now) c.args.few.now c.loop-i.i c.index-few-i.result c.loop-i.invariant c.loop-i-test.true c.index-few-i.is (sym c.eq.ensures ∙ c.if-eq.true)

pub loop-i-preserved : goal.loop-i-preserved
loop-i-preserved g c = sought_next (eq_by_cmp path_cmp c.args.path.now) c.args.few.now c.loop-i.i c.index-few-i.result c.loop-i.invariant c.loop-i-test.true c.index-few-i.is (sym c.eq.ensures ∙ c.if-eq.false)
