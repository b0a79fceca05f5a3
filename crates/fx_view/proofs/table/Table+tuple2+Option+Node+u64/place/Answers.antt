use Rattle.std.proofs.Common.{◌∙◌, ◌++◌, ap, arith}
use Rattle.fx_view.specs.Few.{entries_in}
use Rattle.fx_view.specs.ReadList.{ReadList}
use Rattle.fx_view.proofs.Few.{placed_first, placed_rest}
use Rattle.fx_view.proofs.table.Table+tuple2+Option+Node+u64.place.Goals as goal

pub returns-then-i-few : goal.returns-then-i-few
returns-then-i-few c = rw (← c.self.view_is) (placed_first c.args.position c.self.inside.few.items (entries_in c.self.inside.many) c.args.i c.index_mut.result.now (omega arith) c.index_mut.ensures.value)

pub returns-else-i-few : goal.returns-else-i-few
returns-else-i-few c =
    rw (← c.self.view_is)
    (ap (λ (es : ReadList). c.self.inside.few.items ++ es) c.place_at.ensures
    ∙ placed_rest c.args.position c.self.inside.few.items (entries_in c.self.inside.many) c.args.i _ (omega arith))
