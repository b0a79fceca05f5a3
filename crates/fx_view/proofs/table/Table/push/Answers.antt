use Rattle.std.specs.Ordering.{eq_by_cmp}
use Rattle.fx_store.specs.Names.{path_cmp}
use Rattle.fx_view.specs.Few.{entries_in}
use Rattle.fx_view.proofs.Few.{push_rest}
use Rattle.fx_view.proofs.table.Table.push.Goals as goal

pub returns-clause-ok : goal.returns-clause-ok
returns-clause-ok g c =
    rw (← c.self.view_is, c.in_ok-put_in.ensures.ok)
    (push_rest (eq_by_cmp path_cmp) c.args.path c.args.value c.self.inside.few.items (entries_in c.self.inside.many) (rw c.self.view_is c.requires))
