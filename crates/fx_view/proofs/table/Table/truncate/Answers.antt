use Rattle.std.proofs.Common.{sym, arith}
use Rattle.fx_view.specs.Few.{entries_in}
use Rattle.fx_view.proofs.Few.{take_joined}
use Rattle.fx_view.proofs.table.Table.truncate.Goals as goal

pub returns : goal.returns
returns g c = rw (← c.self.view_is, c.truncate.ensures.items, c.cut.ensures) (sym (take_joined c.self.inside.few.items (entries_in c.self.inside.many) c.args.len _ (omega arith)))
