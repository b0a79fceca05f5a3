use Rattle.fx_view.proofs.Lookups.{placed_is}
use Rattle.fx_view.proofs.table.place_value.Goals as goal

pub returns : goal.returns
returns c = placed_is c.args.map.now.entries c.args.i c.index_mut.result.now c.args.position c.index_mut.ensures.value
