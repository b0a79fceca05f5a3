use Rattle.fx_table.proofs.Reaching.{kept_push}
use Rattle.fx_table.proofs.linked.kept_of.Goals as goal

pub loop-change-preserved : goal.loop-change-preserved
loop-change-preserved c = kept_push c.args.store.now.nodes c.loop-change.yielded c.loop-change.kept.items c.keep.new.kept.items c.in-Some.change c.loop-change.invariant c.in_ok-keep.ensures
