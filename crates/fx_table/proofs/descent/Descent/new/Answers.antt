use Rattle.fx_table.proofs.Descents.{starts}
use Rattle.fx_table.proofs.descent.Descent.new.Goals as goal

pub returns-clause-left : goal.returns-clause-left
returns-clause-left c =
    starts c.args.store.now.nodes c.enter.ensures.whole c.enter.new.levels.items (rw (c.root.ensures, c.new-levels.ensures.items) at c.in_ok-enter.ensures.left)
