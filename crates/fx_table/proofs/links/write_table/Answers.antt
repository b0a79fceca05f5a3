use Rattle.fx_table.proofs.TableTexts.{listing_more}
use Rattle.fx_table.proofs.links.write_table.Goals as goal

pub writing-preserved : goal.writing-preserved
writing-preserved c =
    listing_more c.args.store.now.nodes c.writing.table c.add.new.self c.writing.descent.levels.items c.next.new.self.levels.items c.in-Some.entry c.writing.invariant
    c.in_ok-entry.ensures.levels (rw c.in-Some.is at c.in_ok-entry.ensures.next) c.in_ok-add.ensures
