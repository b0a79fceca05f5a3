use Rattle.fx_table.proofs.Prelude.{length, left_of}
use Rattle.fx_table.proofs.TableTexts.{IsListing}
use Rattle.fx_table.proofs.links.write_table.Given as goal

abbrev pub decreases-writing : goal.decreases-writing
decreases-writing l = length (left_of l.store.nodes l.descent.levels.items)

abbrev pub invariant-writing : goal.invariant-writing
invariant-writing l = IsListing l.table l.store.nodes l.descent.levels.items
