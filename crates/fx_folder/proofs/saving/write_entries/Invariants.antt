use Rattle.fx_folder.proofs.Prelude.{length, left_of, levels_of, IsListing}
use Rattle.fx_folder.proofs.Writes.{IsWriting}
use Rattle.fx_folder.proofs.saving.write_entries.Given as goal

abbrev pub decreases-writing : goal.decreases-writing
decreases-writing g l = length (left_of l.store.nodes (levels_of l.descent))

abbrev pub invariant-writing : goal.invariant-writing
invariant-writing g l = IsWriting (g.H.Host.view l.initial.host) (g.H.Host.view l.host) l.folder l.store.nodes (left_of l.store.nodes (levels_of l.descent))
    × IsListing l.table l.store.nodes (levels_of l.descent)
