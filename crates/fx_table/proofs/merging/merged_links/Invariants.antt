use Rattle.fx_table.proofs.Prelude.{links_in, MakeLinks}
use Rattle.fx_table.proofs.Mixing.{IsMerging}
use Rattle.fx_table.proofs.merging.merged_links.Given as goal

abbrev pub invariant-loop-change : goal.invariant-loop-change
invariant-loop-change l = record {
  made : MakeLinks l.rest.items;
  merging : IsMerging l.fn.found.items (links_in l.fn.links.items) l.yielded l.rest.items l.all.items;
}
