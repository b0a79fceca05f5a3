use Rattle.fx_table.proofs.Prelude.{◌≡◌, links_alone}
use Rattle.fx_table.proofs.merging.links_of.Given as goal

abbrev pub invariant-loop-line : goal.invariant-loop-line
invariant-loop-line l = l.links.items ≡ links_alone l.yielded
