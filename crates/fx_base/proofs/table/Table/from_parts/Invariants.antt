use Rattle.std.proofs.Common.{◌≡◌, ◌++◌, length}
use Rattle.fx_base.specs.Chunks.{from_last}
use Rattle.fx_base.proofs.table.Table.from_parts.Given as goal

abbrev pub invariant-joining : goal.invariant-joining
invariant-joining g l = l.table ++ from_last (λ part. part.items) l.left.items ≡ from_last (λ part. part.items) l.fn.parts.items

abbrev pub decreases-joining : goal.decreases-joining
decreases-joining g l = length l.left.items
