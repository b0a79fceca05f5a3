use Rattle.std.proofs.Common.{◌≡◌, ◌++◌, length}
use Rattle.fx_base.specs.Chunks.{from_last}
use Rattle.fx_base.proofs.table.cut.Given as goal

abbrev pub invariant-cutting : goal.invariant-cutting
invariant-cutting g l = l.left.items ++ from_last (λ part. part.items) l.parts.items ≡ l.fn.items.items

abbrev pub decreases-cutting : goal.decreases-cutting
decreases-cutting g l = length l.left.items
