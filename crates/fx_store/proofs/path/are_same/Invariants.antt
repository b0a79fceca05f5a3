use Rattle.std.proofs.Common.{◌≡◌, length}
use Rattle.std.specs.Prelude.{bytes_eq}
use Rattle.std.specs.Cmp.Lexicographic.{pointwise}
use Rattle.fx_store.proofs.path.are_same.Given as goal

abbrev pub invariant-names : goal.invariant-names
invariant-names l = pointwise bytes_eq l.a l.b ≡ pointwise bytes_eq l.initial.a l.initial.b

abbrev pub decreases-names : goal.decreases-names
decreases-names l = length l.a
