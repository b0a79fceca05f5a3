use Rattle.std.proofs.Common.{◌≡◌, length}
use Rattle.std.specs.Ordering.{nat_cmp}
use Rattle.std.specs.Cmp.Lexicographic.{slice_cmp}
use Rattle.fx_base.proofs.bytes.compare_bytes.Given as goal

abbrev pub invariant-bytes : goal.invariant-bytes
invariant-bytes l = slice_cmp nat_cmp l.a l.b ≡ slice_cmp nat_cmp l.initial.a l.initial.b

abbrev pub decreases-bytes : goal.decreases-bytes
decreases-bytes l = length l.a
