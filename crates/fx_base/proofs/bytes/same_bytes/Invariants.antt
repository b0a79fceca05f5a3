use Rattle.std.proofs.Common.{◌≡◌, length}
use Rattle.std.specs.Prelude.{bytes_eq}
use Rattle.fx_base.proofs.bytes.same_bytes.Given as goal

abbrev pub invariant-bytes : goal.invariant-bytes
invariant-bytes l = bytes_eq l.a l.b ≡ bytes_eq l.initial.a l.initial.b

abbrev pub decreases-bytes : goal.decreases-bytes
decreases-bytes l = length l.a
