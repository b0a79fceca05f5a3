use Rattle.std.proofs.Common.{◌≡◌, List, ◌++◌, vec_len}
use Rattle.fx_disk.specs.declared.ahead.Held.{Held}
use Rattle.fx_disk.proofs.ahead.Ahead.take.Given as goal

abbrev pub invariant-loop-held : goal.invariant-loop-held
invariant-loop-held l = (before : List Held) × (l.fn.self.files.items ≡ l.self.files.items ++ before)

abbrev pub decreases-loop-held : goal.decreases-loop-held
decreases-loop-held l = vec_len l.self.files
