use Rattle.std.proofs.Common.{◌≡◌, ◌++◌, vec_len}
use Rattle.std.specs.Prelude.{reverse}
use Rattle.fx_disk.proofs.ahead.Ahead.add_all.Given as goal

abbrev pub invariant-loop-held : goal.invariant-loop-held
invariant-loop-held l = l.self.files.items ++ reverse l.files.items ≡ l.fn.self.files.items ++ reverse l.fn.files.items

abbrev pub decreases-loop-held : goal.decreases-loop-held
decreases-loop-held l = vec_len l.files
