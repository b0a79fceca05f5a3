use Rattle.std.proofs.Common.{◌≡◌, ◌++◌, codes, map}
use Rattle.std.specs.List.{flat_map, range_with_len}
use Rattle.fx_gen.specs.Notes.{project}
use Rattle.fx_gen.proofs.files.config.Given as goal

abbrev pub invariant-loop-number : goal.invariant-loop-number
invariant-loop-number l = l.bytes.items ≡ flat_map (λ name. name ++ codes "\n") (map project (range_with_len 0 l.number))
