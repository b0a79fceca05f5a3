use Rattle.std.proofs.Common.{◌≡◌, ◌∷◌, map, codes}
use Rattle.std.specs.List.{range_with_len}
use Rattle.fx_gen.specs.Notes.{project}
use Rattle.fx_gen.proofs.files.top_names.Given as goal

abbrev pub invariant-loop-number : goal.invariant-loop-number
invariant-loop-number l = l.names.items ≡ codes "config" ∷ codes "current" ∷ map project (range_with_len 0 l.number)
