use Rattle.std.proofs.Common.{◌≡◌, take, is_some}
use Rattle.std.specs.FinMap.{get}
use Rattle.std.specs.List.{count_by}
use Rattle.fx_large_commands.proofs.counting.node_count.Given as goal

abbrev pub invariant-loop-i : goal.invariant-loop-i
invariant-loop-i l = l.count ≡ count_by (λ p. is_some (get l.store.nodes p)) (take l.i l.store.places)
