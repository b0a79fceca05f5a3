use Rattle.std.proofs.Common.{◌≡◌, ◌*◌, ◌^◌, pos, neg_ℤ, ◌≤ℤ◌}
use Rattle.fx_large_commands.specs.Summary.{counted_to}
use Rattle.fx_large_commands.proofs.counting.counted.Given as goal

abbrev pub invariant-loop-number : goal.invariant-loop-number
invariant-loop-number l =
    (l.sum ≡ counted_to l.store.nodes l.number) × (neg_ℤ (pos (2 ^ 63 * l.number)) ≤ℤ l.sum) × (l.sum ≤ℤ pos (2 ^ 63 * l.number))
