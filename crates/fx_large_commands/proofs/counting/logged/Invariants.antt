use Rattle.std.proofs.Common.{◌≡◌, ◌*◌, ◌^◌, ◌≤◌}
use Rattle.fx_large_commands.specs.Summary.{logged_to}
use Rattle.fx_large_commands.proofs.counting.logged.Given as goal

abbrev pub invariant-loop-number : goal.invariant-loop-number
invariant-loop-number l = (l.sum ≡ logged_to l.store.nodes l.number) × (l.sum ≤ 2 ^ 64 * l.number)
