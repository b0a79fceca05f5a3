use Rattle.std.proofs.Common.{◌≡◌, ◌≤◌, length, map, drop, None}
use Rattle.fx_expr.specs.Bindings.{bound}
use Rattle.fx_check.specs.Scopes.{entry_shape}
use Rattle.fx_check.proofs.scope.newest.Given as goal

abbrev pub invariant-loop-i : goal.invariant-loop-i
invariant-loop-i l = (l.i ≤ length l.bindings) × (bound (map entry_shape (drop l.i l.bindings)) l.word ≡ None)

abbrev pub decreases-loop-i : goal.decreases-loop-i
decreases-loop-i l = l.i
