use Rattle.std.proofs.Common.{◌≡◌, [], replicate}
use Rattle.fx_audit.proofs.places.no_places.Given as goal

abbrev pub invariant-loop-shell : goal.invariant-loop-shell
invariant-loop-shell l = l.table.items ≡ replicate l._shell []
