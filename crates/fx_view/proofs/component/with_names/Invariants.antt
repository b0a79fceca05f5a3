use Rattle.std.proofs.Common.{◌≡◌, ◌++◌}
use Rattle.fx_view.proofs.component.with_names.Given as goal

abbrev pub invariant-loop-name : goal.invariant-loop-name
invariant-loop-name l = l.all ++ l.name-iterator ≡ l.fn.names ++ l.more
