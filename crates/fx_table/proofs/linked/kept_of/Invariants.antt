use Rattle.fx_table.proofs.Prelude.{◌≡◌, kept_of}
use Rattle.fx_table.proofs.linked.kept_of.Given as goal

abbrev pub invariant-loop-change : goal.invariant-loop-change
invariant-loop-change l = l.kept.items ≡ kept_of l.store.nodes l.yielded
