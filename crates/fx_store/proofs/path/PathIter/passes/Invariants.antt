use Rattle.std.proofs.Common.{◌≡◌, ◌↔◌, ◌++◌}
use Rattle.fx_store.proofs.path.PathIter.passes.Given as goal

abbrev pub invariant-loop-name : goal.invariant-loop-name
invariant-loop-name l = (rest : _) → (l.fn.self ≡ l.names ++ rest) ↔ (l.rest ≡ l.name-iterator ++ rest)
