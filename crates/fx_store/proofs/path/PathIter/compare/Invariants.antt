use Rattle.std.proofs.Common.{◌≡◌}
use Rattle.fx_store.specs.Names.{path_cmp}
use Rattle.fx_store.proofs.path.PathIter.compare.Given as goal

abbrev pub invariant-loop-name : goal.invariant-loop-name
invariant-loop-name l = path_cmp l.name-iterator l.rest ≡ path_cmp l.self l.other
