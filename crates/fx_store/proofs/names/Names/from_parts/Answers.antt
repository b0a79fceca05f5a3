use Rattle.std.proofs.Common.{sym, ◌∙◌}
use Rattle.fx_store.proofs.names.Names.from_parts.Goals as goal

pub invariant_of-result : goal.invariant_of-result
invariant_of-result c = record {
  set = rw c.in_ok-from_vec.ensures c.requires.set;
  same = c.in_ok-copy.ensures ∙ c.requires.same ∙ sym c.in_ok-from_vec.ensures;
}
