use Rattle.std.proofs.Common.{sym, ◌∙◌}
use Rattle.fx_store.proofs.Sets.{IsNameSet-none}
use Rattle.fx_store.proofs.names.Names.new.Goals as goal

pub invariant_of-result : goal.invariant_of-result
invariant_of-result c = record {
  set = rw c.new.ensures IsNameSet-none;
  same = c.new-2.ensures ∙ sym c.new.ensures;
}
