use Rattle.std.proofs.Common.{sym, subst, ◌∙◌}
use Rattle.fx_text.specs.Sets.{IsAscending}
use Rattle.fx_store.proofs.names.Names.from_vec.Goals as goal

pub from_ascending-requires : goal.from_ascending-requires
from_ascending-requires c = subst IsAscending (sym (c.in_ok-texts.ensures ∙ c.as_slice.ensures.value)) c.requires.ascending

pub invariant_of-result : goal.invariant_of-result
invariant_of-result c = record {
  set = rw c.in_ok-from_vec.ensures c.requires;
  same = c.in_ok-from_ascending.ensures ∙ c.in_ok-texts.ensures ∙ c.as_slice.ensures.value ∙ sym c.in_ok-from_vec.ensures;
}
