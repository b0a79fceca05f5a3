use Rattle.std.specs.Cmp.Lexicographic.{texts_ties, nat_list_cmp_total}
use Rattle.std.proofs.Common.{◌∙◌}
use Rattle.std.proofs.lemmas.List.Filters.{dedup_is}
use Rattle.std.proofs.lemmas.List.Kept.{IsStrictlySortedBy-dedup}
use Rattle.std.proofs.lemmas.Result.{IfOk-weaker}
use Rattle.fx_text.proofs.Canon.{sorted_is_set}
use Rattle.fx_text.proofs.set.TextSet.from_texts.Goals as goal

pub from_ascending-requires : goal.from_ascending-requires
from_ascending-requires c =
    let is = dedup_is _ _ _ c.dedup.ensures.filtered in
    rw is (IsStrictlySortedBy-dedup nat_list_cmp_total texts_ties _ c.in_ok-sort.ensures.sorted)

pub returns : goal.returns
returns c =
    let is = sorted_is_set _ _ _ c.in_ok-sort.ensures.permutation c.in_ok-sort.ensures.sorted (dedup_is _ _ _ c.dedup.ensures.filtered) in
    IfOk-weaker c.from_ascending.result _ _ (λ s e. e ∙ is) c.from_ascending.ensures
