use Rattle.std.proofs.Common.{◌∙◌, [], refl, rules}
use Rattle.std.proofs.lemmas.List.{append-nil}
use Rattle.std.proofs.lemmas.List.MinMax.{ranks_by}
use Rattle.std.proofs.lemmas.List.Sorted.{answers_always}
use Rattle.fx_store.specs.Orders.{path_total}
use Rattle.fx_view.proofs.Few.{sorted_keys, all_moved}
use Rattle.fx_view.proofs.table.Table.into_sorted.Goals as goal

pub returns-clause-same : goal.returns-clause-same
returns-clause-same g c =
    all_moved c.in_ok-entries.entries.items [] c.args.self c.sort_unstable_by.new.self.items (append-nil c.in_ok-entries.entries.items ∙ (c.in_ok-entries.ensures ∙ c.self.view_is)) refl c.sort_unstable_by.ensures.permutation

pub returns-clause-sorted : goal.returns-clause-sorted
returns-clause-sorted g c = sorted_keys path_total c.sort_unstable_by.new.self.items (c.sort_unstable_by.ensures.sorted _ (ranks_by path_total (λ e. e.0)) (answers_always _ _ _ (λ f a r f' k. search rules)))
