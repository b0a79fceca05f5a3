use Rattle.std.proofs.Common.{◌≡◌, None, [], ◌∷◌, ◌++◌, sym, ap, ◌∙◌}
use Rattle.indexmap.specs.IndexMap.{get}
use Rattle.std.specs.Ordering.{eq_by_cmp}
use Rattle.fx_base.proofs.Results.{none_of}
use Rattle.indexmap.proofs.CallerLemmas.{insert_entry-new}
use Rattle.fx_store.specs.Names.{path_cmp}
use Rattle.fx_store.proofs.Tables.{is_some-lookup, keys_new, has_path_last, nodes_of_new}
use Rattle.fx_store.proofs.filestore.make_place.Goals as goal

added : (c : goal.After-let_go) → c.insert.new.self.entries ≡ c.args.table.now.entries ++ (c.in_ok-place.place, None) ∷ []
added c =
    c.in_ok-insert.ensures.entries ∙ insert_entry-new (eq_by_cmp path_cmp) c.args.table.now c.in_ok-place.place None (ap (λ p. get (eq_by_cmp path_cmp) c.args.table.now p) c.in_ok-place.ensures.copied ∙ none_of _ (sym c.if-contains_key.ensures))

pub returns-then-contains_key-clause-place : goal.returns-then-contains_key-clause-place
returns-then-contains_key-clause-place c = λ _. sym (is_some-lookup (eq_by_cmp path_cmp c.args.change.now.path) _) ∙ sym c.if-contains_key.ensures

pub returns-clause-place : goal.returns-clause-place
returns-clause-place c =
    λ _. rw (added c, keys_new) (rw c.in_ok-place.ensures.copied (has_path_last _ c.args.change.now.path))

pub returns-clause-nodes : goal.returns-clause-nodes
returns-clause-nodes c = rw (added c) (nodes_of_new c.args.table.now.entries c.in_ok-place.place)

pub returns-clause-kept : goal.returns-clause-kept
returns-clause-kept c = (c.in_ok-place.place ∷ [], rw (added c) (keys_new c.args.table.now.entries (c.in_ok-place.place, None)))
