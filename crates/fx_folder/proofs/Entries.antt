-- The entries that are walked are those of a filestore, if each stands where it has one.
use Rattle.fx_folder.proofs.Prelude.{◌≡◌, ℕ, List, [], ◌∷◌, sym, ◌∙◌, ap, Parts, Tree, Nodes, all_below, walked, find, entries, entries_sorted, get, get-entries, parts_cmp, parts_total, parts_same, same_entries, host_entry}
use Rattle.fx_folder.proofs.Walked.{below_sorted, below_root}
use Rattle.fx_folder.proofs.Counted.{held_of, find_held, no_root_held, held_sorted}
use Rattle.fx_folder.proofs.Ordered.{none_behind}

pub same_held : (tree : Tree) (P : Parts) (nodes : Nodes) → ((n : List ℕ) (r : Parts) → find parts_cmp (n ∷ r) (walked (all_below tree P)) ≡ host_entry (get nodes (n ∷ r))) → walked (all_below tree P) ≡ held_of (entries nodes)
same_held tree P nodes below = same_entries parts_cmp parts_total parts_same (walked (all_below tree P)) (held_of (entries nodes)) (below_sorted tree P) (held_sorted (entries nodes) (entries_sorted nodes)) each
  where
    each : (q : Parts) → find parts_cmp q (walked (all_below tree P)) ≡ find parts_cmp q (held_of (entries nodes))
    each [] = none_behind [] (walked (all_below tree P)) (below_root tree P) ∙ sym (no_root_held (entries nodes))
    each (n ∷ r) = below n r ∙ (ap host_entry (get-entries nodes (n ∷ r)) ∙ sym (find_held (entries nodes) (entries_sorted nodes) n r))
