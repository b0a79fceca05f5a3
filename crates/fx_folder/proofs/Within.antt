-- What a folder is loaded as is within the limits.
use Rattle.fx_folder.proofs.Prelude.{Held, all_below, all_bytes, deep_loads, walked, IsWithinLimits, Tree, folder, Nodes, Dir, lines_of, links_among, table_text, List, Ok, Some, [], ap, arith, length, subst, sym, ℕ, ◌+◌, ◌-◌, ◌∙◌, ◌≡◌, ◌≤◌, entries, entries_sorted, get, get-entries, len-entries, MAX_BYTES, MAX_NODES, MAX_TABLE, link_bytes}
use Rattle.fx_outside.specs.Tree as host
use Rattle.fx_store.specs.Whole.{IsWhole}
use Rattle.fx_folder.proofs.Counted.{has_root, counted, summed, held_of}
use Rattle.fx_folder.proofs.Entries.{same_held}
use Rattle.fx_folder.proofs.Walked.{find_walked_below}
use Rattle.fx_folder.proofs.Standing.{room, has_table, lines_are, entry_walked}

abbrev Paths : Type 0
Paths = List (List ℕ)

-- ---- a folder that is loaded

module _ (tree : Tree) (whole : host.IsWhole tree) (P : Paths) (nodes : Nodes) (there : get tree P ≡ Some folder) (loads : deep_loads tree P ≡ Ok nodes) (store : IsWhole (get nodes)) where
  abbrev hs : List Held
  hs = walked (all_below tree P)

  held_same : (length hs ≡ length (held_of (entries nodes))) × (all_bytes hs ≡ all_bytes (held_of (entries nodes)))
  held_same =
      let are = same_held tree P nodes (λ n r. find_walked_below tree P n r ∙ sym (entry_walked tree whole P nodes there loads n r)) in
      (ap length are, ap all_bytes are)

  few_links : length (held_of (entries nodes)) + 1 + length (links_among (lines_of nodes)) ≤ MAX_NODES
  few_links =
      let table = has_table tree whole P nodes there loads in
      let few = subst (λ l. length hs + 1 + length (links_among l) ≤ MAX_NODES) (sym (lines_are tree whole P nodes there loads)) table.few in
      let n : length hs ≡ length (held_of (entries nodes)) = held_same.0 in
      omega arith

  few_bytes : all_bytes (held_of (entries nodes)) + link_bytes (links_among (lines_of nodes)) ≤ MAX_BYTES
  few_bytes =
      let table = has_table tree whole P nodes there loads in
      let fit = subst (λ l. link_bytes (links_among l) ≤ MAX_BYTES - all_bytes hs) (sym (lines_are tree whole P nodes there loads)) table.fit in
      let all = (room tree whole P nodes there loads).fit in
      let n : all_bytes hs ≡ all_bytes (held_of (entries nodes)) = held_same.1 in
      omega arith

  pub within_limits : IsWithinLimits nodes
  within_limits =
      let up = entries_sorted nodes in
      let root = has_root (entries nodes) (Dir store.root.0) up (sym (get-entries nodes []) ∙ store.root.1) in
      let counts = counted (entries nodes) store.root.0 root.rest root.is up in
      let sums = summed (entries nodes) store.root.0 root.rest root.is up in
      let links = few_links in
      let bytes = few_bytes in
      record {
        count = omega (arith, len-entries nodes);
        bytes = omega arith;
        table = subst (λ l. length (table_text l) ≤ MAX_TABLE) (sym (lines_are tree whole P nodes there loads)) (has_table tree whole P nodes there loads).short;
      }
