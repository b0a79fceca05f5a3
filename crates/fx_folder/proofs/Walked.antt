-- What is walked of a folder: what stands below it in the host's tree, but for the table.
use Rattle.fx_folder.proofs.Prelude.{Held, in_table, all_below, walked, both, first, parts_same, Parts, parts_cmp, Tree, folder, table_name, Bool, List, None, T, [], ap, cond, not, sym, ℕ, ◌++◌, ◌∙◌, ◌∷◌, ◌≡◌, entries, find, get, is_sorted, below_all, find-where_key, is_sorted-where_key, bytes_eq}
use Rattle.fx_folder.proofs.Branches.{all_sorted, root_below, find_below}

-- ---- the table is left out

-- a path that is walked
abbrev pub is_walked : Parts → Bool
is_walked names = not (in_table names)

pub find_walked : (hs : List Held) (q : Parts) → find parts_cmp q (walked hs) ≡ cond (is_walked q) (find parts_cmp q hs) None
find_walked hs q = find-where_key parts_cmp is_walked q (λ x tied. ap is_walked (sym (parts_same q x tied))) hs

pub walked_sorted : (hs : List Held) → T (is_sorted parts_cmp hs) → T (is_sorted parts_cmp (walked hs))
walked_sorted hs up = is_sorted-where_key parts_cmp is_walked hs up

-- the entries that are walked, in order and behind the root
pub below_sorted : (tree : Tree) (P : Parts) → T (is_sorted parts_cmp (walked (all_below tree P)))
below_sorted tree P = walked_sorted (all_below tree P) (all_sorted tree P)

pub below_root : (tree : Tree) (P : Parts) → T (below_all parts_cmp [] (walked (all_below tree P)))
below_root tree P = first (below_all parts_cmp [] (walked (all_below tree P))) _ (walked_sorted (([], folder) ∷ all_below tree P) (both (below_all parts_cmp [] (all_below tree P)) _ (root_below P (entries tree)) (all_sorted tree P)))

-- what is found among them
pub find_walked_below : (tree : Tree) (P : Parts) (n : List ℕ) (r : Parts) → find parts_cmp (n ∷ r) (walked (all_below tree P)) ≡ cond (not (bytes_eq n table_name)) (get tree (P ++ n ∷ r)) None
find_walked_below tree P n r = find_walked (all_below tree P) (n ∷ r) ∙ ap (λ o. cond (not (bytes_eq n table_name)) o None) (find_below tree P n r)
