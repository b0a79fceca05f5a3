-- What a folder is loaded as is a whole filestore.
use Rattle.fx_folder.proofs.Prelude.{chosen_some, neither_some, some_of, Held, all_below, all_bytes, as_nodes, first_refused, last_name, linked, node_of_kind, refused_bytes, refused_entry, refused_kind, table_in, table_lines, unless_refused, unlisted, walked, with_table, LoadsAreWhole, IsRefused, Loads, both, first, second, strictly_sorted, parts_cmp, Entry, Tree, is_folder_kind, HostKind, IsWhole-same, IsName, IsPath, is_name, path_cmp, path_eq_same, path_total, Nodes, Node, Dir, File, Link, lines_made, IsLinked, find_listed, found, listed_whole, relisted, Mapped, listed, with_lines, table_name, AreOfBytes, IsOfBytes, is_dir, FolderCause, TableLine, All, Bool, Err, IfSome, IsSome, List, None, Ok, Option, Result, Some, T, [], ap, append_assoc, arith, cond, false, inl, inr, is_some, length, length-take, map, not, option_map, refl, subst, suc, sym, take, true, zero, ℕ, ◌&&◌, ◌++◌, ◌+◌, ◌-◌, ◌<◌, ◌∙◌, ◌∷◌, ◌≡◌, ◌≤◌, take-length, take-suc, and_parts, cases_Bool, false≢true, or_parts, nat_tests, All-nil, All-push, same_Some, find, from_entries, get, get-from_entries, is_sorted, below_all, option_or, eq_by_cmp, is_lt, bytes_eq, nat_le, nat_lt, MAX_BYTES, MAX_NODES, MAX_FILE_BYTES}
use Rattle.fx_outside.specs.declared.kind.HostKind.TheVariants as kind
use Rattle.fx_outside.specs.Tree as host
use Rattle.fx_table.proofs.Shapes.{IsNodeBounded}
use Rattle.fx_folder.proofs.Counted.{more_bytes, at_most, below}
use Rattle.fx_folder.proofs.TableRead.{table_of}
use Rattle.fx_folder.proofs.Walked.{below_sorted, below_root, find_walked_below}
pub use Rattle.fx_folder.proofs.Filled.{folder_entry_is}
use Rattle.fx_folder.proofs.Filled.{stands, stands_in}

abbrev Paths : Type 0
Paths = List (List ℕ)

-- ---- no entry is refused

-- what an entry is that is not refused
pub record IsAccepted (names : Paths) (e : Entry) : Type 0 where
  pub named : is_name (last_name names) ≡ true
  pub short : length names ≤ 64
  pub known : e.kind ≡ kind.Other → ⊥
  pub small : length e.bytes ≤ MAX_FILE_BYTES

within : (named room : Bool) (k b : Option FolderCause) (c d : FolderCause) → cond named (cond room (option_or k b) (Some c)) (Some d) ≡ None → record { named : named ≡ true; room : room ≡ true; kind : k ≡ None; bytes : b ≡ None }
within true true k b c d e = let two = neither_some k b e in record { named = refl; room = refl; kind = two.0; bytes = two.1 }
within true false k b c d e = cc
within false room k b c d e = cc

known_kind : (names : Paths) (k : HostKind) → refused_kind names k ≡ None → k ≡ kind.Other → ⊥
known_kind names kind.File none is = cc
known_kind names kind.Folder none is = cc
known_kind names kind.Other none is = cc

unless : (b : Bool) (c : FolderCause) → cond b (Some c) None ≡ None → b ≡ false
unless true c e = cc
unless false c e = refl

short_enough : (n : ℕ) → nat_le n 64 ≡ true → n ≤ 64
short_enough n e = grind (arith, nat_tests)

-- an entry that is not refused is accepted, and there is room for it
pub record HasPassed (nodes left : ℕ) (names : Paths) (e : Entry) : Type 0 where
  pub accepted : IsAccepted names e
  pub room : nodes < MAX_NODES
  pub fits : length e.bytes ≤ left

pub has_passed : (nodes left : ℕ) (names : Paths) (e : Entry) → refused_entry nodes left (names, e) ≡ None → HasPassed nodes left names e
has_passed nodes left names e none =
    let w = within (is_name (last_name names)) (nat_le (length names) 64 && nat_lt nodes MAX_NODES) (refused_kind names e.kind) (refused_bytes left names e.bytes) _ _ none in
    let room = and_parts (nat_le (length names) 64) (nat_lt nodes MAX_NODES) w.room in
    let bytes = or_parts (nat_lt MAX_FILE_BYTES (length e.bytes)) (nat_lt left (length e.bytes)) (unless _ _ w.bytes) in
    record {
      accepted = record { named = w.named; short = short_enough (length names) room.0; known = known_kind names e.kind w.kind; small = at_most (length e.bytes) MAX_FILE_BYTES bytes.0 };
      room = below nodes MAX_NODES room.1;
      fits = at_most (length e.bytes) left bytes.1;
    }

pub all_accepted : (nodes left : ℕ) (hs : List Held) → first_refused nodes left hs ≡ None → (q : Paths) (e : Entry) → find parts_cmp q hs ≡ Some e → IsAccepted q e
all_accepted nodes left [] none q e is = cc
all_accepted nodes left ((names, x) ∷ hs) none q e is =
    let two = neither_some (refused_entry nodes left (names, x)) (first_refused (nodes + 1) (left - length x.bytes) hs) none in
    elim (cases_Bool (eq_by_cmp parts_cmp q names)) [
      | inl same ↦
          let it : x ≡ e = same_Some x e (sym (ap (λ b. cond b (Some x) (find parts_cmp q hs)) same) ∙ is) in
          subst (λ p. IsAccepted p e) (sym (path_eq_same q names same)) (subst (IsAccepted names) it (has_passed nodes left names x two.0).accepted)
      | inr other ↦ all_accepted (nodes + 1) (left - length x.bytes) hs two.1 q e (sym (ap (λ b. cond b (Some x) (find parts_cmp q hs)) other) ∙ is)
    ]

-- there is room for so many nodes, and for all their bytes
pub record HaveRoom (nodes left : ℕ) (hs : List Held) : Type 0 where
  pub few : nodes + length hs ≤ MAX_NODES
  pub fit : all_bytes hs ≤ left

pub have_room : (nodes left : ℕ) (hs : List Held) → nodes ≤ MAX_NODES → first_refused nodes left hs ≡ None → HaveRoom nodes left hs
have_room nodes left [] few none = record { few = omega (arith, few); fit = omega arith }
have_room nodes left ((names, e) ∷ hs) few none =
    let two = neither_some (refused_entry nodes left (names, e)) (first_refused (nodes + 1) (left - length e.bytes) hs) none in
    let one = has_passed nodes left names e two.0 in
    let rest = have_room (nodes + 1) (left - length e.bytes) hs (omega (arith, one.room)) two.1 in
    record { few = omega (arith, rest.few); fit = omega (arith, rest.fit, one.fits, more_bytes (names, e) hs) }

-- ---- files and directories by their paths

abbrev pub node_of : Entry → Node
node_of e = node_of_kind e.kind e.bytes

find_nodes : (hs : List Held) (q : Paths) → found (map (λ (h : Held). (h.0, node_of_kind h.1.kind h.1.bytes)) hs) q ≡ option_map node_of (find parts_cmp q hs)
find_nodes [] q = refl
find_nodes (h ∷ hs) q = elim (cases_Bool (eq_by_cmp parts_cmp q h.0)) [
  | inl same ↦ ap (λ b. cond b (Some (node_of h.1)) (found (map (λ (g : Held). (g.0, node_of_kind g.1.kind g.1.bytes)) hs) q)) same ∙ ap (λ b. option_map node_of (cond b (Some h.1) (find parts_cmp q hs))) (sym same)
  | inr other ↦ ap (λ b. cond b (Some (node_of h.1)) (found (map (λ (g : Held). (g.0, node_of_kind g.1.kind g.1.bytes)) hs) q)) other ∙ find_nodes hs q ∙ ap (λ b. option_map node_of (cond b (Some h.1) (find parts_cmp q hs))) (sym other)
]

below_nodes : (k : Paths) (hs : List Held) → T (below_all parts_cmp k hs) → T (below_all path_cmp k (map (λ (h : Held). (h.0, node_of_kind h.1.kind h.1.bytes)) hs))
below_nodes k [] h = tt
below_nodes k (x ∷ hs) h = both (is_lt (parts_cmp k x.0)) _ (first (is_lt (parts_cmp k x.0)) _ h) (below_nodes k hs (second (is_lt (parts_cmp k x.0)) _ h))

sorted_nodes : (hs : List Held) → T (is_sorted parts_cmp hs) → T (is_sorted path_cmp (map (λ (h : Held). (h.0, node_of_kind h.1.kind h.1.bytes)) hs))
sorted_nodes [] h = tt
sorted_nodes (x ∷ hs) h = both (below_all path_cmp x.0 (map (λ (g : Held). (g.0, node_of_kind g.1.kind g.1.bytes)) hs)) _ (below_nodes x.0 hs (first (below_all parts_cmp x.0 hs) _ h)) (sorted_nodes hs (second (below_all parts_cmp x.0 hs) _ h))

pub unlisted_sorted : (hs : List Held) → T (below_all parts_cmp [] hs) → T (is_sorted parts_cmp hs) → T (is_sorted path_cmp (unlisted hs))
unlisted_sorted hs root up = both (below_all path_cmp [] (map (λ (g : Held). (g.0, node_of_kind g.1.kind g.1.bytes)) hs)) _ (below_nodes [] hs root) (sorted_nodes hs up)

-- at a path below the root
pub find_unlisted : (hs : List Held) (n : List ℕ) (r : Paths) → found (unlisted hs) (n ∷ r) ≡ option_map node_of (find parts_cmp (n ∷ r) hs)
find_unlisted hs n r = find_nodes hs (n ∷ r)

-- ---- a folder stands above each entry

some_mapped : {A B : Type 0} (f : A → B) (o : Option A) → is_some (option_map f o) ≡ true → is_some o ≡ true
some_mapped f None e = e
some_mapped f (Some x) e = refl

dir_of_folder : (k : HostKind) (bytes : List ℕ) → is_folder_kind k ≡ true → is_dir (Some (node_of_kind k bytes)) ≡ true
dir_of_folder kind.File bytes e = absurd (false≢true e)
dir_of_folder kind.Folder bytes e = refl
dir_of_folder kind.Other bytes e = absurd (false≢true e)

module _ (tree : Tree) (whole : host.IsWhole tree) (P : Paths) where
  abbrev hs : List Held
  hs = walked (all_below tree P)

  above_walked : (path : Paths) (name : List ℕ) → is_some (found (unlisted hs) (path ++ name ∷ [])) ≡ true → is_dir (found (unlisted hs) path) ≡ true
  above_walked [] name some = refl
  above_walked (a ∷ p) name some =
      let there = some_of (find parts_cmp (a ∷ (p ++ name ∷ [])) hs) (some_mapped node_of _ (sym (ap is_some (find_unlisted hs a (p ++ name ∷ []))) ∙ some)) in
      let at = chosen_some (not (bytes_eq a table_name)) (get tree (P ++ a ∷ (p ++ name ∷ []))) there.0 (sym (find_walked_below tree P a (p ++ name ∷ [])) ∙ there.1) in
      let parted : get tree ((P ++ a ∷ p) ++ name ∷ []) ≡ Some there.0 = ap (get tree) (append_assoc P (a ∷ p) (name ∷ [])) ∙ at.1 in
      let around = stands (get tree (P ++ a ∷ p)) (sym (folder_entry_is tree P a p) ∙ stands_in tree whole (P ++ a ∷ p) name there.0 parted) in
      ap is_dir (
      find_unlisted hs a p
      ∙ ap (option_map node_of) (find_walked_below tree P a p ∙ (ap (λ b. cond b (get tree (P ++ a ∷ p)) None) at.0 ∙ around.1))
      ) ∙ dir_of_folder around.0.kind around.0.bytes around.2

  module _ (none : first_refused 1 MAX_BYTES hs ≡ None) where
    last_off : (p : Paths) → 0 < length p → p ≡ take (length p - 1) p ++ last_name p ∷ []
    last_off p some =
        let n : suc (length p - 1) ≡ length p = omega (arith, some) in
        sym (take-length p) ∙ (ap (λ k. take k p) (sym n) ∙ take-suc p (length p - 1) [] (omega (arith, some)))

    accepted_at : (a : List ℕ) (p : Paths) → IsSome (found (unlisted hs) (a ∷ p)) → (e : Entry) × IsAccepted (a ∷ p) e
    accepted_at a p some =
        let there = some_of (find parts_cmp (a ∷ p) hs) (some_mapped node_of _ (sym (ap is_some (find_unlisted hs a p)) ∙ some)) in
        (there.0, all_accepted 1 MAX_BYTES hs none (a ∷ p) there.0 there.1)

    some_dir : (o : Option Node) → is_dir o ≡ true → is_some o ≡ true
    some_dir None e = e
    some_dir (Some node) e = refl

    all_names : (n : ℕ) (p : Paths) → length p ≡ n → IsSome (found (unlisted hs) p) → All IsName p
    all_names n [] long some = All-nil IsName
    all_names zero (a ∷ p) long some = absurd (omega arith)
    all_names (suc n) (a ∷ p) long some =
        let around = take (length (a ∷ p) - 1) (a ∷ p) in
        let last = last_name (a ∷ p) in
        let split : a ∷ p ≡ around ++ last ∷ [] = last_off (a ∷ p) (omega arith) in
        let dir = above_walked around last (ap (λ q. is_some (found (unlisted hs) q)) (sym split) ∙ some) in
        let short : length around ≡ n = omega (arith, length-take (length (a ∷ p) - 1) (a ∷ p), long) in
        subst (All IsName) (sym split) (All-push IsName around last (all_names n around short (some_dir _ dir)) (accepted_at a p some).1.named)

    path_walked : (p : Paths) → IsSome (found (unlisted hs) p) → IsPath p
    path_walked [] some = record { names = All-nil IsName; short = omega arith }
    path_walked (a ∷ p) some = record { names = all_names (length (a ∷ p)) (a ∷ p) refl some; short = (accepted_at a p some).1.short }

    leaf_of : (q : Paths) (e : Entry) → IsAccepted q e → IsNodeBounded (node_of e)
    leaf_of q e accepted = by e.kind refl
      where
        by : (k : HostKind) → e.kind ≡ k → IsNodeBounded (node_of_kind k e.bytes)
        by kind.File is = accepted.small
        by kind.Folder is = tt
        by kind.Other is = absurd (accepted.known is)

    leaf_at : (p : Paths) → IfSome (found (unlisted hs) p) IsNodeBounded
    leaf_at [] = tt
    leaf_at (a ∷ p) = subst (λ o. IfSome o IsNodeBounded) (sym (find_unlisted hs a p)) (by (find parts_cmp (a ∷ p) hs) refl)
      where
        by : (o : Option Entry) → find parts_cmp (a ∷ p) hs ≡ o → IfSome (option_map node_of o) IsNodeBounded
        by None is = tt
        by (Some e) is = leaf_of (a ∷ p) e (all_accepted 1 MAX_BYTES hs none (a ∷ p) e is)

    unlisted_shape : IsLinked (found (unlisted hs)) (unlisted hs)
    unlisted_shape = record {
      sorted = unlisted_sorted hs (below_root tree P) (below_sorted tree P);
      shape = record { root = refl; above = above_walked; paths = path_walked; leaves = leaf_at };
      dirs = λ q. refl;
    }

-- ---- what was loaded

-- the lines of a table that is read, and what the entries are with them
pub record IsLoaded (hs : List Held) (table : Option Entry) (nodes : Nodes) : Type 0 where
  pub none : first_refused 1 MAX_BYTES hs ≡ None
  pub lines : List TableLine
  pub read : table_lines (length hs + 1) (MAX_BYTES - all_bytes hs) (λ path. find path_cmp path (unlisted hs)) table ≡ Ok lines
  pub is : from_entries (listed (with_lines (unlisted hs) lines)) ≡ nodes

pub was_loaded : (hs : List Held) (table : Option Entry) (nodes : Nodes) → as_nodes (unless_refused (first_refused 1 MAX_BYTES hs) (with_table hs table)) ≡ Ok nodes → IsLoaded hs table nodes
was_loaded hs table nodes e = by (first_refused 1 MAX_BYTES hs) (table_lines (length hs + 1) (MAX_BYTES - all_bytes hs) (λ path. find path_cmp path (unlisted hs)) table) refl refl e
  where
    by : (o : Option FolderCause) (r : Result (List TableLine) FolderCause) → first_refused 1 MAX_BYTES hs ≡ o → table_lines (length hs + 1) (MAX_BYTES - all_bytes hs) (λ path. find path_cmp path (unlisted hs)) table ≡ r → as_nodes (unless_refused o (linked (unlisted hs) r)) ≡ Ok nodes → IsLoaded hs table nodes
    by None (Ok lines) none read e = record { none = none; lines = lines; read = read; is = cc }
    by None (Err cause) none read e = cc
    by (Some cause) r none read e = cc

bytes_listed : (es : List Mapped) (q : Paths) (o : Option Node) → IfSome (option_map (relisted es q) o) IsOfBytes → IfSome o IsOfBytes
bytes_listed es q None h = tt
bytes_listed es q (Some (File bytes exec)) h = h
bytes_listed es q (Some (Dir names)) h = tt
bytes_listed es q (Some (Link text)) h = tt

pub loads_are_whole : LoadsAreWhole
loads_are_whole tree whole P nodes is bytes =
    let hs = walked (all_below tree P) in
    let made = was_loaded hs (table_in (all_below tree P)) nodes is in
    let room = have_room 1 MAX_BYTES hs (omega arith) made.none in
    let table = (table_of _ _ (found (unlisted hs)) (table_in (all_below tree P)) made.lines (omega (arith, room.few)) made.read).table in
    let es = with_lines (unlisted hs) made.lines in
    let linked = lines_made (found (unlisted hs)) true made.lines table (unlisted hs) (unlisted_shape tree whole P made.none) in
    let same : (q : Paths) → found (listed es) q ≡ get nodes q = λ q. sym (get-from_entries path_total (listed es) q) ∙ ap (λ m. get m q) made.is in
    let held : AreOfBytes (found es) = λ q. bytes_listed es q (found es q) (subst (λ o. IfSome o IsOfBytes) (sym (same q) ∙ find_listed es es q) (bytes q)) in
    IsWhole-same (found (listed es)) (get nodes) same (listed_whole es (strictly_sorted path_cmp es linked.sorted) linked.shape held)

-- a folder that loads is not refused
pub not_both : (t : Tree) (path : List ℕ) (nodes : Nodes) (cause : FolderCause) → Loads t path nodes → IsRefused t path cause → ⊥
not_both t path nodes cause loads refused = let both : Ok nodes ≡ Err cause = sym loads.1 ∙ refused.1 in cc
