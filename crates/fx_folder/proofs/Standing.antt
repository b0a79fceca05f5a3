-- A folder that is loaded is the folder of the loaded filestore, but for a table without bytes.
use Rattle.fx_folder.proofs.Prelude.{fifth_true, no_length, none_if_never, Held, all_below, all_bytes, deep_loads, folder_entry, node_of_kind, table_entry, table_in, unlisted, walked, host_entry, Parts, above, has_no_slash, is_fit_part, parts_cmp, Entry, Tree, file, folder, has_folder, is_file_kind, is_folder_kind, HostKind, path_total, Nodes, find_listed, found, relisted, Mapped, listed, with_lines, table_name, lines_of, TableLine, Bool, List, None, Ok, Option, Some, [], ap, append-nil, append_assoc, arith, cond, false, inl, inr, length, not, option_map, refl, subst, sym, true, ℕ, ◌++◌, ◌+◌, ◌-◌, ◌==◌, ◌||◌, ◌∙◌, ◌∷◌, ◌≡◌, ◌⊎◌, cases_Bool, false≢true, bytes_eq-Decides, entries, entries_sorted, find, get, get-entries, get-from_entries, list_all, option_map_or, bytes_eq, MAX_BYTES}
use Rattle.fx_outside.specs.declared.kind.HostKind.TheVariants as kind
use Rattle.fx_outside.specs.Tree as host
use Rattle.fx_folder.specs.HasFolder.{StandsFor}
use Rattle.fx_folder.proofs.Filled.{stands_in, none_below}
use Rattle.fx_folder.proofs.Loaded.{all_accepted, node_of, find_unlisted, HaveRoom, have_room, IsLoaded, was_loaded, folder_entry_is}
use Rattle.fx_folder.proofs.TableRead.{Spelled, IsTableOf, table_of}
use Rattle.fx_folder.proofs.Walked.{find_walked_below}
use Rattle.fx_folder.proofs.Branches.{find_below}
use Rattle.fx_folder.proofs.RoundTrip.{no_place}
use Rattle.fx_folder.proofs.Marking.{unlisted_plain, relisted_entry, entry_at as entry_with, lines_stay}

abbrev Paths : Type 0
Paths = List (List ℕ)

-- ---- the table that was read

-- such a table is that of the lines, or it has no bytes
table_stands : (o : Option Entry) (lines : List TableLine) → Spelled lines o → (o ≡ table_entry lines) ⊎ ((o ≡ Some (file [])) × (lines ≡ []))
table_stands o lines (inl none) = inl (none.0 ∙ ap table_entry (sym none.1))
table_stands o [] (inr is) = inr (is, refl)
table_stands o (l ∷ lines) (inr is) = inl is

-- it is no folder
table_no_folder : (o : Option Entry) (lines : List TableLine) → Spelled lines o → option_map_or (λ x. is_folder_kind x.kind) o false ≡ false
table_no_folder o lines (inl none) = ap (λ x. option_map_or (λ x. is_folder_kind x.kind) x false) none.0
table_no_folder o lines (inr is) = ap (λ x. option_map_or (λ x. is_folder_kind x.kind) x false) is

-- ---- an entry that is loaded is that of its node

entry_back : (k : HostKind) (bytes : List ℕ) → (k ≡ kind.Other → ⊥) → (is_file_kind k || length bytes == 0) ≡ true → host_entry (Some (node_of_kind k bytes)) ≡ Some (record { kind = k; bytes = bytes })
entry_back kind.File bytes known e = refl
entry_back kind.Folder bytes known e = ap (λ l. Some (record { kind = kind.Folder; bytes = l })) (sym (no_length bytes e))
entry_back kind.Other bytes known e = absurd (known refl)

entries_back : (o : Option Entry) → ((e : Entry) → o ≡ Some e → host_entry (Some (node_of e)) ≡ Some e) → host_entry (option_map node_of o) ≡ o
entries_back None back = refl
entries_back (Some e) back = back e refl

-- only a file has bytes
pub bare : (tree : Tree) → host.IsWhole tree → (p : Paths) (e : Entry) → get tree p ≡ Some e → (is_file_kind e.kind || length e.bytes == 0) ≡ true
bare tree whole p e is = fifth_true (not (length p == 0)) (list_all is_fit_part p) (list_all has_no_slash p) (has_folder tree (above p)) (is_file_kind e.kind || length e.bytes == 0) (whole.placed p e is)

pub of_folder : (k : HostKind) (bytes : List ℕ) → is_folder_kind k ≡ true → (is_file_kind k || length bytes == 0) ≡ true → ◌≡◌ {A = Entry} (record { kind = k; bytes = bytes }) folder
of_folder kind.File bytes f e = absurd (false≢true f)
of_folder kind.Folder bytes f e = ap (λ l. record { kind = kind.Folder; bytes = l }) (no_length bytes e)
of_folder kind.Other bytes f e = absurd (false≢true f)

-- ---- below a table nothing stands

below_none : (tree : Tree) → host.IsWhole tree → (P : Paths) (n : List ℕ) → option_map_or (λ x. is_folder_kind x.kind) (get tree (P ++ n ∷ [])) false ≡ false → (a : List ℕ) (r : Paths) → get tree (P ++ n ∷ a ∷ r) ≡ None
below_none tree whole P n plain a r =
    let none = none_below tree whole (P ++ n ∷ []) (λ b. none_if_never _ (λ e is. false≢true (sym (folder_entry_is tree P n [] ∙ plain) ∙ stands_in tree whole (P ++ n ∷ []) b e is))) a r in
    sym (ap (get tree) (append_assoc P (n ∷ []) (a ∷ r))) ∙ none

known_some : (b : Bool) (o : Option Entry) (e : Entry) → cond b o None ≡ Some e → o ≡ Some e
known_some true o e is = is
known_some false o e is = cc

module _ (tree : Tree) (whole : host.IsWhole tree) (P : Paths) (nodes : Nodes) (there : get tree P ≡ Some folder) (loads : deep_loads tree P ≡ Ok nodes) where
  abbrev hs : List Held
  hs = walked (all_below tree P)

  abbrev table : Option Entry
  table = table_in (all_below tree P)

  pub made : IsLoaded hs table nodes
  made = was_loaded hs table nodes loads

  abbrev lines : List TableLine
  lines = made.lines

  abbrev ws : List Mapped
  ws = with_lines (unlisted hs) lines

  pub room : HaveRoom 1 MAX_BYTES hs
  room = have_room 1 MAX_BYTES hs (omega arith) made.none

  pub has_table : IsTableOf (length hs + 1) (MAX_BYTES - all_bytes hs) (found (unlisted hs)) lines (get tree (P ++ table_name ∷ []))
  has_table =
      let few = room.few in
      subst (IsTableOf (length hs + 1) (MAX_BYTES - all_bytes hs) (found (unlisted hs)) lines) (find_below tree P table_name []) (table_of _ _ (found (unlisted hs)) table lines (omega arith) made.read)

  nodes_are : (q : Paths) → get nodes q ≡ option_map (relisted ws q) (found ws q)
  nodes_are q = sym (ap (λ m. get m q) made.is) ∙ (get-from_entries path_total (listed ws) q ∙ find_listed ws ws q)

  -- the lines of the filestore are those of the table
  pub lines_are : lines_of nodes ≡ lines
  lines_are = lines_stay (unlisted hs) (unlisted_plain hs) lines has_table.table (entries nodes) (entries_sorted nodes) (λ q. sym (get-entries nodes q) ∙ nodes_are q)

  entry_is : (q : Paths) → host_entry (get nodes q) ≡ host_entry (found (unlisted hs) q)
  entry_is q = ap host_entry (nodes_are q) ∙ (relisted_entry ws q (found ws q) ∙ entry_with (unlisted hs) (unlisted_plain hs) lines has_table.table q)

  known : (n : List ℕ) (r : Paths) (e : Entry) → find parts_cmp (n ∷ r) hs ≡ Some e → host_entry (Some (node_of e)) ≡ Some e
  known n r e is =
      let ok = all_accepted 1 MAX_BYTES hs made.none (n ∷ r) e is in
      entry_back e.kind e.bytes ok.known (bare tree whole (P ++ n ∷ r) e (known_some (not (bytes_eq n table_name)) (get tree (P ++ n ∷ r)) e (sym (find_walked_below tree P n r) ∙ is)))

  -- an entry that is walked is that of its node
  pub entry_walked : (n : List ℕ) (r : Paths) → host_entry (get nodes (n ∷ r)) ≡ cond (not (bytes_eq n table_name)) (get tree (P ++ n ∷ r)) None
  entry_walked n r =
      entry_is (n ∷ r)
      ∙ (ap host_entry (find_unlisted hs n r) ∙ (entries_back (find parts_cmp (n ∷ r) hs) (known n r) ∙ find_walked_below tree P n r))

  at_table : (n : List ℕ) (r : Paths) → bytes_eq n table_name ≡ true → StandsFor nodes (n ∷ r) (get tree (P ++ n ∷ r))
  at_table n [] same =
      let it : n ≡ table_name = (bytes_eq-Decides n table_name).0 same in
      let o = get tree (P ++ n ∷ []) in
      let spelled : Spelled (lines_of nodes) o = subst (λ m. Spelled (lines_of nodes) (get tree (P ++ m ∷ []))) (sym it) (subst (λ l. Spelled l (get tree (P ++ table_name ∷ []))) (sym lines_are) has_table.is) in
      let at : folder_entry nodes (n ∷ []) ≡ table_entry (lines_of nodes) = ap (λ b. cond b (table_entry (lines_of nodes)) (host_entry (get nodes (n ∷ [])))) same in
      elim (table_stands o (lines_of nodes) spelled) [
        | inl whole ↦ inl (whole ∙ sym at)
        | inr empty ↦ inr (record { place = ap (λ m. m ∷ []) it; empty = empty.0 }, empty.1)
      ]
  at_table n (a ∷ r) same =
      let it : n ≡ table_name = (bytes_eq-Decides n table_name).0 same in
      let none : get tree (P ++ n ∷ a ∷ r) ≡ None = subst (λ m. get tree (P ++ m ∷ a ∷ r) ≡ None) (sym it) (below_none tree whole P table_name (table_no_folder _ lines has_table.is) a r) in
      inl (none ∙ sym (entry_walked n (a ∷ r) ∙ ap (λ b. cond (not b) (get tree (P ++ n ∷ a ∷ r)) None) same))

  -- what stands in the folder is what the folder of the filestore has there
  pub stays : (names : Parts) → StandsFor nodes names (get tree (P ++ names))
  stays [] = inl (ap (get tree) (append-nil P) ∙ (there ∙ sym (entry_is [])))
  stays (n ∷ r) = elim (cases_Bool (bytes_eq n table_name)) [
    | inl same ↦ at_table n r same
    | inr other ↦
        let at : folder_entry nodes (n ∷ r) ≡ host_entry (get nodes (n ∷ r)) = ap (λ b. cond b (table_entry (lines_of nodes)) (host_entry (get nodes (n ∷ r)))) (no_place n r other) in
        inl (sym (at ∙ (entry_walked n r ∙ ap (λ b. cond (not b) (get tree (P ++ n ∷ r)) None) other)))
  ]
