-- A folder that is saved in a whole tree has stood in a folder before.
use Rattle.std.proofs.Common.{◌≡◌, ℕ, ◌-◌, Bool, true, false, not, ◌&&◌, ◌==◌, List, [], ◌∷◌, ◌++◌, length, Option, Some, None, refl, sym, ap, ◌∙◌, arith, length-append}
use Rattle.std.specs.List.{list_all}
use Rattle.std.specs.FinMap.{get}
use Rattle.std.specs.Option.{option_map_or}
use Rattle.std.proofs.lemmas.Bool.{true≢false}
use Rattle.std.proofs.lemmas.List.{append-nil, length-take-le}
use Rattle.fx_store.specs.Whole as store
use Rattle.fx_store.specs.Whole.{Nodes}
use Rattle.fx_outside.specs.Path.{Parts, above, is_fit_part, has_no_slash}
use Rattle.fx_outside.specs.Tree as host
use Rattle.fx_outside.specs.Tree.{Tree, Entry, folder, is_folder_kind, has_folder}
use Rattle.fx_store.specs.Names.{rest_of}
use Rattle.fx_store.proofs.PathLists.{rest_append, rest_is}
use Rattle.fx_folder.specs.Folder.{entry_or, IsSaved}
use Rattle.fx_folder.specs.Places.{host_entry}
use Rattle.fx_laws_above.specs.Above.{SavedInFolders}

module _ (t t' : Tree) (nodes : Nodes) (whole : host.IsWhole t') (is_store : store.IsWhole (get nodes)) where
  -- the folder itself stands in the new tree
  stands : (at : Parts) → IsSaved t t' at nodes → get t' at ≡ Some folder
  stands at saved =
      saved at
      ∙ ap (entry_or (get t at) nodes) (ap (rest_of at) (sym (append-nil at)) ∙ rest_append at [])
      ∙ ap host_entry is_store.root.1

  -- it is not the root, and a folder stands above
  parts_of : (a b c d e : Bool) → (a && (b && (c && (d && e)))) ≡ true → (a ≡ true) × (d ≡ true)
  parts_of true true true true e h = (refl, refl)
  parts_of true true true false e h = (refl, h)
  parts_of true true false d e h = absurd (true≢false (sym h))
  parts_of true false c d e h = absurd (true≢false (sym h))
  parts_of false b c d e h = absurd (true≢false (sym h))

  placed : (at : Parts) → IsSaved t t' at nodes → (not (length at == 0) ≡ true) × (has_folder t' (above at) ≡ true)
  placed at saved =
      parts_of (not (length at == 0)) (list_all is_fit_part at) (list_all has_no_slash at) (has_folder t' (above at)) _
      (whole.placed at folder (stands at saved))

  -- what is above has stood there before
  before : (name : List ℕ) (names : Parts) → IsSaved t t' (name ∷ names) nodes → get t' (above (name ∷ names)) ≡ get t (above (name ∷ names))
  before name names saved = saved (above (name ∷ names)) ∙ ap (entry_or (get t (above (name ∷ names))) nodes) (none (rest_of (name ∷ names) (above (name ∷ names))) refl)
    where
      none : (o : Option Parts) → rest_of (name ∷ names) (above (name ∷ names)) ≡ o → o ≡ None
      none None e = refl
      none (Some path) e =
          let whole_length : length (above (name ∷ names)) ≡ length ((name ∷ names) ++ path) = ap length (rest_is (name ∷ names) (above (name ∷ names)) path e) in
          let shorter = length-take-le (length (name ∷ names) - 1) (name ∷ names) (omega arith) in
          let longer = length-append (name ∷ names) path in
          absurd (omega (arith, whole_length, shorter, longer))

  same_folder : (q : Parts) → get t' q ≡ get t q → has_folder t' q ≡ has_folder t q
  same_folder [] e = refl
  same_folder (name ∷ names) e = ap (λ o. option_map_or (λ (e : Entry). is_folder_kind e.kind) o false) e

  in_folder : (at : Parts) → IsSaved t t' at nodes → has_folder t (above at) ≡ true
  in_folder [] saved = refl
  in_folder (name ∷ names) saved = sym (same_folder (above (name ∷ names)) (before name names saved)) ∙ (placed (name ∷ names) saved).1

pub saved_in_folders : SavedInFolders
saved_in_folders t t' at nodes whole is_store saved = in_folder t t' nodes whole is_store at saved
