-- Names, link texts and paths: lists of bytes, and lists of names from the root on.
use Rattle.std.specs.Prelude.{◌≡◌, ℕ, ◌≤◌, ◌<◌, Bool, true, false, cond, not, ◌&&◌, ◌||◌, List, [], ◌∷◌, length, nat_lt, nat_le, ◌==◌, IsTrue, All, codes, bytes_eq, Option, Some, None}
use Rattle.std.specs.declared.cmp.Ordering.{Ordering}
use Rattle.std.specs.Ordering.{nat_cmp, eq_by_cmp, is_lt}
use Rattle.std.specs.Cmp.Lexicographic.{slice_cmp}
use Rattle.std.specs.List.{list_any, list_all, slice_split, flat_map}
use Rattle.std.specs.List.Sorted.{IsStrictlySortedBy}
use Rattle.std.specs.Str.{is_utf8}
use Rattle.fx_store.specs.declared.limits.TheConstants.{MAX_NAME_BYTES, MAX_PATH_NAMES, MAX_FILE_BYTES, MAX_LINK_BYTES, MAX_LINK_COMPONENTS}

-- by bytes
abbrev pub name_cmp : List ℕ → List ℕ → Ordering
name_cmp = slice_cmp nat_cmp

-- name by name, so a directory comes just before all that is below it
abbrev pub path_cmp : List (List ℕ) → List (List ℕ) → Ordering
path_cmp = slice_cmp name_cmp

-- a `/`, which separates names
abbrev pub is_slash : ℕ → Bool
is_slash b = b == 47

abbrev pub is_nul : ℕ → Bool
is_nul b = b == 0

-- the directory itself, its parent, and the file in which a folder keeps its links
abbrev pub is_reserved : List ℕ → Bool
is_reserved name = bytes_eq name (codes ".") || bytes_eq name (codes "..") || bytes_eq name (codes ".forest-links")

-- a name is UTF-8 of 1 to 255 bytes with no `/` and no NUL, and is not reserved
unfoldable pub is_name : List ℕ → Bool
is_name name = nat_lt 0 (length name) && nat_le (length name) MAX_NAME_BYTES && not (list_any is_slash name) && not (list_any is_nul name) && not (is_reserved name) && is_utf8 name

abbrev pub IsName : List ℕ → Type 0
IsName name = IsTrue (is_name name)

-- the bytes of a file
pub record IsContent (content : List ℕ) : Type 0 where
  pub short : length content ≤ MAX_FILE_BYTES
  pub bytes : All (λ b. b < 256) content

-- a path has at most 64 names
pub record IsPath (path : List (List ℕ)) : Type 0 where
  pub names : All IsName path
  pub short : length path ≤ MAX_PATH_NAMES

-- the names of a directory, each once and in order
pub record IsNameSet (set : List (List ℕ)) : Type 0 where
  pub names : All IsName set
  pub ascending : IsStrictlySortedBy name_cmp set

-- the names of a directory, and the same as texts
pub record IsListing (names texts : List (List ℕ)) : Type 0 where
  pub set : IsNameSet names
  pub same : texts ≡ names

pub record IsPathSet (set : List (List (List ℕ))) : Type 0 where
  pub paths : All IsPath set
  pub ascending : IsStrictlySortedBy path_cmp set

-- whether the key is one of these
abbrev pub is_in : {K : Type 0} → (K → K → Ordering) → List K → K → Bool
is_in R keys key = list_any (eq_by_cmp R key) keys

-- whether the key is greater than the last of these
abbrev pub is_above : {K : Type 0} → (K → K → Ordering) → List K → K → Bool
is_above R [] key = true
is_above R (k ∷ []) key = is_lt (R k key)
is_above R (k ∷ l ∷ keys) key = is_above R (l ∷ keys) key

-- whether the set of names has this one
abbrev pub has : List (List ℕ) → List ℕ → Bool
has names name = is_in name_cmp names name

-- whether the set of paths has this one
abbrev pub has_path : List (List (List ℕ)) → List (List ℕ) → Bool
has_path paths path = is_in path_cmp paths path

-- the text of a path: `/` for the root, and else each name with `/` before it
abbrev pub path_text : List (List ℕ) → List ℕ
path_text [] = 47 ∷ []
path_text (name ∷ names) = flat_map (λ n. 47 ∷ n) (name ∷ names)

-- the rest of a path behind another, if it begins with that
abbrev pub rest_of : List (List ℕ) → List (List ℕ) → Option (List (List ℕ))
rest_of [] r = Some r
rest_of (a ∷ q) [] = None
rest_of (a ∷ q) (b ∷ r) = cond (eq_by_cmp name_cmp a b) (rest_of q r) None

-- whether a link text starts at the root
abbrev pub is_absolute : List ℕ → Bool
is_absolute [] = false
is_absolute (b ∷ bs) = is_slash b

-- the bytes after a leading `/`, or all bytes where there is none
abbrev pub after_slash : List ℕ → List ℕ
after_slash [] = []
after_slash (b ∷ bs) = cond (is_slash b) bs (b ∷ bs)

-- the parts between the slashes; no bytes have no part
abbrev pub parts : List ℕ → List (List ℕ)
parts [] = []
parts (b ∷ bs) = slice_split is_slash (b ∷ bs)

-- the components of a link text, and the names of a path text
abbrev pub components : List ℕ → List (List ℕ)
components text = parts (after_slash text)

-- a step from a directory: to an entry, to itself or to its parent
abbrev pub is_component : List ℕ → Bool
is_component c = is_name c || bytes_eq c (codes ".") || bytes_eq c (codes "..")

-- the form of a link text, with any number of components
abbrev pub has_link_form : List ℕ → Bool
has_link_form text = nat_lt 0 (length text) && nat_le (length text) MAX_LINK_BYTES && list_all is_component (components text)

pub record IsLinkText (text : List ℕ) : Type 0 where
  pub form : IsTrue (has_link_form text)
  pub short : length (components text) ≤ MAX_LINK_COMPONENTS
  pub bytes : All (λ b. b < 256) text
