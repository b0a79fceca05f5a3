-- How a host that tells its tree reads a path: as the list of the parts between the slashes.
use Rattle.std.specs.Prelude.{◌==◌, ◌&&◌, ◌-◌, ℕ, Bool, not, cond, nat_eq, List, [], ◌∷◌, length, take, Option, Some, None}
use Rattle.std.specs.declared.cmp.Ordering.{Ordering}
use Rattle.std.specs.Ordering.{eq_by_cmp}
use Rattle.std.specs.List.{list_all, slice_get, slice_split}
use Rattle.std.specs.Cmp.Lexicographic.{pointwise, slice_cmp}
use Rattle.fx_outside.specs.Listing.{name_cmp}

abbrev pub Parts : Type 0
Parts = List (List ℕ)

-- a folder comes just before all that stands in it
abbrev pub parts_cmp : Parts → Parts → Ordering
parts_cmp = slice_cmp name_cmp

-- the parts between the slashes
abbrev pub parts : List ℕ → Parts
parts path = slice_split (λ b. b == 47) path

-- a part that can name an entry: it is not empty, `.` or `..`
abbrev pub is_fit_part : List ℕ → Bool
is_fit_part name = not (length name == 0) && (not (pointwise nat_eq name (46 ∷ [])) && not (pointwise nat_eq name (46 ∷ 46 ∷ [])))

-- a path all of whose parts can name an entry; at every other path nothing stands
abbrev pub is_fit : List ℕ → Bool
is_fit path = list_all is_fit_part (parts path)

-- the parts of the folder around these parts; the root, with no parts, is around a single part
abbrev pub above : Parts → Parts
above names = take (length names - 1) names

-- a part between slashes holds none
abbrev pub has_no_slash : List ℕ → Bool
has_no_slash name = list_all (λ b. not (b == 47)) name

-- the parts of a fit path
abbrev pub fit_parts : List ℕ → Option Parts
fit_parts path = cond (is_fit path) (Some (parts path)) None

-- the last of these parts, if the others are those of a folder
abbrev pub name_in : Parts → Parts → Option (List ℕ)
name_in folder names = cond (pointwise (eq_by_cmp name_cmp) (above names) folder) (slice_get names (length names - 1)) None
