-- What a folder holds directly: a map from names to kinds, in ascending order of name.
use Rattle.std.specs.Prelude.{ℕ, List, [], ◌∷◌, ◌++◌, T}
use Rattle.std.specs.declared.cmp.Ordering.{Ordering}
use Rattle.std.specs.Ordering.{nat_cmp}
use Rattle.std.specs.Cmp.Lexicographic.{slice_cmp}
use Rattle.std.specs.FinMap.{FinMap, entries, is_sorted}
use Rattle.fx_outside.specs.declared.kind.HostKind.{HostKind}

-- the order of names, by bytes
abbrev pub name_cmp : List ℕ → List ℕ → Ordering
name_cmp = slice_cmp nat_cmp

abbrev pub Names : Type 0
Names = FinMap name_cmp HostKind

-- the name stands after all names that are there
abbrev pub StandsAfter : Names → List ℕ → HostKind → Type 0
StandsAfter names name kind = T (is_sorted name_cmp (entries names ++ (name, kind) ∷ []))
