-- The versions of all paths, as a table has them.
use Rattle.std.specs.Prelude.{◌≡◌, ℕ, ◌<◌, false, List, [], ◌∷◌, ◌++◌, All, Option, Some, None, Vec, vec_len, vec_capacity, IsSomeAnd}
use Rattle.std.specs.declared.alloc.Global.{Global}
use Rattle.std.specs.Map.{lookup}
use Rattle.std.specs.Ordering.{eq_by_cmp}
use Rattle.fx_store.specs.declared.changes.Change.{Change}
use Rattle.fx_store.specs.Changes.{change_at}
use Rattle.fx_store.specs.Names.{path_cmp}
use Rattle.fx_shared.specs.declared.versions.Version.{Version}
use Rattle.fx_shared.specs.Versions.{version_of}

abbrev pub Listed : Type 0
Listed = Vec Version Global

abbrev pub VersionTable : Type 0
VersionTable = List (List (List ℕ) × Listed)

abbrev pub list_in : VersionTable → List (List ℕ) → Option Listed
list_in table path = lookup (eq_by_cmp path_cmp path) table

abbrev pub listed : Option Listed → List Version
listed None = []
listed (Some v) = v.items

-- the versions of a path
abbrev pub versions_in : VersionTable → List (List ℕ) → List Version
versions_in table path = listed (list_in table path)

abbrev pub IsSpare : Listed → Type 0
IsSpare v = vec_len v < vec_capacity v

-- the path has a list, with room for one version more
abbrev pub HasRoom : VersionTable → List (List ℕ) → Type 0
HasRoom table path = IsSomeAnd (list_in table path) IsSpare

-- so has each path of the changes
abbrev pub HaveRoom : VersionTable → List Change → Type 0
HaveRoom table changes = All (λ (c : Change). HasRoom table c.path) changes

-- no path has other versions, and none lost its room
pub record IsRoomier (old new : VersionTable) : Type 0 where
  pub same : (path : List (List ℕ)) → versions_in new path ≡ versions_in old path
  pub kept : (path : List (List ℕ)) → HasRoom old path → HasRoom new path

-- the path has one version more, and no other path another list
pub record HasOneMore (old new : VersionTable) (path : List (List ℕ)) (version : Version) : Type 0 where
  pub here : versions_in new path ≡ versions_in old path ++ version ∷ []
  pub others : (other : List (List ℕ)) → eq_by_cmp path_cmp path other ≡ false → list_in new other ≡ list_in old other

-- each path has one version more exactly where the changes change it
abbrev pub AreAdded : VersionTable → VersionTable → List Change → ℕ → Type 0
AreAdded old new changes entry = (path : List (List ℕ)) → versions_in new path ≡ versions_in old path ++ version_of entry (change_at changes path)
