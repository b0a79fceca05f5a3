-- What the entries of a log have left at one path.
use Rattle.std.specs.Prelude.{ℕ, cond, nat_lt, List, [], ◌∷◌, Option, Some, None}
use Rattle.std.specs.List.{fold}
use Rattle.std.specs.List.Sorted.{IsNonDecreasingBy}
use Rattle.fx_store.specs.declared.node.Node.{Node}
use Rattle.fx_shared.specs.declared.versions.Version.{Version}

-- their entries ascend
abbrev pub AreAscending : List Version → Type 0
AreAscending versions = IsNonDecreasingBy (λ (v : Version). v.entry) versions

-- what a version has left, where its entry is below a number
abbrev pub version_before : ℕ → Option Node → Version → Option Node
version_before i was v = cond (nat_lt v.entry i) v.node was

-- what the last of the versions below a number has left; else what was loaded
abbrev pub version_at : Option Node → List Version → ℕ → Option Node
version_at loaded versions i = fold (version_before i) loaded versions

-- the version that an entry's change of a path makes, if it has one
abbrev pub version_of : ℕ → Option (Option Node) → List Version
version_of entry None = []
version_of entry (Some node) = record { entry = entry; node = node } ∷ []
