-- What is written in a host's tree is read there.
use Rattle.std.specs.Prelude.{◌≡◌, ◌≢◌, ℕ, true, List, Some}
use Rattle.fx_outside.specs.Host.{HostView, Adds}
use Rattle.fx_outside.specs.Path.{is_fit}
use Rattle.fx_outside.specs.Tree.{Tree, Entry, entry_at}

-- the second tree has the entry at the path, and at any other path what the first one has
pub record IsReadBack (tree tree' : Tree) (path : List ℕ) (entry : Entry) : Type 0 where
  pub there : is_fit path ≡ true → entry_at tree' path ≡ Some entry
  pub others : (other : List ℕ) → other ≢ path → entry_at tree' other ≡ entry_at tree other

-- so it is where a host that tells its tree has added an entry
abbrev pub WrittenIsRead : Type 0
WrittenIsRead =
    (old new : HostView) (tree tree' : Tree) (path : List ℕ) (entry : Entry) → old.told ≡ Some tree → new.told ≡ Some tree' → Adds path entry old new → IsReadBack tree tree' path entry
