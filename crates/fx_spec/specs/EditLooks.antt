-- A law of edits: an edit looks at each path that it changes.
use Rattle.std.specs.Prelude.{◌≡◌, List, Ok}
use Rattle.fx_store.specs.declared.changes.Change.{Change}
use Rattle.fx_store.specs.Changes.{changed_paths}
use Rattle.fx_store.specs.Rule.{Ask, Known, Found, follow, AllKnown}
use Rattle.fx_expr.specs.Tree.{Tree}
use Rattle.fx_spec.specs.Edit.{store_at, create_at, remove_at}
use Rattle.fx_spec.specs.Move.{Answered}
use Rattle.fx_spec.specs.Place.{PlaceTree}

-- where the edit is answered by what is known of some paths, each path that it changes is one of these
abbrev pub LooksAtChanges : Known → Known → Ask (Answered (List Change)) → Type 0
LooksAtChanges known own edit = (changes : List Change) → follow known own edit ≡ Found (Ok changes) → AllKnown known (changed_paths changes)

pub record EditsLookAtChanges : Type 0 where
  pub store : (known own : Known) (v : Tree) (at : PlaceTree) → LooksAtChanges known own (store_at v at)
  pub create : (known own : Known) (at : PlaceTree) → LooksAtChanges known own (create_at at)
  pub remove : (known own : Known) (at : PlaceTree) → LooksAtChanges known own (remove_at at)
