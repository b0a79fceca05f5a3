-- What the names of a path are held in: none for the root, or the first of some that are shared, and its own for an entry.
use Rattle.std.specs.Prelude.{ℕ, List, [], ◌∷◌, ◌++◌, take}
use Rattle.std.specs.Arc.{arc_slice_items}
use Rattle.fx_store.specs.declared.path.Held.{Held}
use Rattle.fx_store.specs.declared.path.Held.TheVariants.{Root, Names, Entry}

abbrev pub held_names : Held → List (List ℕ)
held_names Root = []
held_names (Names names count) = take count (arc_slice_items names)
held_names (Entry entry) = take entry.value.count (arc_slice_items entry.value.names) ++ entry.value.name ∷ []
