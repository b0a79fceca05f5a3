-- What a reader answers at one path.
use Rattle.std.specs.Prelude.{◌≡◌, ◌⊎◌, ℕ, Bool, false, List, [], ◌∷◌, ◌++◌, Option, Some, None, ⊤}
use Rattle.fx_store.specs.declared.node.Node.{Node}
use Rattle.fx_view.specs.declared.reader.Stop.{Stop}
use Rattle.fx_view.specs.declared.reader.Stop.TheVariants as stop
use Rattle.fx_view.specs.ReadList.{ReadList}
use Rattle.fx_view.specs.Reads.{read_at}

-- the node is what the reads after the call give the path: it was read before, or is added now
abbrev pub IsReadOf : ReadList → ReadList → List (List ℕ) → Option Node → Type 0
IsReadOf old new path node =
    ((position : ℕ) × (read_at old path ≡ Some (node, position)) × (new ≡ old)) ⊎ ((position : ℕ) × (read_at old path ≡ None) × (new ≡ old ++ (path, (node, position)) ∷ []))

-- the path that is needed is the one asked for; the reader is not complete, and has not read it
abbrev pub NeedsIt : Bool → ReadList → List (List ℕ) → Stop → Type 0
NeedsIt complete reads path (stop.Needs q) = (q ≡ path) × (complete ≡ false) × (read_at reads path ≡ None)
NeedsIt complete reads path stop.NoMemory = ⊤
