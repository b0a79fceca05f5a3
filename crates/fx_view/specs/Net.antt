-- Own changes against what was read, entry by entry.
use Rattle.std.specs.Prelude.{◌≡◌, ◌≢◌, ◌⊎◌, ℕ, List, [], ◌∷◌, ◌++◌, Option, Some}
use Rattle.fx_store.specs.declared.node.Node.{Node}
use Rattle.fx_store.specs.declared.changes.Change.{Change}
use Rattle.fx_view.specs.OwnList.{OwnList}
use Rattle.fx_view.specs.ReadList.{ReadList}
use Rattle.fx_view.specs.Reads.{known_of}

-- the entry sets another node than the one that was read at its path
abbrev pub Differs : ReadList → List (List ℕ) × Option Node → Type 0
Differs reads e = (was : Option Node) × (known_of reads e.0 ≡ Some was) × (e.1 ≢ was)

-- the change that the entry stands for
abbrev pub change_of : List (List ℕ) × Option Node → Change
change_of e = record { path = e.0; node = e.1 }

-- the changes are those of the entries that differ, in their order
pub data IsNetOf (reads : ReadList) : OwnList → List Change → Type 0 where
  none : IsNetOf reads [] []
  sets : {e : List (List ℕ) × Option Node} {es : OwnList} {cs : List Change} → Differs reads e → IsNetOf reads es cs → IsNetOf reads (e ∷ es) (change_of e ∷ cs)
  drops : {e : List (List ℕ) × Option Node} {es : OwnList} {cs : List Change} → (Differs reads e → ⊥) → IsNetOf reads es cs → IsNetOf reads (e ∷ es) cs

-- the change of an entry that differs comes last; any other adds none
abbrev pub Adds : ReadList → List (List ℕ) × Option Node → List Change → List Change → Type 0
Adds reads e old new = (Differs reads e × (new ≡ old ++ change_of e ∷ [])) ⊎ ((Differs reads e → ⊥) × (new ≡ old))
