-- What stands in a whole filestore, by the directories that list it.
use Rattle.std.specs.Prelude.{◌≡◌, ◌↔◌, ℕ, List, Some, IsSome, Contains}
use Rattle.fx_store.specs.declared.node.Node.TheVariants.{Dir}
use Rattle.fx_store.specs.Resolve.{◌/ₚ◌}
use Rattle.fx_store.specs.Whole.{Store, IsWhole}

-- a directory lists exactly the names at which something stands in it
abbrev pub DirectoriesListAll : Type 0
DirectoriesListAll =
    (S : Store) → IsWhole S → (q names : List (List ℕ)) → S q ≡ Some (Dir names) → (n : List ℕ) → Contains names n ↔ IsSome (S (q /ₚ n))

-- all but the root stands in a directory, which lists it
abbrev pub AllIsListed : Type 0
AllIsListed =
    (S : Store) → IsWhole S → (q : List (List ℕ)) (n : List ℕ) → IsSome (S (q /ₚ n)) → (names : List (List ℕ)) × (S q ≡ Some (Dir names)) × Contains names n
