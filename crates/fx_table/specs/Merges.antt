-- Links that are set among files and directories, in the order of paths.
use Rattle.std.specs.Prelude.{◌≡◌, ℕ, List, [], ◌∷◌, ◌++◌, map, None, ⊤}
use Rattle.std.specs.declared.cmp.Ordering.TheVariants.{Less}
use Rattle.std.specs.List.{AllByRecursion}
use Rattle.std.specs.List.Sorted.{IsStrictlySortedBy}
use Rattle.std.specs.FinMap.{find}
use Rattle.fx_store.specs.declared.changes.Change.{Change}
use Rattle.fx_store.specs.Names.{path_cmp}
use Rattle.fx_table.specs.Listed.{Mapped}
use Rattle.fx_table.specs.Lines.{link_change, link_in}
use Rattle.fx_table.specs.Table.{TableLink}

-- the links of changes, of which the last comes first
abbrev pub pending : List Change → List TableLink
pending [] = []
pending (c ∷ cs) = pending cs ++ link_in c ∷ []

abbrev pub MakesLink : Change → Type 0
MakesLink c = c ≡ link_change (link_in c)

abbrev pub MakeLinks : List Change → Type 0
MakeLinks cs = AllByRecursion MakesLink cs

-- links stand where none of these do, in the order of their paths
pub record CanMerge (es : List Mapped) (links : List TableLink) : Type 0 where
  pub apart : AllByRecursion (λ (l : TableLink). find path_cmp l.path es ≡ None) links
  pub ascending : IsStrictlySortedBy path_cmp (map (λ (l : TableLink). l.path) links)

-- links were moved, all of them from before the path
pub record MovesLinks (old new : List Change) (path : List (List ℕ)) (all all' : List Change) : Type 0 where
  pub taken : List TableLink
  pub pend : pending old ≡ taken ++ pending new
  pub moved : all' ≡ all ++ map link_change taken
  pub before : AllByRecursion (λ (l : TableLink). path_cmp l.path path ≡ Less) taken
  pub made : MakeLinks new

abbrev pub StopsAt : List (List ℕ) → List TableLink → Type 0
StopsAt path [] = ⊤
StopsAt path (l ∷ ls) = path_cmp l.path path ≡ Less → ⊥

-- and all that stand before it
pub record MovesAll (old new : List Change) (path : List (List ℕ)) (all all' : List Change) : Type 0 where
  pub moves : MovesLinks old new path all all'
  pub stops : StopsAt path (pending new)
