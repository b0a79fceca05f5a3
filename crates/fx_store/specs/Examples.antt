-- Small filestores, and where paths land in them.
use Rattle.std.specs.Prelude.{◌≡◌, ℕ, cond, true, false, List, [], ◌∷◌, codes, Some, None}
use Rattle.std.specs.Ordering.{eq_by_cmp}
use Rattle.fx_store.specs.declared.node.Node.{Node}
use Rattle.fx_store.specs.declared.node.Node.TheVariants.{File, Dir, Link}
use Rattle.fx_store.specs.declared.node.Landing.TheVariants.{At, Absent, Blocked}
use Rattle.fx_store.specs.Names.{path_cmp}
use Rattle.fx_store.specs.Whole.{Store}
use Rattle.fx_store.specs.Resolve.{lands}

-- the filestore that has these nodes and no others
abbrev pub store_of : List (List (List ℕ) × Node) → Store
store_of [] path = None
store_of (e ∷ es) path = cond (eq_by_cmp path_cmp path e.0) (Some e.1) (store_of es path)

-- an empty directory `d`, an empty file `f` and a link `l`
abbrev pub with_link : List ℕ → Store
with_link text =
    store_of (([], Dir (codes "d" ∷ codes "f" ∷ codes "l" ∷ [])) ∷ (codes "d" ∷ [], Dir []) ∷ (codes "f" ∷ [], File [] false) ∷ (codes "l" ∷ [], Link text) ∷ [])

pub record ResolveExamples : Type 0 where
  pub through_link : lands (with_link (codes "d/..")) (codes "l" ∷ codes "f" ∷ []) true ≡ At (codes "f" ∷ [])
  pub absent : lands (with_link (codes "gone/x")) (codes "l" ∷ []) true ≡ Absent [] (codes "gone" ∷ codes "x" ∷ [])
  pub link_itself : lands (with_link (codes "gone/x")) (codes "l" ∷ []) false ≡ At (codes "l" ∷ [])
  pub no_way_up : lands (with_link (codes "gone/../x")) (codes "l" ∷ []) true ≡ Blocked []
  pub below_file : lands (with_link (codes "d")) (codes "f" ∷ codes "x" ∷ []) true ≡ Blocked (codes "f" ∷ [])
