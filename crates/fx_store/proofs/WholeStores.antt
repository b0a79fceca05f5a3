-- Whole filestores: the root alone.
use Rattle.std.proofs.Common.{◌≡◌, ℕ, List, [], ◌∷◌, ◌++◌, Some, None, is_some, IsSome, IfSome, refl, sym, ◌∙◌, arith}
use Rattle.std.specs.List.{IsDistinct}
use Rattle.std.specs.FinMap.{empty, get, get-empty}
use Rattle.std.proofs.lemmas.Bool.{false≢true}
use Rattle.std.proofs.lemmas.List.Elements.{All-nil}
use Rattle.fx_store.specs.declared.node.Node.TheVariants.{Dir}
use Rattle.fx_store.specs.Names.{path_cmp, IsName, IsPath}
use Rattle.fx_store.specs.Whole.{Store, IsWhole, IsNode, lists}
use Rattle.fx_store.specs.Filestore.{IsTable, root_only, table_of}
use Rattle.fx_store.proofs.Tables.{IsTable-of}
use Rattle.fx_store.proofs.Sets.{IsNameSet-none}
use Rattle.fx_store.proofs.Stores.{get-set_node, IsWhole-same}

-- what the root alone gives
abbrev pub bare : Store
bare [] = Some (Dir [])
bare (name ∷ path) = None

pub get-root_only : (q : List (List ℕ)) → bare q ≡ get root_only q
get-root_only [] = sym (get-set_node empty [] [] (Some (Dir [])))
get-root_only (name ∷ path) = sym (get-set_node empty [] (name ∷ path) (Some (Dir [])) ∙ get-empty path_cmp (name ∷ path))

pub IsPath-root : IsPath []
IsPath-root = record { names = All-nil IsName; short = omega arith }

bare_listed : (path : List (List ℕ)) (name : List ℕ) → is_some (bare (path ++ name ∷ [])) ≡ lists (bare path) name
bare_listed [] name = refl
bare_listed (n ∷ path) name = refl

bare_paths : (path : List (List ℕ)) → IsSome (bare path) → IsPath path
bare_paths [] h = IsPath-root
bare_paths (n ∷ path) h = absurd (false≢true h)

bare_nodes : (path : List (List ℕ)) → IfSome (bare path) (IsNode path)
bare_nodes [] = (IsNameSet-none, λ _. refl)
bare_nodes (n ∷ path) = tt

-- the root alone is whole
pub IsWhole-root_only : IsWhole (get root_only)
IsWhole-root_only = IsWhole-same bare (get root_only) get-root_only (record { root = ([], refl); listed = bare_listed; paths = bare_paths; nodes = bare_nodes })

pub IsTable-root_only : IsTable (table_of (([], Some (Dir [])) ∷ []))
unfolding IsDistinct
IsTable-root_only = IsTable-of (([], Some (Dir [])) ∷ []) IsWhole-root_only (tt, tt)
