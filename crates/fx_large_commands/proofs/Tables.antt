-- The nodes of a filestore, counted by the places of its table.
use Rattle.std.proofs.Common.{◌≡◌, ℕ, ◌<◌, Bool, true, false, cond, ◌&&◌, ◌||◌, T, List, [], ◌∷◌, length, get_or, is_some, Option, Some, None, option_map, refl, sym, ap, ◌∙◌}
use Rattle.std.specs.Cmp.{eq_by_cmp_equiv}
use Rattle.std.specs.FinMap.{get, get-entries, entries, entries_sorted, find, is_sorted}
use Rattle.std.specs.FinMap.Entries.{below_all}
use Rattle.std.specs.List.{slice_get, count_by, list_any, IsDistinct, AllByRecursion}
use Rattle.std.specs.Map.{keys_of}
use Rattle.std.specs.Option.{option_and_then}
use Rattle.std.specs.Ordering.{is_eq, is_lt, eq_by_cmp}
use Rattle.std.specs.Set.{is_member, IsIntersection}
use Rattle.std.proofs.lemmas.Option.{slice_get-get_or}
use Rattle.std.proofs.lemmas.Map.Entries.{length-keys_of}
use Rattle.std.proofs.lemmas.Map.Made.{length-IsIntersection}
use Rattle.std.proofs.lemmas.Map.Keys.{IsDistinct-cons}
use mathlib.Core.Path.{fun_ext}
use Rattle.fx_outside.proofs.Sorted.{first, second, is_less}
use Rattle.fx_outside.proofs.Trees.{parts_total}
use Rattle.fx_store.specs.declared.node.Node.{Node}
use Rattle.fx_store.specs.Filestore.{Table, IsTable, node_with, place_at}
use Rattle.fx_store.specs.Names.{path_cmp}
use Rattle.fx_large_commands.specs.Summary.{node_count}

abbrev Path : Type 0
Path = List (List ℕ)

abbrev same : Path → Path → Bool
same = eq_by_cmp path_cmp

-- a path is a key where it has a value
key_found : {X : Type 0} (es : List (Path × X)) (q : Path) → is_member same (keys_of es) q ≡ is_some (find path_cmp q es)
key_found [] q = refl
key_found (e ∷ es) q = elim (same q e.0) as (λ t. (t || list_any (same q) (keys_of es)) ≡ is_some (cond t (Some e.1) (find path_cmp q es))) [ true ↦ refl | false ↦ key_found es q ]

there : (t : Table) → IsTable t → (q : Path) → is_member same (keys_of (entries t.nodes)) q ≡ is_some (get t.nodes q)
there t is q = key_found (entries t.nodes) q ∙ ap (λ o. is_some o) (sym (get-entries t.nodes q))

in_both : (a b : Bool) → (b ≡ true → a ≡ true) → b ≡ (a && b)
in_both true b h = refl
in_both false true h = let no : false ≡ true = h refl in cc
in_both false false h = refl

above_keys : {X : Type 0} (k : Path) (es : List (Path × X)) → T (below_all path_cmp k es) → AllByRecursion (λ y. same k y ≡ false) (keys_of es)
above_keys k [] h = tt
above_keys k (e ∷ es) h = (ap is_eq (is_less _ (first (is_lt (path_cmp k e.0)) _ h)), above_keys k es (second (is_lt (path_cmp k e.0)) _ h))

distinct_keys : {X : Type 0} (es : List (Path × X)) → T (is_sorted path_cmp es) → IsDistinct same (keys_of es)
unfolding IsDistinct
distinct_keys [] h = tt
distinct_keys (e ∷ es) h =
    IsDistinct-cons same e.0 (keys_of es) (above_keys e.0 es (first (below_all path_cmp e.0 es) _ h)) (distinct_keys es (second (below_all path_cmp e.0 es) _ h))

-- each node has one place, so that the places with a node are as many as the nodes
pub counted_places : (t : Table) → IsTable t → count_by (λ p. is_some (get t.nodes p)) t.places ≡ node_count t.nodes
counted_places t is =
    let keys = keys_of (entries t.nodes) in
    let shared : IsIntersection same t.places keys keys = λ q. in_both (is_member same t.places q) (is_member same keys q) (λ key. is.placed q (sym (there t is q) ∙ key)) in
    ap (λ f. count_by f t.places) (fun_ext (λ p. sym (there t is p)))
    ∙ sym (length-IsIntersection (eq_by_cmp_equiv parts_total) t.places keys keys is.distinct (distinct_keys (entries t.nodes) (entries_sorted t.nodes)) shared)
    ∙ length-keys_of (entries t.nodes)

option_some : {A B : Type 0} (f : A → B) (o : Option A) → is_some (option_map f o) ≡ is_some o
option_some f None = refl
option_some f (Some x) = refl

-- what stands at a place tells whether its path has a node
pub place_there : {A : Type 0} (f : A → Path × Node) (t : Table) (i : ℕ) (o : Option A) (b : Bool) → i < length t.places → option_map f o ≡ place_at t i → b ≡ is_some o → (path : Path) × (slice_get t.places i ≡ Some path) × (b ≡ is_some (get t.nodes path))
place_there f t i o b inside is told =
    let path = get_or t.places i [] in
    let at = slice_get-get_or t.places i [] inside in (
      path,
      at,
      told ∙ sym (option_some f o) ∙ ap (λ o. is_some o) (is ∙ ap (option_and_then (node_with t.nodes)) at) ∙ option_some (λ n. (path, n)) (get t.nodes path),
    )
