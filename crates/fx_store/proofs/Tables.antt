-- The entries of a table of places, and the filestore that they stand for.
use Rattle.std.proofs.Common.{◌≡◌, ℕ, suc, ◌+◌, ◌<◌, Bool, true, false, cond, ◌||◌, List, [], ◌∷◌, ◌++◌, length, get_or, Option, Some, None, is_some, IsSome, slice_get, option_map, take, refl, sym, ap, subst, ◌∙◌, inl, inr, arith}
use Rattle.std.specs.Prelude.{IsTrue, option_and_then, unwrap_or}
use Rattle.std.specs.List.{list_any, IsDistinct}
use Rattle.std.specs.Map.{keys_of, lookup}
use Rattle.std.specs.Ordering.{eq_by_cmp}
use Rattle.std.specs.Cmp.{eq_by_cmp_equiv}
use Rattle.std.specs.FinMap.{get, get-empty}
use Rattle.std.proofs.lemmas.Bool.{false≢true, true≢false, cases_lt, or_right}
use Rattle.std.proofs.lemmas.Map.Keys.{apart_from_distinct}
use Rattle.std.proofs.lemmas.Option.{same_Some, none-some, slice_get_within, slice_get-map, get_or_from_slice_get}
use Rattle.std.proofs.lemmas.List.{append_assoc}
use Rattle.std.proofs.lemmas.List.Elements.{All-more, All-weaker}
use Rattle.fx_base.proofs.Names.{path_itself}
use Rattle.fx_store.specs.declared.node.Node.{Node}
use Rattle.fx_store.specs.declared.changes.Change.{Change}
use Rattle.fx_store.specs.Names.{path_cmp, has_path}
use Rattle.fx_store.specs.Orders.{path_total, path_eq_same}
use Rattle.fx_store.specs.Whole.{Nodes, IsWhole, set_node}
use Rattle.fx_store.specs.Filestore.{Table, IsTable, HasEachOnce, HavePlaces, KeepsPlaces, nodes_of, table_of, node_with, place_at}
use Rattle.fx_store.proofs.Stores.{get-set_node, same_nodes}

abbrev Path : Type 0
Path = List (List ℕ)

abbrev Entries : Type 0
Entries = List (Path × Option Node)

pub path_symm : (p q : Path) → eq_by_cmp path_cmp p q ≡ eq_by_cmp path_cmp q p
path_symm p q = (eq_by_cmp_equiv path_total).symm p q

within_cond : (b : Bool) (o : Option Node) (r : Option (Option Node)) → cond b o (unwrap_or r None) ≡ unwrap_or (cond b (Some o) r) None
within_cond true o r = refl
within_cond false o r = refl

-- what the entries give at a path
pub get-nodes_of : (es : Entries) (q : Path) → get (nodes_of es) q ≡ unwrap_or (lookup (eq_by_cmp path_cmp q) es) None
get-nodes_of [] q = get-empty path_cmp q
get-nodes_of (e ∷ es) q =
    get-set_node (nodes_of es) e.0 q e.1 ∙ (ap (cond (eq_by_cmp path_cmp q e.0) e.1) (get-nodes_of es q) ∙ within_cond (eq_by_cmp path_cmp q e.0) e.1 (lookup (eq_by_cmp path_cmp q) es))

is_some_cond : {X : Type 0} (b : Bool) (x : X) (r : Option X) (s : Bool) → is_some r ≡ s → is_some (cond b (Some x) r) ≡ (b || s)
is_some_cond true x r s e = refl
is_some_cond false x r s e = e

-- a look-up finds a value exactly where the key is there
pub is_some-lookup : {X : Type 0} (t : Path → Bool) (es : List (Path × X)) → is_some (lookup t es) ≡ list_any t (keys_of es)
is_some-lookup t [] = refl
is_some-lookup t (e ∷ es) = is_some_cond (t e.0) e.1 (lookup t es) (list_any t (keys_of es)) (is_some-lookup t es)

some_within : (r : Option (Option Node)) → IsSome (unwrap_or r None) → is_some r ≡ true
some_within None h = absurd (false≢true h)
some_within (Some o) h = refl

-- a path with a node has a place
pub placed : (es : Entries) (path : Path) → IsSome (get (nodes_of es) path) → IsTrue (has_path (keys_of es) path)
placed es path h = sym (is_some-lookup (eq_by_cmp path_cmp path) es) ∙ some_within (lookup (eq_by_cmp path_cmp path) es) (subst IsSome (get-nodes_of es path) h)

pub IsTable-of : (es : Entries) → IsWhole (get (nodes_of es)) → IsDistinct (eq_by_cmp path_cmp) (keys_of es) → IsTable (table_of es)
IsTable-of es whole distinct = record { whole = whole; distinct = distinct; placed = placed es }

within_first : (b : Bool) (o : Option Node) (r u : Option (Option Node)) → unwrap_or r None ≡ unwrap_or u None → unwrap_or (cond b (Some o) r) None ≡ unwrap_or (cond b (Some o) u) None
within_first true o r u e = refl
within_first false o r u e = e

abbrev no_node : Option Node
no_node = None

within_none : (b : Bool) → unwrap_or (cond b (Some no_node) None) no_node ≡ no_node
within_none true = refl
within_none false = refl

-- one entry more, with no node
last_none : (t : Path → Bool) (es : Entries) (p : Path) → unwrap_or (lookup t (es ++ (p, None) ∷ [])) None ≡ unwrap_or (lookup t es) None
last_none t [] p = within_none (t p)
last_none t (e ∷ es) p = within_first (t e.0) e.1 (lookup t (es ++ (p, None) ∷ [])) (lookup t es) (last_none t es p)

-- a new place without a node leaves the filestore
pub nodes_of_new : (es : Entries) (p : Path) → nodes_of (es ++ (p, None) ∷ []) ≡ nodes_of es
nodes_of_new es p =
    same_nodes _ _ (λ q. get-nodes_of (es ++ (p, None) ∷ []) q ∙ (last_none (eq_by_cmp path_cmp q) es p ∙ sym (get-nodes_of es q)))

pub keys_new : {X : Type 0} (es : List (Path × X)) (e : Path × X) → keys_of (es ++ e ∷ []) ≡ keys_of es ++ e.0 ∷ []
keys_new [] e = refl
keys_new (x ∷ es) e = ap (λ ks. x.0 ∷ ks) (keys_new es e)

or_more : (b s t : Bool) → (s ≡ true → t ≡ true) → (b || s) ≡ true → (b || t) ≡ true
or_more true s t f h = refl
or_more false s t f h = f h

pub has_path_last : (ks : List Path) (p : Path) → IsTrue (has_path (ks ++ p ∷ []) p)
has_path_last [] p = ap (λ b. b || false) (path_itself p)
has_path_last (k ∷ ks) p = or_right (eq_by_cmp path_cmp p k) _ (has_path_last ks p)

pub has_path_before : (ks more : List Path) (p : Path) → IsTrue (has_path ks p) → IsTrue (has_path (ks ++ more) p)
has_path_before [] more p h = absurd (false≢true h)
has_path_before (k ∷ ks) more p h = or_more (eq_by_cmp path_cmp p k) (has_path ks p) (has_path (ks ++ more) p) (has_path_before ks more p) h

-- a value written at a path: what the entries then stand for
pub nodes_of_put : (es fs : Entries) (p : Path) (o : Option Node) → ((q : Path) → lookup (eq_by_cmp path_cmp q) fs ≡ cond (eq_by_cmp path_cmp p q) (Some o) (lookup (eq_by_cmp path_cmp q) es)) → nodes_of fs ≡ set_node (nodes_of es) p o
nodes_of_put es fs p o updates =
    same_nodes _ _ (λ q.
    get-nodes_of fs q
    ∙ (ap (λ r. unwrap_or r None) (updates q)
    ∙ (sym (within_cond (eq_by_cmp path_cmp p q) o (lookup (eq_by_cmp path_cmp q) es))
    ∙ (ap (λ b. cond b o (unwrap_or (lookup (eq_by_cmp path_cmp q) es) None)) (path_symm p q)
    ∙ (ap (cond (eq_by_cmp path_cmp q p) o) (sym (get-nodes_of es q)) ∙ sym (get-set_node (nodes_of es) p q o))))))

none_inside : (r : Option (Option Node)) → is_some r ≡ false → unwrap_or r None ≡ None
none_inside None h = refl
none_inside (Some o) h = absurd (true≢false h)

same_cond : (b : Bool) (o r : Option Node) → (b ≡ true → r ≡ o) → r ≡ cond b o r
same_cond true o r h = h refl
same_cond false o r h = refl

-- a removal where nothing stands leaves the filestore
pub nodes_of_absent : (es : Entries) (p : Path) (o : Option Node) → is_some (lookup (eq_by_cmp path_cmp p) es) ≡ false → (IsSome o → IsTrue (has_path (keys_of es) p)) → nodes_of es ≡ set_node (nodes_of es) p o
nodes_of_absent es p (Some n) absent placed = absurd (true≢false (sym (placed refl) ∙ (sym (is_some-lookup (eq_by_cmp path_cmp p) es) ∙ absent)))
nodes_of_absent es p None absent placed =
    let none : get (nodes_of es) p ≡ None = get-nodes_of es p ∙ none_inside (lookup (eq_by_cmp path_cmp p) es) absent in
    same_nodes _ _ (λ q. same_cond (eq_by_cmp path_cmp q p) None (get (nodes_of es) q) (λ e. ap (get (nodes_of es)) (path_eq_same q p e) ∙ none) ∙ sym (get-set_node (nodes_of es) p q None))

-- ---- the places of a filestore

abbrev IndexOf : List Path → Path → Type 0
IndexOf ks p = (i : ℕ) × (i < length ks) × (slice_get ks i ≡ Some p)

index_cases : (k : Path) (ks : List Path) (p : Path) (b : Bool) → eq_by_cmp path_cmp p k ≡ b → (b || has_path ks p) ≡ true → (IsTrue (has_path ks p) → IndexOf ks p) → IndexOf (k ∷ ks) p
index_cases k ks p true e h rest = (0, omega arith, ap Some (sym (path_eq_same p k e)))
index_cases k ks p false e h rest = let found = rest h in (suc found.0, omega (arith, found.1), found.2)

-- a path that is there has an index
index_of : (ks : List Path) (p : Path) → IsTrue (has_path ks p) → IndexOf ks p
index_of [] p h = absurd (false≢true h)
index_of (k ∷ ks) p h = index_cases k ks p (eq_by_cmp path_cmp p k) refl h (index_of ks p)

-- the path at a place is the place's own
first_of : (p path : Path) (n : Node) (r : Option Node) → option_map {U = Path × Node} (λ m. (p, m)) r ≡ Some (path, n) → p ≡ path
first_of p path n None e = absurd (none-some _ e)
first_of p path n (Some m) e = ap (λ (x : Path × Node). x.0) (same_Some _ _ e)

path_at : (m : Nodes) (o : Option Path) (path : Path) (n : Node) → option_and_then (node_with m) o ≡ Some (path, n) → o ≡ Some path
path_at m None path n e = absurd (none-some _ e)
path_at m (Some p) path n e = ap Some (first_of p path n (get m p) e)

module _ (t : Table) (good : IsTable t) where
  found : (path : Path) (n : Node) → get t.nodes path ≡ Some n → (i : ℕ) × (i < length t.places) × (place_at t i ≡ Some (path, n))
  found path n e =
      let at = index_of t.places path (good.placed path (ap is_some e)) in
      (at.0, at.1, ap (option_and_then (node_with t.nodes)) at.2 ∙ ap (option_map (λ m. (path, m))) e)

  apart : (i j : ℕ) (path : Path) → i < j → slice_get t.places i ≡ Some path → slice_get t.places j ≡ Some path → ⊥
  apart i j path lt a b =
      let differ = apart_from_distinct (eq_by_cmp path_cmp) t.places i j path good.distinct lt (slice_get_within t.places j path b) in
      true≢false (sym (path_itself path) ∙ (sym ((λ k. eq_by_cmp path_cmp (get_or_from_slice_get t.places i path path a k) (get_or_from_slice_get t.places j path path b k))) ∙ differ))

  once : (i j : ℕ) (path : Path) → slice_get t.places i ≡ Some path → slice_get t.places j ≡ Some path → i ≡ j
  once i j path a b = elim (cases_lt i j) [
    | inl below ↦ absurd (apart i j path below a b)
    | inr above ↦ elim (cases_lt j i) [
      | inl less ↦ absurd (apart j i path less b a)
      | inr most ↦ omega arith
    ]
  ]

  pub HasEachOnce-table : HasEachOnce t
  HasEachOnce-table = record {
    found = found;
    once = λ i j path n m a b. once i j path (path_at t.nodes (slice_get t.places i) path n a) (path_at t.nodes (slice_get t.places j) path m b);
  }

-- ---- what the calls of the table say

module _ (places new : List Path) (kept : KeepsPlaces places new) where
  -- what has a place keeps it
  has_path_kept : (p : Path) → IsTrue (has_path places p) → IsTrue (has_path new p)
  has_path_kept p h = subst (λ ks. IsTrue (has_path ks p)) (sym kept.1) (has_path_before places kept.0 p h)

  -- one change more, of those that have places
  pub have_places_more : (changes : List Change) (i : ℕ) (c : Change) → i < length changes → c ≡ get_or changes i c → HavePlaces places (take i changes) → (IsSome c.node → IsTrue (has_path new c.path)) → HavePlaces new (take (i + 1) changes)
  have_places_more changes i c lt read before here =
      let HasPlace : List Path → Change → Type 0 = λ ks c. IsSome c.node → IsTrue (has_path ks c.path) in
      All-more (HasPlace new) changes i c lt (All-weaker (HasPlace places) (HasPlace new) (λ c h s. has_path_kept c.path (h s)) (take i changes) before) (subst (HasPlace new) read here)

pub KeepsPlaces-then : (a b d : List Path) → KeepsPlaces a b → KeepsPlaces b d → KeepsPlaces a d
KeepsPlaces-then a b d x y = (x.0 ++ y.0, y.1 ∙ (ap (λ ks. ks ++ y.0) x.1 ∙ append_assoc a x.0 y.0))

-- what a look-up found is what stands there
pub get_of_lookup : (es : Entries) (p : Path) (r : Option (Option Node)) → r ≡ lookup (eq_by_cmp path_cmp p) es → unwrap_or r None ≡ get (nodes_of es) p
get_of_lookup es p r e = ap (λ x. unwrap_or x None) e ∙ sym (get-nodes_of es p)

-- what the entry at an index holds is what stands there
pub place_of_entry : (es : Entries) (i : ℕ) (p : Path) (o : Option Node) → Some (p, o) ≡ slice_get es i → lookup (eq_by_cmp path_cmp p) es ≡ Some o → option_map (λ n. (p, n)) o ≡ place_at (table_of es) i
place_of_entry es i p o entry value =
    ap (option_map (λ n. (p, n))) (get_of_lookup es p (Some o) (sym value))
    ∙ ap (option_and_then (node_with (nodes_of es))) (ap (option_map (λ (e : Path × Option Node). e.0)) entry ∙ sym (slice_get-map (λ (e : Path × Option Node). e.0) es i))
