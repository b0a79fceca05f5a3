-- Nodes at paths, in order, make a whole filestore: by tests of the list.
use Rattle.std.proofs.Common.{◌≡◌, ℕ, Bool, true, false, cond, ◌||◌, List, [], ◌∷◌, ◌++◌, map, Option, Some, None, is_some, IfSome, All, refl, sym, ap, ◌∙◌, subst, inl, inr, ◌⊎◌}
use Rattle.std.specs.Prelude.{unwrap_or}
use Rattle.std.specs.List.{list_all}
use Rattle.std.specs.Option.{option_map}
use Rattle.std.specs.Ordering.{eq_by_cmp}
use Rattle.std.specs.FinMap.{get}
use Rattle.std.specs.Cmp.{Equal-is}
use Rattle.std.proofs.lemmas.Bool.{cases_Bool, false≢true, and_parts}
use Rattle.std.proofs.lemmas.Option.{same_Some}
use Rattle.std.proofs.lemmas.List.Elements.{All-head, All-tail}
use Rattle.fx_base.proofs.Booleans.{same_test}
use Rattle.fx_base.proofs.Results.{some_of}
use Rattle.fx_store.specs.declared.node.Node.{Node}
use Rattle.fx_store.specs.declared.node.Node.TheVariants.{File, Dir, Link}
use Rattle.fx_store.specs.Names.{path_cmp, name_cmp, has, IsPath}
use Rattle.fx_store.specs.Orders.{path_eq_same, name_same}
use Rattle.fx_store.specs.Changes.{IsChanges, change_at}
use Rattle.fx_store.specs.Examples.{store_of}
use Rattle.fx_store.specs.Filestore.{root_only}
use Rattle.fx_store.specs.Whole.{IsWhole, IsNode, lists, over}
use Rattle.fx_store.proofs.Overlays.{over-change_at}
use Rattle.fx_store.proofs.Stores.{IsWhole-same}
use Rattle.fx_store.proofs.WholeStores.{get-root_only}
use Rattle.fx_gen.specs.Notes.{Placed, made}

abbrev Path : Type 0
Path = List (List ℕ)

-- the path without its last name, and that name
abbrev pub above : Path → Path
above [] = []
above (n ∷ []) = []
above (n ∷ m ∷ p) = n ∷ above (m ∷ p)

abbrev pub last : Path → List ℕ
last [] = []
last (n ∷ []) = n
last (n ∷ m ∷ p) = last (m ∷ p)

above_is : (p : Path) (n : List ℕ) → above (p ++ n ∷ []) ≡ p
above_is [] n = refl
above_is (a ∷ []) n = refl
above_is (a ∷ b ∷ p) n = ap (λ l. a ∷ l) (above_is (b ∷ p) n)

last_is : (p : Path) (n : List ℕ) → last (p ++ n ∷ []) ≡ n
last_is [] n = refl
last_is (a ∷ []) n = refl
last_is (a ∷ b ∷ p) n = last_is (b ∷ p) n

-- what stands at a path is that of the first entry, or of a later one
first_or_later : (x : Placed) (es : List Placed) (q : Path) (n : Node) → store_of (x ∷ es) q ≡ Some n → (x ≡ (q, n)) ⊎ (store_of es q ≡ Some n)
first_or_later x es q n e = elim (cases_Bool (eq_by_cmp path_cmp q x.0)) [
  | inl same ↦
      let at : x.0 ≡ q = sym (path_eq_same q x.0 same) in
      let it : x.1 ≡ n = same_Some x.1 n (sym (ap (λ b. cond b (Some x.1) (store_of es q)) same) ∙ e) in
      inl (λ i. (at i, it i))
  | inr other ↦ inr (sym (ap (λ b. cond b (Some x.1) (store_of es q)) other) ∙ e)
]

-- what stands at a path stands in the list
pub found : (P : Placed → Type 0) (es : List Placed) → All P es → (q : Path) (n : Node) → store_of es q ≡ Some n → P (q, n)
found P [] all q n e = cc
found P (x ∷ es) all q n e = elim (first_or_later x es q n e) [
  | inl here ↦ subst P here (All-head P x es all)
  | inr later ↦ found P es (All-tail P x es all) q n later
]

-- each test of the list passes for what stands at a path
pub tested : (test : Placed → Bool) (es : List Placed) → list_all test es ≡ true → (q : Path) (n : Node) → store_of es q ≡ Some n → test (q, n) ≡ true
tested test [] pass q n e = cc
tested test (x ∷ es) pass q n e = elim (first_or_later x es q n e) [
  | inl here ↦ subst (λ z. test z ≡ true) here (and_parts (test x) (list_all test es) pass).0
  | inr later ↦ tested test es (and_parts (test x) (list_all test es) pass).1 q n later
]

either : (a b : Bool) → (a || b) ≡ true → (a ≡ true) ⊎ (b ≡ true)
either true b e = inl refl
either false b e = inr e

-- one of the names
named : (test : List ℕ → Bool) (names : List (List ℕ)) (n : List ℕ) → list_all test names ≡ true → has names n ≡ true → test n ≡ true
named test [] n pass h = absurd (false≢true h)
named test (m ∷ names) n pass h = elim (either (eq_by_cmp name_cmp n m) (has names n) h) [
  | inl same ↦ ap test (name_same n m ((Equal-is (name_cmp n m)).0 same)) ∙ (and_parts (test m) (list_all test names) pass).0
  | inr later ↦ named test names n (and_parts (test m) (list_all test names) pass).1 later
]

-- an entry stands in a directory that lists it, and each listed name stands
abbrev pub is_listed : List Placed → Placed → Bool
is_listed es ([], n) = true
is_listed es (m ∷ p, n) = lists (store_of es (above (m ∷ p))) (last (m ∷ p))

abbrev pub are_there : List Placed → Path → List (List ℕ) → Bool
are_there es p names = list_all (λ n. is_some (store_of es (p ++ n ∷ []))) names

abbrev pub lists_all : List Placed → Placed → Bool
lists_all es (p, File bytes exec) = true
lists_all es (p, Dir names) = are_there es p names
lists_all es (p, Link text) = true

pub record IsTested (es : List Placed) : Type 0 where
  pub root : (names : List (List ℕ)) × (store_of es [] ≡ Some (Dir names))
  pub listed : list_all (is_listed es) es ≡ true
  pub lists : list_all (lists_all es) es ≡ true
  pub paths : All (λ (e : Placed). IsPath e.0) es
  pub nodes : All (λ (e : Placed). IsNode e.0 e.1) es

module _ (es : List Placed) (t : IsTested es) where
  at_end : (q : Path) (name : List ℕ) (n : Node) → is_listed es (q ++ name ∷ [], n) ≡ true → lists (store_of es (above (q ++ name ∷ []))) (last (q ++ name ∷ [])) ≡ true
  at_end [] name n h = h
  at_end (a ∷ q) name n h = h

  upward : (p : Path) (name : List ℕ) → is_some (store_of es (p ++ name ∷ [])) ≡ true → lists (store_of es p) name ≡ true
  upward p name e =
      let there = some_of (store_of es (p ++ name ∷ [])) e in
      let pass = tested (is_listed es) es t.listed (p ++ name ∷ []) there.0 there.1 in
      ap (λ z. lists (store_of es z) name) (sym (above_is p name)) ∙ ap (λ z. lists (store_of es (above (p ++ name ∷ []))) z) (sym (last_is p name)) ∙ at_end p name there.0 pass

  downward : (p : Path) (name : List ℕ) → lists (store_of es p) name ≡ true → is_some (store_of es (p ++ name ∷ [])) ≡ true
  downward p name e = by (store_of es p) refl e
    where
      by : (o : Option Node) → store_of es p ≡ o → lists o name ≡ true → is_some (store_of es (p ++ name ∷ [])) ≡ true
      by None is h = absurd (false≢true h)
      by (Some (File bytes exec)) is h = absurd (false≢true h)
      by (Some (Dir names)) is h = named (λ n. is_some (store_of es (p ++ n ∷ []))) names name (tested (lists_all es) es t.lists p (Dir names) is) h
      by (Some (Link text)) is h = absurd (false≢true h)

  pub store_whole : IsWhole (store_of es)
  store_whole = record {
    root = t.root;
    listed = λ p n. same_test _ _ (upward p n) (downward p n);
    paths = λ p h. let there = some_of (store_of es p) h in found (λ e. IsPath e.0) es t.paths p there.0 there.1;
    nodes = λ p. by p (store_of es p) refl;
  }
    where
      by : (p : Path) (o : Option Node) → store_of es p ≡ o → IfSome o (IsNode p)
      by p None is = tt
      by p (Some n) is = found (λ e. IsNode e.0 e.1) es t.nodes p n is

-- the changes that make them
change_made : (es : List Placed) (q : Path) → change_at (map made es) q ≡ option_map (λ n. Some n) (store_of es q)
change_made [] q = refl
change_made (x ∷ es) q = step (eq_by_cmp path_cmp q x.0) (change_made es q)
  where
    step : (b : Bool) → change_at (map made es) q ≡ option_map (λ n. Some n) (store_of es q) → cond b (Some (Some x.1)) (change_at (map made es) q) ≡ option_map (λ n. Some n) (cond b (Some x.1) (store_of es q))
    step true rest = refl
    step false rest = rest

left : (o s r : Option Node) → (o ≡ None → s ≡ None) → unwrap_or (option_map (λ n. Some n) o) s ≡ o
left None s r h = h refl
left (Some n) s r h = refl

-- what they leave on the root alone
pub over_made : (es : List Placed) → IsChanges (map made es) → IsTested es → IsWhole (over (get root_only) (map made es))
over_made es up t =
    IsWhole-same (store_of es) (over (get root_only) (map made es)) (λ q. sym (over-change_at (get root_only) (map made es) up q ∙ ap (λ c. unwrap_or c (get root_only q)) (change_made es q) ∙ left (store_of es q) (get root_only q) None (λ e. below q e))) (store_whole es t)
  where
    below : (q : Path) → store_of es q ≡ None → get root_only q ≡ None
    below [] e = cc
    below (n ∷ q) e = sym (get-root_only (n ∷ q))
