-- The newest binding of a word.
use Rattle.std.proofs.Common.{◌≡◌, ℕ, zero, suc, ◌-◌, ◌<◌, ◌≤◌, Bool, true, false, cond, List, [], ◌∷◌, length, map, drop, get_or, slice_get, Option, Some, None, nat_eq, refl, ap, sym, ◌∙◌, arith}
use Rattle.std.specs.Prelude.{slice_set}
use Rattle.std.specs.Option.{option_map, option_or, unwrap_or}
use Rattle.std.specs.Cmp.Lexicographic.{pointwise}
use Rattle.std.proofs.Math.Seq.{drop-cons}
use Rattle.std.proofs.lemmas.List.{drop-map, length-map, map-set}
use Rattle.std.proofs.lemmas.Option.{slice_get-map, slice_get-get_or, slice_get_within, get_or_from_slice_get, same_Some}
use Rattle.fx_base.proofs.Results.{not_some}
use Rattle.fx_base.proofs.Orders.{nat_list_exact, bytes_itself}
use Rattle.fx_expr.specs.declared.value.Value.{Value}
use Rattle.fx_expr.specs.Bindings.{bound, assigned, IsNewest}
use Rattle.fx_expr.specs.Tree.{Tree}
use Rattle.fx_expr.specs.Views.{entry_tree, tree_of}

module _ {X : Type 0} where
  pub bound_drop : (xs : List (List ℕ × X)) (i : ℕ) (word : List ℕ) (v : X) → bound (drop i xs) word ≡ Some v → bound xs word ≡ Some v
  bound_drop [] zero word v e = e
  bound_drop [] (suc i) word v e = e
  bound_drop (b ∷ xs) zero word v e = e
  bound_drop (b ∷ xs) (suc i) word v e = ap (λ o. option_or o (cond (pointwise nat_eq b.0 word) (Some b.1) None)) (bound_drop xs i word v e)

  pub bound_here : (b : List ℕ × X) (xs : List (List ℕ × X)) (word : List ℕ) → bound xs word ≡ None → pointwise nat_eq b.0 word ≡ true → bound (b ∷ xs) word ≡ Some b.1
  bound_here b xs word e f = ap (λ o. option_or o (cond (pointwise nat_eq b.0 word) (Some b.1) None)) e ∙ ap (λ t. cond t (Some b.1) None) f

  pub bound_newest : (bindings : List (List ℕ × X)) (word : List ℕ) (i : ℕ) → (n : IsNewest bindings word i) → bound bindings word ≡ Some n.value
  bound_newest bindings word i n =
      let b : List ℕ × X = (word, n.value) in
      let within : i < length bindings = slice_get_within bindings i b n.here in
      let e : drop i bindings ≡ b ∷ drop (suc i) bindings = drop-cons bindings i b within ∙ ap (λ x. x ∷ drop (suc i) bindings) (get_or_from_slice_get bindings i b b n.here) in
      bound_drop bindings i word n.value (ap (λ l. bound l word) e ∙ bound_here b (drop (suc i) bindings) word n.none_newer (bytes_itself word))

  none_here : (older newer : Option X) → option_or newer older ≡ None → newer ≡ None
  none_here older None e = refl
  none_here older (Some x) e = absurd (cc)

  none_own : (t : Bool) (x : X) → cond t (Some x) None ≡ None → t ≡ false
  none_own true x e = absurd (cc)
  none_own false x e = refl

  pub assigned_none : (word : List ℕ) (x : X) (bindings : List (List ℕ × X)) → bound bindings word ≡ None → assigned word x bindings ≡ None
  assigned_none word x [] e = refl
  assigned_none word x (b ∷ newer) e =
      let own : Option X = cond (pointwise nat_eq b.0 word) (Some b.1) None in
      let none : bound newer word ≡ None = none_here own (bound newer word) e in
      let other : pointwise nat_eq b.0 word ≡ false = none_own (pointwise nat_eq b.0 word) b.1 (ap (λ o. option_or o own) (sym none) ∙ e) in
      ap (λ o. option_or (option_map (λ others. b ∷ others) o) (cond (pointwise nat_eq b.0 word) (Some ((word, x) ∷ newer)) None)) (assigned_none word x newer none)
      ∙ ap (λ t. cond t (Some ((word, x) ∷ newer)) None) other

  pub assigned_at : (bindings : List (List ℕ × X)) (word : List ℕ) (i : ℕ) (before x : X) → slice_get bindings i ≡ Some (word, before) → bound (drop (suc i) bindings) word ≡ None
      → assigned word x bindings ≡ Some (slice_set bindings i (word, x))
  assigned_at [] word i before x here none = absurd (cc)
  assigned_at (b ∷ newer) word zero before x here none =
      let first : b ≡ (word, before) = cc in
      ap (λ o. option_or (option_map (λ others. b ∷ others) o) (cond (pointwise nat_eq b.0 word) (Some ((word, x) ∷ newer)) None)) (assigned_none word x newer none)
      ∙ ap (λ (c : List ℕ × X). cond (pointwise nat_eq c.0 word) (Some ((word, x) ∷ newer)) None) first
      ∙ ap (λ t. cond t (Some ((word, x) ∷ newer)) None) (bytes_itself word)
  assigned_at (b ∷ newer) word (suc i) before x here none =
      ap (λ o. option_or (option_map (λ others. b ∷ others) o) (cond (pointwise nat_eq b.0 word) (Some ((word, x) ∷ newer)) None)) (assigned_at newer word i before x here none)

-- a binding that a search from the end comes to, with none for the word after it
pub newest_at : {X Y : Type 0} (f : Y → List ℕ × X) (ys : List Y) (i : ℕ) (y : Y) (word : List ℕ) → 0 < i → i ≤ length ys → y ≡ get_or ys (i - 1) y
    → bound (map f (drop i ys)) word ≡ None → pointwise nat_eq (f y).0 word ≡ true → IsNewest (map f ys) word (i - 1)
newest_at {X} f ys i y word low high here none same =
    let j : suc (i - 1) ≡ i = omega arith in
    let within : i - 1 < length ys = omega arith in
    let named : (f y).0 ≡ word = nat_list_exact (f y).0 word same in
    record {
      value = (f y).1;
      here = slice_get-map f ys (i - 1) ∙ ap (option_map f) (slice_get-get_or ys (i - 1) y within ∙ ap Some (sym here)) ∙ ap (λ (w : List ℕ). Some (w, (f y).1)) named;
      none_newer = ap (λ k. bound (drop k (map f ys)) word) j ∙ ap (λ (l : List (List ℕ × X)). bound l word) (drop-map f i ys) ∙ none;
    }

-- the value at the place of the newest binding
pub value_at : (bindings : List (List ℕ × Value)) (word : List ℕ) (i : ℕ) (b : List ℕ × Value) → IsNewest (map entry_tree bindings) word i
    → Some (tree_of (get_or bindings i b).1) ≡ bound (map entry_tree bindings) word
value_at bindings word i b n =
    let within : i < length bindings = omega (arith, slice_get_within (map entry_tree bindings) i (word, n.value) n.here, length-map bindings entry_tree) in
    let here : option_map entry_tree (slice_get bindings i) ≡ Some (word, n.value) = sym (slice_get-map entry_tree bindings i) ∙ n.here in
    let same : Some (entry_tree (get_or bindings i b)) ≡ Some (word, n.value) = ap (option_map entry_tree) (sym (slice_get-get_or bindings i b within)) ∙ here in
    let is : entry_tree (get_or bindings i b) ≡ (word, n.value) = same_Some (entry_tree (get_or bindings i b)) (word, n.value) same in
    ap (λ (t : List ℕ × Tree). Some t.1) is ∙ sym (bound_newest (map entry_tree bindings) word i n)

-- a binding with a new value, seen as trees
pub value_set : (bindings new : List (List ℕ × Value)) (word : List ℕ) (i : ℕ) (value : Value) → IsNewest (map entry_tree bindings) word i
    → ((name : List ℕ) (before : Value) → slice_get bindings i ≡ Some (name, before) → new ≡ slice_set bindings i (name, value))
    → map entry_tree new ≡ unwrap_or (assigned word (tree_of value) (map entry_tree bindings)) (map entry_tree bindings)
value_set bindings new word i value n put = by (slice_get bindings i) refl
  where
    by : (o : Option (List ℕ × Value)) → slice_get bindings i ≡ o → map entry_tree new ≡ unwrap_or (assigned word (tree_of value) (map entry_tree bindings)) (map entry_tree bindings)
    by None e = absurd (not_some (slice_get (map entry_tree bindings) i) (word, n.value) (slice_get-map entry_tree bindings i ∙ ap (option_map entry_tree) e) n.here)
    by (Some b) e =
        let same : Some (entry_tree b) ≡ Some (word, n.value) = sym (slice_get-map entry_tree bindings i ∙ ap (option_map entry_tree) e) ∙ n.here in
        let named : b.0 ≡ word = ap (λ (t : List ℕ × Tree). t.0) (same_Some (entry_tree b) (word, n.value) same) in
        let is : new ≡ slice_set bindings i (b.0, value) = put b.0 b.1 e in
        ap (λ l. map entry_tree l) is
        ∙ map-set entry_tree bindings i (b.0, value)
        ∙ ap (λ (w : List ℕ). slice_set (map entry_tree bindings) i (w, tree_of value)) named
        ∙ sym (ap (λ o. unwrap_or o (map entry_tree bindings)) (assigned_at (map entry_tree bindings) word i n.value (tree_of value) n.here n.none_newer))
