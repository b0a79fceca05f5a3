-- Pieces that are read one after another, and what the program holds of them.
use Rattle.std.proofs.Common.{◌≡◌, ℕ, zero, suc, ◌+◌, ◌-◌, ◌<◌, ◌≤◌, Bool, true, false, cond, ◌&&◌, nat_eq, List, [], ◌∷◌, ◌++◌, map, length, Option, Some, None, Result, Ok, Err, IfOk, Bor, codes, refl, sym, ap, ◌∙◌, append_assoc, append-nil, length-append, arith}
use Rattle.std.specs.Option.{option_map, option_and_then}
use Rattle.std.specs.List.{AllByRecursion, zip}
use Rattle.std.specs.List.Sorted.{IsStrictlySortedBy}
use Rattle.std.specs.declared.cmp.Ordering.TheVariants.{Less}
use Rattle.std.specs.Ordering.{is_lt, nat_cmp}
use Rattle.std.specs.Cmp.Lexicographic.{slice_cmp, nat_list_cmp_total}
use Rattle.std.proofs.lemmas.Bool.{and_parts}
use Rattle.std.proofs.lemmas.Bool.Decides.{nat_tests}
use Rattle.fx_base.proofs.Orders.{is_less}
use Rattle.fx_expr.specs.Sets.{IsAscending}
use Rattle.fx_expr.specs.Tree.{Tree, table, rows}
use Rattle.fx_expr.specs.Views.{tree_of, entry_tree}
use Rattle.fx_expr.specs.declared.value.Value.{Value}
use Rattle.fx_expr.specs.declared.value.Value.TheVariants.{Table}
use Rattle.fx_expr.proofs.Trees.{table_tree}
use Rattle.fx_read_report.specs.Limits.{ascends, strict}
use Rattle.fx_read_report.specs.Numbers.{after}
use Rattle.fx_read_report.proofs.Scans.{prepended}
use Rattle.fx_read_report.specs.Values.{keys_of, kind_at, or_pieces, piece_at, pieces_at, row_at, table_within, table_value, value_at, value_by, value_found}
use Rattle.fx_read_report.specs.declared.values.Kind.{Kind}

prepended_none : {A : Type 0} (o : Option (List A × List ℕ)) → o ≡ prepended [] o
prepended_none None = refl
prepended_none (Some m) = refl

prepended_more : {A : Type 0} (front : List A) (a : A) (o : Option (List A × List ℕ)) → prepended front (option_map (λ m. (a ∷ m.0, m.1)) o) ≡ prepended (front ++ a ∷ []) o
prepended_more front a None = refl
prepended_more front a (Some m) = ap (λ l. Some (l, m.1)) (sym (append_assoc front (a ∷ []) m.0))

module _ {A : Type 0} (read : List ℕ → Option (A × List ℕ)) (close : ℕ) where
  -- what is still to be read behind some pieces
  pub record Going (most : ℕ) (bytes : List ℕ) (i : ℕ) (front : List A) (x : List ℕ) : Type 0 where
    pub so_far : pieces_at read close most true bytes ≡ prepended front (pieces_at read close (most - i) (nat_eq i 0) x)

  pub going_none : (most : ℕ) (bytes : List ℕ) (front : List A) → front ≡ [] → Going most bytes 0 front bytes
  going_none most bytes front e =
      let all : most ≡ most - 0 = omega arith in
      let o = pieces_at read close (most - 0) true bytes in
      record { so_far = ap (λ n. pieces_at read close n true bytes) all ∙ (prepended_none o ∙ ap (λ f. prepended f o) (sym e)) }

  abbrev behind : ℕ → Option (A × List ℕ) → Option (List A × List ℕ)
  behind n o = option_and_then (λ r. option_map (λ m. (r.0 ∷ m.0, m.1)) (pieces_at read close n false r.1)) o

  step : (most : ℕ) (bytes : List ℕ) (i : ℕ) (front : List A) (x : List ℕ) → Going most bytes i front x → i < most → pieces_at read close most true bytes ≡ prepended front (or_pieces (after (close ∷ []) x) (option_and_then (λ start. behind (most - (i + 1)) (read start)) (piece_at x (nat_eq i 0))))
  step most bytes i front x g less =
      let next : most - i ≡ suc (most - (i + 1)) = omega arith in
      g.so_far ∙ ap (λ n. prepended front (pieces_at read close n (nat_eq i 0) x)) next

  pub closes : (most : ℕ) (bytes : List ℕ) (i : ℕ) (front : List A) (x y : List ℕ) → Going most bytes i front x → i < most → Some y ≡ after (close ∷ []) x → Some (front, y) ≡ pieces_at read close most true bytes
  closes most bytes i front x y g less e =
      sym (step most bytes i front x g less ∙ (ap (λ o. prepended front (or_pieces o (option_and_then (λ start. behind (most - (i + 1)) (read start)) (piece_at x (nat_eq i 0))))) (sym e) ∙ ap (λ l. Some (l, y)) (append-nil front)))

  open_ : (most : ℕ) (bytes : List ℕ) (i : ℕ) (front : List A) (x : List ℕ) → Going most bytes i front x → i < most → None ≡ after (close ∷ []) x → pieces_at read close most true bytes ≡ prepended front (option_and_then (λ start. behind (most - (i + 1)) (read start)) (piece_at x (nat_eq i 0)))
  open_ most bytes i front x g less e =
      step most bytes i front x g less ∙ ap (λ o. prepended front (or_pieces o (option_and_then (λ start. behind (most - (i + 1)) (read start)) (piece_at x (nat_eq i 0))))) (sym e)

  pub no_comma : (most : ℕ) (bytes : List ℕ) (i : ℕ) (front : List A) (x : List ℕ) → Going most bytes i front x → i < most → None ≡ after (close ∷ []) x → None ≡ piece_at x (nat_eq i 0) → None ≡ pieces_at read close most true bytes
  no_comma most bytes i front x g less e none =
      sym (open_ most bytes i front x g less e ∙ ap (λ o. prepended front (option_and_then (λ start. behind (most - (i + 1)) (read start)) o)) (sym none))

  pub no_piece : (most : ℕ) (bytes : List ℕ) (i : ℕ) (front : List A) (x start : List ℕ) → Going most bytes i front x → i < most → None ≡ after (close ∷ []) x → Some start ≡ piece_at x (nat_eq i 0) → None ≡ read start → None ≡ pieces_at read close most true bytes
  no_piece most bytes i front x start g less e some none =
      sym (open_ most bytes i front x g less e ∙ (ap (λ o. prepended front (option_and_then (λ start. behind (most - (i + 1)) (read start)) o)) (sym some) ∙ ap (λ o. prepended front (behind (most - (i + 1)) o)) (sym none)))

  pub going_more : (most : ℕ) (bytes : List ℕ) (i : ℕ) (front grown : List A) (x start : List ℕ) (a : A) (y : List ℕ) → Going most bytes i front x → i < most → None ≡ after (close ∷ []) x → Some start ≡ piece_at x (nat_eq i 0) → Some (a, y) ≡ read start → grown ≡ front ++ a ∷ [] → Going most bytes (i + 1) grown y
  going_more most bytes i front grown x start a y g less e some found made =
      let later : false ≡ nat_eq (i + 1) 0 = not_first i in
      record {
        so_far =
            open_ most bytes i front x g less e
            ∙ (ap (λ o. prepended front (option_and_then (λ start. behind (most - (i + 1)) (read start)) o)) (sym some)
            ∙ (ap (λ o. prepended front (behind (most - (i + 1)) o)) (sym found)
            ∙ (prepended_more front a (pieces_at read close (most - (i + 1)) false y)
            ∙ (ap (λ b. prepended (front ++ a ∷ []) (pieces_at read close (most - (i + 1)) b y)) later
            ∙ ap (λ f. prepended f (pieces_at read close (most - (i + 1)) (nat_eq (i + 1) 0) y)) (sym made)))));
      }
    where
      not_first : (i : ℕ) → false ≡ nat_eq (i + 1) 0
      not_first i = grind (arith, nat_tests)

  pub too_many : (most : ℕ) (bytes : List ℕ) (i : ℕ) (front : List A) (x : List ℕ) → Going most bytes i front x → most ≤ i → None ≡ pieces_at read close most true bytes
  too_many most bytes i front x g past =
      let none : most - i ≡ 0 = omega arith in
      sym (g.so_far ∙ ap (λ n. prepended front (pieces_at read close n (nat_eq i 0) x)) none)

-- ---- rows, as texts beside values

abbrev pub sides : List (List ℕ) → List Value → List (List ℕ × Tree)
sides ks vs = zip ks (map tree_of vs)

sides_push : (ks : List (List ℕ)) (vs : List Value) (k : List ℕ) (v : Value) → length vs ≡ length ks → sides (ks ++ k ∷ []) (vs ++ v ∷ []) ≡ sides ks vs ++ (k, tree_of v) ∷ []
sides_push [] [] k v e = refl
sides_push [] (w ∷ vs) k v e = absurd (omega arith)
sides_push (l ∷ ks) [] k v e = absurd (omega arith)
sides_push (l ∷ ks) (w ∷ vs) k v e = ap (λ t. (l, tree_of w) ∷ t) (sides_push ks vs k v (omega arith))

-- one row more, by the lists that were pushed to
pub sides_more : (ks ls : List (List ℕ)) (vs ws : List Value) (k : List ℕ) (v : Value) → length vs ≡ length ks → ls ≡ ks ++ k ∷ [] → ws ≡ vs ++ v ∷ [] → sides ls ws ≡ sides ks vs ++ (k, tree_of v) ∷ []
sides_more ks ls vs ws k v e f g = ap (λ a. sides a ws) f ∙ (ap (λ a. sides (ks ++ k ∷ []) a) g ∙ sides_push ks vs k v e)

pub lengths_push : {A B : Type 0} (ks ls : List A) (vs ws : List B) (k : A) (v : B) → length vs ≡ length ks → ls ≡ ks ++ k ∷ [] → ws ≡ vs ++ v ∷ [] → length ws ≡ length ls
lengths_push ks ls vs ws k v e f g = ap length g ∙ (length-append vs (v ∷ []) ∙ (ap (λ n. n + 1) e ∙ (sym (length-append ks (k ∷ [])) ∙ ap length (sym f))))

pub sides_none : (ks : List (List ℕ)) (vs : List Value) → ks ≡ [] → sides ks vs ≡ []
sides_none ks vs e = ap (λ a. sides a vs) e

pub sides_keys : (ks : List (List ℕ)) (vs : List Value) → length vs ≡ length ks → keys_of (sides ks vs) ≡ ks
sides_keys [] vs e = refl
sides_keys (k ∷ ks) [] e = absurd (omega arith)
sides_keys (k ∷ ks) (v ∷ vs) e = ap (λ t. k ∷ t) (sides_keys ks vs (omega arith))

trees_of : (ks : List (List ℕ)) (vs : List Value) → map entry_tree (zip ks vs) ≡ sides ks vs
trees_of [] vs = refl
trees_of (k ∷ ks) [] = refl
trees_of (k ∷ ks) (v ∷ vs) = ap (λ t. (k, tree_of v) ∷ t) (trees_of ks vs)

pub table_of_sides : (es : List (List ℕ × Value)) (set ks : List (List ℕ)) (vs : List Value) → set ≡ ks → es ≡ zip set vs → tree_of (Table es) ≡ table (rows (sides ks vs))
table_of_sides es set ks vs s e = table_tree es ∙ ap (λ t. table (rows t)) (ap (λ l. map entry_tree l) (e ∙ ap (λ l. zip l vs) s) ∙ trees_of ks vs)

-- ---- ascending texts

pub ascends_short : (ts : List (List ℕ)) → length ts < 2 → true ≡ ascends ts
ascends_short [] h = refl
ascends_short (t ∷ []) h = refl
ascends_short (t ∷ u ∷ ts) h = absurd (omega arith)

all_above : (t u : List ℕ) (ts : List (List ℕ)) → slice_cmp nat_cmp t u ≡ Less → AllByRecursion (λ y. slice_cmp nat_cmp u y ≡ Less) ts → AllByRecursion (λ y. slice_cmp nat_cmp t y ≡ Less) ts
all_above t u [] e p = tt
all_above t u (y ∷ ts) e p = (nat_list_cmp_total.trans t u y e p.0, all_above t u ts e p.1)

pub ascends_is : (ts : List (List ℕ)) → ascends ts ≡ true → IsAscending ts
unfolding IsStrictlySortedBy
ascends_is [] e = tt
ascends_is (t ∷ []) e = (tt, tt)
ascends_is (t ∷ u ∷ ts) e =
    let parts = and_parts (is_lt (slice_cmp nat_cmp t u)) (ascends (u ∷ ts)) e in
    let less = is_less (slice_cmp nat_cmp t u) parts.0 in
    let later = ascends_is (u ∷ ts) parts.1 in
    ((less, all_above t u ts less later.0), later)

pub ascends_of : (ts : List (List ℕ)) → IsAscending ts → ascends ts ≡ true
unfolding IsStrictlySortedBy
ascends_of [] p = refl
ascends_of (t ∷ []) p = refl
ascends_of (t ∷ u ∷ ts) p = ap (λ o. is_lt o && ascends (u ∷ ts)) p.0.0 ∙ ascends_of (u ∷ ts) p.1

-- ---- tables

module _ (levels : ℕ) (bytes inner : List ℕ) (ks : List (List ℕ)) (vs : List Value) (x : List ℕ) where
  abbrev read_rows : List ℕ → Option (List (List ℕ × Tree) × List ℕ)
  read_rows y = pieces_at (row_at strict (value_at strict levels)) 93 (length bytes) true y

  abbrev made_if : Bool → Option (Tree × List ℕ)
  made_if b = cond b (Some (table (rows (sides ks vs)), x)) None

  table_by : (b : Bool) → length vs ≡ length ks → Some inner ≡ after (codes "[") bytes → Some (sides ks vs, x) ≡ read_rows inner → ascends ks ≡ b → table_value strict (value_at strict levels) bytes ≡ made_if b
  table_by b same opened found is =
      ap (λ o. option_and_then (λ y. option_and_then (table_within strict) (read_rows y)) o) (sym opened)
      ∙ (ap (λ o. option_and_then (table_within strict) o) (sym found) ∙ ap (λ b. made_if b) (ap ascends (sides_keys ks vs same) ∙ is))

  pub table_falls : length vs ≡ length ks → Some inner ≡ after (codes "[") bytes → Some (sides ks vs, x) ≡ read_rows inner → ascends ks ≡ false → None ≡ table_value strict (value_at strict levels) bytes
  table_falls same opened found falls = sym (table_by false same opened found falls)

  pub table_stands : (set : List (List ℕ)) (es : List (List ℕ × Value)) → length vs ≡ length ks → set ≡ ks → es ≡ zip set vs → Some inner ≡ after (codes "[") bytes → Some (sides ks vs, x) ≡ read_rows inner → ascends ks ≡ true → Some (tree_of (Table es), x) ≡ table_value strict (value_at strict levels) bytes
  table_stands set es same kept made opened found up =
      ap (λ v. Some (v, x)) (table_of_sides es set ks vs kept made) ∙ sym (table_by true same opened found up)

-- ---- levels

by_kind : (levels : ℕ) (bytes : List ℕ) (k : Kind) (found : Option (Tree × List ℕ)) → (levels ≡ 0 → ⊥) → k ≡ kind_at bytes → found ≡ value_by strict (value_at strict (levels - 1)) k bytes → found ≡ value_at strict levels bytes
by_kind zero bytes k found some is e = absurd (some refl)
by_kind (suc l) bytes k found some is e =
    let below : suc l - 1 ≡ l = omega arith in
    e ∙ (ap (λ n. value_by strict (value_at strict n) k bytes) below ∙ ap (λ j. value_by strict (value_at strict l) j bytes) is)

-- what a reader of one kind found is what the reader of all kinds is to find
pub at_level : {E : Type 0} (levels : ℕ) (bytes : List ℕ) (k : Kind) (r : Result (Option (Value × Bor (List ℕ))) E) → (levels ≡ 0 → ⊥) → k ≡ kind_at bytes → IfOk r (λ f. value_found f ≡ value_by strict (value_at strict (levels - 1)) k bytes) → IfOk r (λ f. value_found f ≡ value_at strict levels bytes)
at_level levels bytes k (Ok f) some is e = by_kind levels bytes k (value_found f) some is e
at_level levels bytes k (Err f) some is e = tt
