-- What is evaluated over values that can be stored can be stored.
use Rattle.std.proofs.Common.{◌≡◌, ℕ, suc, ◌+◌, ◌<◌, ◌≤◌, ◌^◌, ℤ, ◌+ℤ◌, ◌-ℤ◌, Bool, true, false, cond, not, nat_le, nat_lt, nat_eq, List, [], ◌∷◌, ◌++◌, map, length, Option, Some, None, Ok, Err, refl, sym, ap, subst, ◌∙◌, arith, length-append}
use Rattle.std.specs.declared.cmp.Ordering.TheVariants.{Less, Equal, Greater}
use Rattle.std.specs.Cmp.Lexicographic.{pointwise, slice_cmp}
use Rattle.std.specs.Fmt.{signed_decimal}
use Rattle.std.specs.List.{All, filter, list_all, slice_split, onto_first}
use Rattle.std.specs.Option.{unwrap_or, option_or}
use Rattle.std.specs.Ordering.{nat_cmp, match_ordering}
use Rattle.std.proofs.lemmas.Bool.{leb-true, lt-ltb, and_parts}
use Rattle.std.proofs.lemmas.Fmt.{IsAscii-signed}
use Rattle.std.proofs.lemmas.Grind.{get_or_default_zero}
use Rattle.std.proofs.lemmas.List.Elements.{All-nil, All-cons, All-head, All-tail, All-append, All-filter, All-weaker}
use Rattle.std.proofs.lemmas.List.Kept.{IsStrictlySortedBy-filter}
use Rattle.std.proofs.lemmas.List.Sums.{length-filter, count_by-le-length, sum_by-cons}
use Rattle.std.specs.Option.{IfSome}
use Rattle.fx_base.proofs.Booleans.{second_true}
use Rattle.fx_store.specs.declared.node.Node.{Node}
use Rattle.fx_store.specs.declared.node.Node.TheVariants.{File, Dir, Link}
use Rattle.fx_store.specs.Names.{is_name, IsName, IsContent, is_component, components}
use Rattle.fx_store.specs.Rule.{Answer, answer, ◌>>=◌}
use Rattle.fx_store.specs.Whole.{Store, IsWhole, IsNode}
use Rattle.fx_store.proofs.Asks.{answer-bind}
use Rattle.fx_store.proofs.PathLists.{name_bytes}
use Rattle.fx_text.specs.declared.set.TheConstants.{UNION_LIMIT}
use Rattle.fx_text.specs.declared.text.TheConstants.{TEXT_LIMIT}
use Rattle.fx_text.specs.Sets.{has_text, with_text, set_of, weight}
use Rattle.fx_text.proofs.Canon.{ascending_set}
use Rattle.fx_text.proofs.Order.{ascending_one, ascending_none}
use Rattle.fx_text.proofs.Putting.{set_again}
use Rattle.fx_expr.specs.declared.expr.BinOp.{BinOp}
use Rattle.fx_expr.specs.declared.expr.UnOp.{UnOp}
use Rattle.fx_expr.specs.declared.fault.ExprFault.TheVariants.{TooLong, Overflow, NotNumber}
use Rattle.fx_expr.specs.Bindings.{bound}
use Rattle.fx_expr.specs.Eval.{Outcome, text_in, integer_in, truth_in, names_in, first_in, second_in, entries_in, size_in, joined, fits_64, in_range, united, pieces, without_line_feed, is_numeral, numeral_value, spells_64, read_integer, decided, two, one, then_on, unless, eval_of}
use Rattle.fx_expr.specs.ExprTree.{ExprTree}
use Rattle.fx_expr.specs.Globs.{glob_matches}
use Rattle.fx_expr.specs.Tree.{Tree}
use Rattle.fx_expr.proofs.Numerals.{fits_back, decimal_short}
use Rattle.fx_expr.specs.ShapeTree.{ShapeTree}
use Rattle.fx_spec.specs.declared.refusal.Refusal.{Refusal}
use Rattle.fx_spec.specs.SpecTree.{SpecTree}
use Rattle.fx_spec.specs.Describe.{Bindings, file_value, flag_value, dir_value, link_value, content, exists}
use Rattle.fx_spec.specs.Move.{Answered, evaluated, needed, fetch_shape, has_fetch_shape, fetched, of_shape, asks_flag, flag_at, fetch_at}
use Rattle.fx_spec.specs.Place.{PlaceTree}
use Rattle.fx_spec.specs.Edit.{is_storable}
use Rattle.fx_laws.specs.Storable.{IsSet, IsWithin, HasWithin, HeadHasWithin, ListsFew, ValuesAreStorable}
use Rattle.fx_laws.proofs.Stored.{content_there, file_there, flag_there, dir_there, link_there}
use Rattle.fx_laws.proofs.Accepted.{content_passes, same_texts, in_first}

abbrev Texts : Type 0
Texts = List (List ℕ)

-- ---- texts

no_text : IsContent []
no_text = record { short = omega arith; bytes = All-nil (λ b. b < 256) }

text_within : (v : Tree) → IsWithin v → IsContent (text_in v)
text_within (Tree.str text) h = h
text_within (Tree.int n) h = no_text
text_within (Tree.bool b) h = no_text
text_within (Tree.names names) h = no_text
text_within (Tree.pair a b) h = no_text
text_within Tree.nothing h = no_text
text_within (Tree.some v) h = no_text
text_within (Tree.table rows) h = no_text

integer_within : (v : Tree) → IsWithin v → fits_64 (integer_in v) ≡ true
integer_within (Tree.str text) h = refl
integer_within (Tree.int n) h = h
integer_within (Tree.bool b) h = refl
integer_within (Tree.names names) h = refl
integer_within (Tree.pair a b) h = refl
integer_within Tree.nothing h = refl
integer_within (Tree.some v) h = refl
integer_within (Tree.table rows) h = refl

decimal_within : (n : ℤ) → fits_64 n ≡ true → IsContent (signed_decimal n)
decimal_within n h = record {
  short = decimal_short n (fits_back n h);
  bytes = λ i d l. let ascii = IsAscii-signed n (fits_back n h).sfits i in let same = get_or_default_zero (signed_decimal n) i d l in omega (arith, ascii, same);
}

-- ---- sets

no_set : IsSet []
no_set = record { ascending = ascending_none [] refl; each = All-nil IsContent; few = omega arith }

names_within : (v : Tree) → IsWithin v → IsSet (names_in v)
names_within (Tree.str text) h = no_set
names_within (Tree.int n) h = no_set
names_within (Tree.bool b) h = no_set
names_within (Tree.names names) h = h
names_within (Tree.pair a b) h = no_set
names_within Tree.nothing h = no_set
names_within (Tree.some v) h = no_set
names_within (Tree.table rows) h = no_set

with_each : (x : List ℕ) (ys : Texts) → IsContent x → All IsContent ys → All IsContent (with_text x ys)
with_each x [] h all = All-cons IsContent x [] h all
with_each x (y ∷ ys) h all =
    elim (slice_cmp nat_cmp x y) as (λ o. All IsContent (match_ordering o (x ∷ y ∷ ys) (y ∷ ys) (y ∷ with_text x ys))) [
      | Less ↦ All-cons IsContent x (y ∷ ys) h all
      | Equal ↦ all
      | Greater ↦ All-cons IsContent y (with_text x ys) (All-head IsContent y ys all) (with_each x ys h (All-tail IsContent y ys all))
    ]

set_each : (xs : Texts) → All IsContent xs → All IsContent (set_of xs)
set_each [] all = all
set_each (x ∷ xs) all = with_each x (set_of xs) (All-head IsContent x xs all) (set_each xs (All-tail IsContent x xs all))

with_few : (x : List ℕ) (ys : Texts) → length (with_text x ys) ≤ length ys + 1
with_few x [] = omega arith
with_few x (y ∷ ys) =
    elim (slice_cmp nat_cmp x y) as (λ o. length (match_ordering o (x ∷ y ∷ ys) (y ∷ ys) (y ∷ with_text x ys)) ≤ length (y ∷ ys) + 1) [
      | Less ↦ omega arith
      | Equal ↦ omega arith
      | Greater ↦ let rest = with_few x ys in omega (arith, rest)
    ]

set_few : (xs : Texts) → length (set_of xs) ≤ length xs
set_few [] = omega arith
set_few (x ∷ xs) = let one = with_few x (set_of xs) in let rest = set_few xs in omega (arith, one, rest)

-- each text weighs one at least
no_lighter : (xs : Texts) → length xs ≤ weight xs
no_lighter [] = omega arith
no_lighter (x ∷ xs) = let rest = no_lighter xs in let more = sum_by-cons (λ (x : List ℕ). length x + 1) x xs in omega (arith, rest, more)

filtered : (test : List ℕ → Bool) (xs : Texts) → IsSet xs → IsSet (filter test xs)
filtered test xs set = record {
  ascending = IsStrictlySortedBy-filter (slice_cmp nat_cmp) test xs set.ascending;
  each = All-filter test IsContent xs set.each;
  few = let less = count_by-le-length test xs in let same = length-filter test xs in let few = set.few in omega (arith, less, same, few);
}

-- ---- the pieces of a text

record IsPiece (n : ℕ) (t : List ℕ) : Type 0 where
  short : length t ≤ n
  bytes : All (λ b. b < 256) t

longer : (n m : ℕ) → n ≤ m → (ts : Texts) → All (IsPiece n) ts → All (IsPiece m) ts
longer n m le ts all = All-weaker (IsPiece n) (IsPiece m) (λ t p. record { short = let s = p.short in omega (arith, s, le); bytes = p.bytes }) ts all

onto : (x n : ℕ) (ts : Texts) → x < 256 → All (IsPiece n) ts → All (IsPiece (suc n)) (onto_first x ts)
onto x n [] h all = All-cons (IsPiece (suc n)) (x ∷ []) [] (record { short = omega arith; bytes = All-cons (λ b. b < 256) x [] h (All-nil (λ b. b < 256)) }) (All-nil (IsPiece (suc n)))
onto x n (t ∷ ts) h all =
    let first : IsPiece n t = All-head (IsPiece n) t ts all in
    All-cons (IsPiece (suc n)) (x ∷ t) ts (record { short = let s = first.short in omega (arith, s); bytes = All-cons (λ b. b < 256) x t h first.bytes })
    (longer n (suc n) (omega arith) ts (All-tail (IsPiece n) t ts all))

split_each : (p : ℕ → Bool) (xs : List ℕ) → All (λ b. b < 256) xs → All (IsPiece (length xs)) (slice_split p xs)
split_each p [] all = All-cons (IsPiece 0) [] [] (record { short = omega arith; bytes = all }) (All-nil (IsPiece 0))
split_each p (x ∷ xs) all =
    let rest : All (IsPiece (length xs)) (slice_split p xs) = split_each p xs (All-tail (λ b. b < 256) x xs all) in
    elim (p x) as (λ b. All (IsPiece (suc (length xs))) (cond b ([] ∷ slice_split p xs) (onto_first x (slice_split p xs)))) [
      | true ↦ All-cons (IsPiece (suc (length xs))) [] (slice_split p xs) (record { short = omega arith; bytes = All-nil (λ b. b < 256) }) (longer (length xs) (suc (length xs)) (omega arith) (slice_split p xs) rest)
      | false ↦ onto x (length xs) (slice_split p xs) (All-head (λ b. b < 256) x xs all) rest
    ]

onto_few : (x : ℕ) (ts : Texts) → 0 < length ts → length (onto_first x ts) ≡ length ts
onto_few x [] some = absurd (omega (arith, some))
onto_few x (t ∷ ts) some = refl

split_some : (p : ℕ → Bool) (xs : List ℕ) → 0 < length (slice_split p xs)
split_some p [] = omega arith
split_some p (x ∷ xs) =
    let rest = split_some p xs in
    let same = onto_few x (slice_split p xs) rest in
    elim (p x) as (λ b. 0 < length (cond b ([] ∷ slice_split p xs) (onto_first x (slice_split p xs)))) [ true ↦ omega arith | false ↦ omega (arith, rest, same) ]

split_few : (p : ℕ → Bool) (xs : List ℕ) → length (slice_split p xs) ≤ length xs + 1
split_few p [] = omega arith
split_few p (x ∷ xs) =
    let rest = split_few p xs in
    let same = onto_few x (slice_split p xs) (split_some p xs) in
    elim (p x) as (λ b. length (cond b ([] ∷ slice_split p xs) (onto_first x (slice_split p xs))) ≤ suc (length xs) + 1) [ true ↦ omega (arith, rest) | false ↦ omega (arith, rest, same) ]

-- not empty
abbrev some_bytes : List ℕ → Bool
some_bytes piece = nat_lt 0 (length piece)

abbrev is_feed : ℕ → Bool
is_feed b = nat_eq b 10

lines_within : (text : List ℕ) → IsContent text → IsSet (set_of (pieces text))
lines_within text h = record {
  ascending = ascending_set (pieces text);
  each = set_each (pieces text) (All-filter some_bytes IsContent (slice_split is_feed text) (All-weaker (IsPiece (length text)) IsContent (λ t p. record { short = let s = p.short in let l = h.short in omega (arith, s, l); bytes = p.bytes }) (slice_split is_feed text) (split_each is_feed text h.bytes)));
  few = let one = set_few (pieces text) in let less = count_by-le-length some_bytes (slice_split is_feed text) in let same = length-filter some_bytes (slice_split is_feed text) in let all = split_few is_feed text in let short = h.short in omega (arith, one, less, same, all, short);
}

-- ---- what operators give

abbrev Gives : Outcome → Type 0
Gives (Ok v) = IsWithin v
Gives (Err f) = Unit {0}

then_gives : (o : Outcome) (next : Tree → Outcome) → Gives o → ((v : Tree) → IsWithin v → Gives (next v)) → Gives (then_on o next)
then_gives (Ok v) next h on = on v h
then_gives (Err f) next h on = tt

range_gives : (n : ℤ) → Gives (in_range n)
range_gives n = by (fits_64 n) refl
  where
    by : (b : Bool) → fits_64 n ≡ b → Gives (cond b (Ok (Tree.int n)) (Err Overflow))
    by true e = e
    by false e = tt

joined_gives : (a b : List ℕ) → IsContent a → IsContent b → Gives (joined a b)
joined_gives a b h k = by (nat_le (length a + length b) TEXT_LIMIT) refl
  where
    by : (t : Bool) → nat_le (length a + length b) TEXT_LIMIT ≡ t → Gives (cond t (Ok (Tree.str (a ++ b))) (Err TooLong))
    by true e = record { short = let l = leb-true (length a + length b) TEXT_LIMIT e in let same = length-append a b in omega (arith, l, same); bytes = All-append (λ b. b < 256) a b h.bytes k.bytes }
    by false e = tt

united_gives : (a b : Texts) → IsSet a → IsSet b → Gives (united a b)
united_gives a b h k = by (nat_le (weight (set_of (a ++ b))) UNION_LIMIT) refl
  where
    by : (t : Bool) → nat_le (weight (set_of (a ++ b))) UNION_LIMIT ≡ t → Gives (cond t (Ok (Tree.names (set_of (a ++ b)))) (Err TooLong))
    by true e = record {
      ascending = ascending_set (a ++ b);
      each = set_each (a ++ b) (All-append IsContent a b h.each k.each);
      few = let l = leb-true (weight (set_of (a ++ b))) UNION_LIMIT e in let light = no_lighter (set_of (a ++ b)) in omega (arith, l, light);
    }
    by false e = tt

read_gives : (text : List ℕ) → Gives (read_integer text)
read_gives text = by (spells_64 (without_line_feed text)) refl
  where
    by : (b : Bool) → spells_64 (without_line_feed text) ≡ b → Gives (cond b (Ok (Tree.int (numeral_value (without_line_feed text)))) (Err NotNumber))
    by true e = second_true (is_numeral (without_line_feed text)) (fits_64 (numeral_value (without_line_feed text))) e
    by false e = tt

two_gives : (op : BinOp) (v w : Tree) → IsWithin v → IsWithin w → Gives (two op v w)
two_gives BinOp.Join v w h k = joined_gives (text_in v) (text_in w) (text_within v h) (text_within w k)
two_gives BinOp.Plus v w h k = range_gives (integer_in v +ℤ integer_in w)
two_gives BinOp.Minus v w h k = range_gives (integer_in v -ℤ integer_in w)
two_gives BinOp.Equal v w h k = tt
two_gives BinOp.Less v w h k = tt
two_gives BinOp.And v w h k = tt
two_gives BinOp.Or v w h k = tt
two_gives BinOp.Member v w h k = tt
two_gives BinOp.Union v w h k = united_gives (names_in v) (names_in w) (names_within v h) (names_within w k)
two_gives BinOp.Without v w h k = filtered (λ x. not (has_text x (names_in w))) (names_in v) (names_within v h)

size_fits : (v : Tree) → IsWithin v → size_in v < 2 ^ 63
size_fits (Tree.str text) h = let s = h.short in omega (arith, s)
size_fits (Tree.int n) h = omega arith
size_fits (Tree.bool b) h = omega arith
size_fits (Tree.names names) h = h.few
size_fits (Tree.pair a b) h = omega arith
size_fits Tree.nothing h = omega arith
size_fits (Tree.some v) h = omega arith
size_fits (Tree.table rows) h = omega arith

first_within : (v : Tree) → IsWithin v → IsWithin (first_in v)
first_within (Tree.str text) h = h
first_within (Tree.int n) h = h
first_within (Tree.bool b) h = h
first_within (Tree.names names) h = h
first_within (Tree.pair a b) h = h.0
first_within Tree.nothing h = h
first_within (Tree.some v) h = h
first_within (Tree.table rows) h = h

second_within : (v : Tree) → IsWithin v → IsWithin (second_in v)
second_within (Tree.str text) h = h
second_within (Tree.int n) h = h
second_within (Tree.bool b) h = h
second_within (Tree.names names) h = h
second_within (Tree.pair a b) h = h.1
second_within Tree.nothing h = h
second_within (Tree.some v) h = h
second_within (Tree.table rows) h = h

keys_within : (v : Tree) → IsWithin v → IsSet (map (λ e. e.0) (entries_in v))
keys_within (Tree.str text) h = no_set
keys_within (Tree.int n) h = no_set
keys_within (Tree.bool b) h = no_set
keys_within (Tree.names names) h = no_set
keys_within (Tree.pair a b) h = no_set
keys_within Tree.nothing h = no_set
keys_within (Tree.some v) h = no_set
keys_within (Tree.table rows) h = h.0

one_gives : (op : UnOp) (v : Tree) → IsWithin v → Gives (one op v)
one_gives UnOp.Not v h = tt
one_gives UnOp.One v h = record {
  ascending = ascending_one (text_in v ∷ []) (text_in v) refl;
  each = All-cons IsContent (text_in v) [] (text_within v h) (All-nil IsContent);
  few = omega arith;
}
one_gives UnOp.Lines v h = lines_within (text_in v) (text_within v h)
one_gives UnOp.Size v h = lt-ltb (size_in v) (2 ^ 63) (size_fits v h)
one_gives UnOp.Int v h = read_gives (text_in v)
one_gives UnOp.Text v h = decimal_within (integer_in v) (integer_within v h)
one_gives UnOp.First v h = first_within v h
one_gives UnOp.Second v h = second_within v h
one_gives UnOp.Keys v h = keys_within v h
one_gives UnOp.Present v h = tt

unless_gives : (op : BinOp) (v : Tree) (rest : Outcome) → Gives rest → Gives (unless (decided op v) rest)
unless_gives BinOp.And v rest h = elim (truth_in v) as (λ b. Gives (unless (cond b None (Some (Tree.bool false))) rest)) [ true ↦ h | false ↦ tt ]
unless_gives BinOp.Or v rest h = elim (truth_in v) as (λ b. Gives (unless (cond b (Some (Tree.bool true)) None) rest)) [ true ↦ tt | false ↦ h ]
unless_gives BinOp.Join v rest h = h
unless_gives BinOp.Plus v rest h = h
unless_gives BinOp.Minus v rest h = h
unless_gives BinOp.Equal v rest h = h
unless_gives BinOp.Less v rest h = h
unless_gives BinOp.Member v rest h = h
unless_gives BinOp.Union v rest h = h
unless_gives BinOp.Without v rest h = h

-- ---- expressions

abbrev HasGood : List ℕ × Tree → Type 0
HasGood b = IsWithin b.1

bound_within : (env : Bindings) (word : List ℕ) → All HasGood env → IsWithin (unwrap_or (bound env word) (Tree.bool false))
bound_within [] word all = tt
bound_within (b ∷ newer) word all = by (bound newer word) (bound_within newer word (All-tail HasGood b newer all))
  where
    own : (t : Bool) → IsWithin (unwrap_or (cond t (Some b.1) None) (Tree.bool false))
    own true = All-head HasGood b newer all
    own false = tt

    by : (o : Option Tree) → IsWithin (unwrap_or o (Tree.bool false)) → IsWithin (unwrap_or (option_or o (cond (pointwise nat_eq b.0 word) (Some b.1) None)) (Tree.bool false))
    by None h = own (pointwise nat_eq b.0 word)
    by (Some v) h = h

module _ (env : Bindings) (all : All HasGood env) where
  gives : (e : ExprTree) → HasWithin e → Gives (eval_of env e)
  gives (ExprTree.str text) h = h
  gives (ExprTree.int n) h = h
  gives (ExprTree.bool b) h = tt
  gives ExprTree.empty h = no_set
  gives (ExprTree.var word) h = bound_within env word all
  gives (ExprTree.bin op a b) h = then_gives (eval_of env a) _ (gives a h.0) (λ v k. unless_gives op v (then_on (eval_of env b) (λ w. two op v w)) (then_gives (eval_of env b) (λ w. two op v w) (gives b h.1) (λ w l. two_gives op v w k l)))
  gives (ExprTree.un op a) h = then_gives (eval_of env a) (λ v. one op v) (gives a h) (λ v k. one_gives op v k)
  gives (ExprTree.choose c a b) h = then_gives (eval_of env c) _ (gives c h.0) (λ v k. chosen (truth_in v) (gives a h.1) (gives b h.2))
    where
      chosen : (t : Bool) → Gives (eval_of env a) → Gives (eval_of env b) → Gives (cond t (eval_of env a) (eval_of env b))
      chosen true x y = x
      chosen false x y = y
  gives (ExprTree.only a glob) h = then_gives (eval_of env a) _ (gives a h) (λ v k. filtered (λ x. glob_matches glob x) (names_in v) (names_within v k))

storable_within : (v : Tree) → IsWithin v → is_storable v ≡ true
storable_within (Tree.str text) h = content_passes text h.short h.bytes
storable_within (Tree.int n) h = refl
storable_within (Tree.bool b) h = refl
storable_within (Tree.names names) h = ap (λ s. pointwise (pointwise nat_eq) s names) (set_again names h.ascending) ∙ same_texts names
storable_within (Tree.pair a b) h = refl
storable_within Tree.nothing h = refl
storable_within (Tree.some v) h = refl
storable_within (Tree.table rows) h = refl

-- ---- fetches

name_within : (n : List ℕ) → IsName n → IsContent n
unfolding is_name
name_within n h = record {
  short = let l : length n ≤ 255 = leb-true (length n) 255 (and_parts _ _ (and_parts _ _ (and_parts _ _ (and_parts _ _ (and_parts _ _ h).0).0).0).0).1 in omega (arith, l);
  bytes = name_bytes n h;
}

evaluated_within : (o : Outcome) (v : Tree) → Gives o → evaluated o ≡ Ok v → IsWithin v
evaluated_within (Ok w) v h e = let same : w ≡ v = cc in subst IsWithin same h
evaluated_within (Err f) v h e = cc

module _ (S : Store) (whole : IsWhole S) (few : ListsFew S) where
  node_within : (q : List (List ℕ)) (node : Node) → S q ≡ Some node → IsNode q node
  node_within q node e = subst (λ x. IfSome x (IsNode q)) e (whole.nodes q)

  file_within : (p : List (List ℕ)) (v : Tree) → answer S (content file_value true p >>= λ v. Answer (needed Refusal.Lacks v)) ≡ Ok v → IsWithin v
  file_within p v e =
      let w = content_there S file_value true p v e in
      let f = file_there (S w.0) v w.2 in
      subst IsWithin (sym f.2) (node_within w.0 (File f.0 f.1) f.3)

  dir_within : (p : List (List ℕ)) (v : Tree) → answer S (content dir_value true p >>= λ v. Answer (needed Refusal.Lacks v)) ≡ Ok v → IsWithin v
  dir_within p v e =
      let w = content_there S dir_value true p v e in
      let f = dir_there (S w.0) v w.2 in
      let node = node_within w.0 (Dir f.0) f.2 in
      subst IsWithin (sym f.1) (record { ascending = node.0.ascending; each = All-weaker IsName IsContent name_within f.0 node.0.names; few = few w.0 f.0 f.2 })

  link_within : (p : List (List ℕ)) (v : Tree) → answer S (content link_value false p >>= λ v. Answer (needed Refusal.Lacks v)) ≡ Ok v → IsWithin v
  link_within p v e =
      let w = content_there S link_value false p v e in
      let f = link_there (S w.0) v w.2 in
      let text = node_within w.0 (Link f.0) f.2 in
      subst IsWithin (sym f.1) (record { short = let l = leb-true (length f.0) 4096 (in_first (nat_lt 0 (length f.0)) (nat_le (length f.0) 4096) (list_all is_component (components f.0)) text.form) in omega (arith, l); bytes = text.bytes })

  flag_within : (p : List (List ℕ)) (v : Tree) → answer S (flag_at p) ≡ Ok v → IsWithin v
  flag_within p v e =
      let w = content_there S flag_value true p v e in
      let f = flag_there (S w.0) v w.2 in
      subst IsWithin (sym f.2) tt

  truth_within : (p : List (List ℕ)) (v : Tree) → answer {A = Answered Tree} S (exists p >>= λ there. Answer (Ok (Tree.bool there))) ≡ Ok v → IsWithin v
  truth_within p v e = by (answer S (exists p)) (sym (answer-bind {B = Answered Tree} S (exists p) (λ there. Answer (Ok (Tree.bool there)))) ∙ e)
    where
      by : (there : Bool) → ◌≡◌ {A = Answered Tree} (Ok (Tree.bool there)) (Ok v) → IsWithin v
      by there h = let same : Tree.bool there ≡ v = cc in subst IsWithin same tt

  form_within : (p : List (List ℕ)) (env : Bindings) (s : SpecTree) (v : Tree) → All HasGood env → HeadHasWithin s → answer S (fetched p env s) ≡ Ok v → IsWithin v
  form_within p env SpecTree.file v all h e = file_within p v e
  form_within p env SpecTree.dir v all h e = dir_within p v e
  form_within p env SpecTree.link v all h e = link_within p v e
  form_within p env (SpecTree.focus x s) v all h e = evaluated_within (eval_of env x) v (gives env all x h) e
  form_within p env (SpecTree.pair x a b) v all h e = cc
  form_within p env (SpecTree.comp s x set) v all h e = evaluated_within (eval_of env set) v (gives env all set h) e
  form_within p env (SpecTree.opt s) v all h e = truth_within p v e
  form_within p env (SpecTree.pred x) v all h e = evaluated_within (eval_of env x) v (gives env all x h) e
  form_within p env (SpecTree.call args params s) v all h e = cc
  form_within p env (SpecTree.last args params) v all h e = cc

  fetch_within : (at : PlaceTree) → All HasGood at.env → HeadHasWithin at.spec → (shape : ShapeTree) (v : Tree) → answer S (fetch_at shape at) ≡ Ok v → IsWithin v
  fetch_within at all h shape v e = by (asks_flag shape at.spec) (has_fetch_shape shape (fetch_shape at.spec)) e
    where
      by : (flag fits : Bool) → answer S (cond flag (flag_at at.path) (of_shape fits (fetched at.path at.env at.spec))) ≡ Ok v → IsWithin v
      by true fits e = flag_within at.path v e
      by false true e = form_within at.path at.env at.spec v all h e
      by false false e = cc

pub values_are_storable : ValuesAreStorable
values_are_storable = record { evaluated = λ env e v all h is. subst Gives is (gives env all e h); fetched = fetch_within; storable = storable_within }
