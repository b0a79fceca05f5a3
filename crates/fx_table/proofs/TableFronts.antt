-- Two tables at the front of one text: one is a front of the other.
use Rattle.fx_table.proofs.Prelude.{ascending_front, same_heads, path_cmp, AreLinesOver, IsLine, Setting, TableLine, is_feed, line_of, lines_text, read_from, read_line, IsFirstBadOf, All, Err, List, Ok, Result, [], ap, append-nil, append_assoc, arith, flat_map, inl, inr, length, length-append, map, refl, subst, suc, sym, take, ℕ, ◌++◌, ◌+◌, ◌-◌, ◌∙◌, ◌∷◌, ◌≡◌, ◌⊎◌, append_cancel_left, map-append, nil_from_length, All-cons, All-head, All-nil, All-tail, same_Some, slice_split, IsStrictlySortedBy, unwrap_or, result_ok}
use Rattle.fx_table.proofs.TableLines.{Stands, paths_of, first_line, line_read, lines_are_read, texts_are_lines, bad_line_is_first}

-- ---- a front of a table is a table

all_front : {A : Type 0} (P : A → Type 0) (xs ys : List A) → All P (xs ++ ys) → All P xs
all_front P [] ys all = All-nil P
all_front P (x ∷ xs) ys all = All-cons P x xs (All-head P x (xs ++ ys) all) (all_front P xs ys (All-tail P x (xs ++ ys) all))

table_front : (S : Setting) (ms ns : List TableLine) → AreLinesOver S (ms ++ ns) → AreLinesOver S ms
table_front S ms ns table = record {
  valid = all_front IsLine ms ns table.valid;
  stand = all_front (Stands S) ms ns table.stand;
  ascending = ascending_front path_cmp ([] ∷ paths_of ms) (paths_of ns) (subst (λ l. IsStrictlySortedBy path_cmp ([] ∷ l)) (map-append (λ (l : TableLine). l.path) ms ns) table.ascending);
}

-- ---- one of two tables is a front of the other

-- the second is longer by these, which stand in what is left behind the first
pub record IsLonger (ms ns : List TableLine) (r s : List ℕ) : Type 0 where
  pub more : List TableLine
  pub links : ns ≡ ms ++ more
  pub rest : r ≡ lines_text more ++ s

first_is : (a b : TableLine) (u v : List ℕ) → IsLine a → IsLine b → (line_of a ++ 10 ∷ []) ++ u ≡ (line_of b ++ 10 ∷ []) ++ v → (a ≡ b) × (u ≡ v)
first_is a b u v valid valid' e =
    let lines : line_of a ∷ slice_split is_feed u ≡ line_of b ∷ slice_split is_feed v = sym (first_line a u) ∙ (ap (slice_split is_feed) e ∙ first_line b v) in
    let line = same_heads (line_of a) (line_of b) (slice_split is_feed u) (slice_split is_feed v) lines in
    let link : a ≡ b = same_Some a b (sym (line_read a valid) ∙ (ap read_line line ∙ line_read b valid')) in
    (link, append_cancel_left (line_of a ++ 10 ∷ []) u v (e ∙ ap (λ l. (l ++ 10 ∷ []) ++ v) (sym line)))

text_first : (a : TableLine) (ms : List TableLine) (r : List ℕ) → lines_text (a ∷ ms) ++ r ≡ (line_of a ++ 10 ∷ []) ++ (lines_text ms ++ r)
text_first a ms r = append_assoc (line_of a ++ 10 ∷ []) (lines_text ms) r

pub compared : (ms ns : List TableLine) (r s : List ℕ) → All IsLine ms → All IsLine ns → lines_text ms ++ r ≡ lines_text ns ++ s → IsLonger ms ns r s ⊎ IsLonger ns ms s r
compared [] ns r s valid valid' e = inl (record { more = ns; links = refl; rest = e })
compared (a ∷ ms) [] r s valid valid' e = inr (record { more = a ∷ ms; links = refl; rest = sym e })
compared (a ∷ ms) (b ∷ ns) r s valid valid' e =
    let first = first_is a b (lines_text ms ++ r) (lines_text ns ++ s) (All-head IsLine a ms valid) (All-head IsLine b ns valid') (sym (text_first a ms r) ∙ (e ∙ text_first b ns s)) in
    elim (compared ms ns r s (All-tail IsLine a ms valid) (All-tail IsLine b ns valid') first.1) [
      | inl longer ↦ inl (record { more = longer.more; links = (λ i. sym first.0 i ∷ longer.links i); rest = longer.rest })
      | inr longer ↦ inr (record { more = longer.more; links = (λ i. first.0 i ∷ longer.links i); rest = longer.rest })
    ]

nothing_more : (more : List TableLine) (r : List ℕ) → [] ≡ lines_text more ++ r → more ≡ []
nothing_more [] r e = refl
nothing_more (m ∷ more) r e =
    absurd (omega (arith, ap length e, length-append (lines_text (m ∷ more)) r, length-append (line_of m ++ 10 ∷ []) (lines_text more), length-append (line_of m) (10 ∷ [])))

-- a table at the front is a front of the one that is the whole text
pub before_end : (ms ns : List TableLine) (r : List ℕ) → All IsLine ms → All IsLine ns → lines_text ms ++ r ≡ lines_text ns → IsLonger ms ns r []
before_end ms ns r valid valid' e = elim (compared ms ns r [] valid valid' (e ∙ sym (append-nil (lines_text ns)))) [
  | inl longer ↦ longer
  | inr longer ↦
      let none = nothing_more longer.more r longer.rest in
      let same : ms ≡ ns = longer.links ∙ (ap (λ l. ns ++ l) none ∙ append-nil ns) in
      record { more = []; links = sym same ∙ sym (append-nil ms); rest = sym (longer.rest ∙ ap (λ l. lines_text l ++ r) none) }
]

-- ---- the lines before a bad one

lines_taken : (ls : List TableLine) (rest : List ℕ) → take (length ls) (slice_split is_feed (lines_text ls ++ rest)) ≡ map line_of ls
lines_taken [] rest = refl
lines_taken (l ∷ ls) rest =
    ap (λ t. take (suc (length ls)) (slice_split is_feed t)) (text_first l ls rest)
    ∙ (ap (take (suc (length ls))) (first_line l (lines_text ls ++ rest)) ∙ ap (λ t. line_of l ∷ t) (lines_taken ls rest))

text_of_lines : (ls : List TableLine) → flat_map (λ line. line ++ 10 ∷ []) (map line_of ls) ≡ lines_text ls
text_of_lines [] = refl
text_of_lines (l ∷ ls) = ap (λ t. (line_of l ++ 10 ∷ []) ++ t) (text_of_lines ls)

so_many : (n m k : ℕ) → n ≡ m + k → n - k ≡ m
so_many n m k e = omega arith

-- what the lines before a bad one say is what stands there
pub lines_before_are : (S : Setting) (first : ℕ) (text : List ℕ) (number : ℕ) (bad : IsFirstBadOf S first text number) → unwrap_or (result_ok (read_from S first (flat_map (λ line. line ++ 10 ∷ []) (take (number - first) (slice_split is_feed text))))) [] ≡ bad.lines
lines_before_are S first text number bad =
    ap (λ n. unwrap_or (result_ok (read_from S first (flat_map (λ line. line ++ 10 ∷ []) (take n (slice_split is_feed text))))) []) (so_many number (length bad.lines) first bad.bad.place)
    ∙ ap (λ t. unwrap_or (result_ok (read_from S first (flat_map (λ line. line ++ 10 ∷ []) (take (length bad.lines) (slice_split is_feed t))))) []) bad.parts
    ∙ ap (λ ls. unwrap_or (result_ok (read_from S first (flat_map (λ line. line ++ 10 ∷ []) ls))) []) (lines_taken bad.lines bad.rest)
    ∙ ap (λ t. unwrap_or (result_ok (read_from S first t)) []) (text_of_lines bad.lines)
    ∙ ap (λ r. unwrap_or (result_ok r) []) (lines_are_read S first bad.lines bad.table)

-- ---- no table goes on where a line is bad

stops_here : (S : Setting) (first : ℕ) (text : List ℕ) (number : ℕ) (bad : IsFirstBadOf S first text number) (links : List TableLine) (s : List ℕ) → AreLinesOver S links → (more : List TableLine) → links ≡ bad.lines ++ more → bad.rest ≡ lines_text more ++ s → more ≡ []
stops_here S first text number bad links s table [] is rest = refl
stops_here S first text number bad links s table (l ∷ more) is rest =
    let apart : (bad.lines ++ l ∷ []) ++ more ≡ links = append_assoc bad.lines (l ∷ []) more ∙ sym is in
    let longer = table_front S (bad.lines ++ l ∷ []) more (subst (AreLinesOver S) (sym apart) table) in
    absurd (bad.bad.stops l (lines_text more ++ s) (rest ∙ (text_first l more s ∙ append_assoc (line_of l) (10 ∷ []) (lines_text more ++ s))) longer)

-- a table at the front is one of the lines before the bad one
pub before_bad : (S : Setting) (first : ℕ) (text : List ℕ) (number : ℕ) (bad : IsFirstBadOf S first text number) (links : List TableLine) (s : List ℕ) → AreLinesOver S links → text ≡ lines_text links ++ s → IsLonger links bad.lines s bad.rest
before_bad S first text number bad links s table is = elim (compared links bad.lines s bad.rest table.valid bad.table.valid (sym is ∙ bad.parts)) [
  | inl longer ↦ longer
  | inr longer ↦
      let none = stops_here S first text number bad links s table longer.more longer.links longer.rest in
      let same : links ≡ bad.lines = longer.links ∙ (ap (λ l. bad.lines ++ l) none ∙ append-nil bad.lines) in
      let rest : bad.rest ≡ s = longer.rest ∙ ap (λ l. lines_text l ++ s) none in
      record { more = []; links = sym same ∙ sym (append-nil links); rest = sym rest }
]

-- so a text that is a table has no bad line
pub none_bad : (S : Setting) (first : ℕ) (text : List ℕ) (number : ℕ) (bad : IsFirstBadOf S first text number) (links : List TableLine) → AreLinesOver S links → text ≡ lines_text links → ⊥
none_bad S first text number bad links table is =
    let longer = before_bad S first text number bad links [] table (is ∙ sym (append-nil (lines_text links))) in
    bad.bad.some (nil_from_length bad.rest (omega (arith, ap length longer.rest, length-append (lines_text longer.more) bad.rest)))

no_more : {A : Type 0} (xs more less : List A) → xs ≡ (xs ++ more) ++ less → more ≡ []
no_more xs [] less e = refl
no_more xs (m ∷ more) less e = let n : length xs ≡ length ((xs ++ m ∷ more) ++ less) = ap length e in absurd (omega (arith, length-append (xs ++ m ∷ more) less, length-append xs (m ∷ more)))

-- and a text has one first bad line at most
pub one_bad : (S : Setting) (first : ℕ) (text : List ℕ) (number n : ℕ) (bad : IsFirstBadOf S first text number) (other : IsFirstBadOf S first text n) → bad.lines ≡ other.lines
one_bad S first text number n bad other =
    let there = before_bad S first text n other bad.lines bad.rest bad.table bad.parts in
    let back = before_bad S first text number bad other.lines other.rest other.table other.parts in
    let same : bad.lines ≡ (bad.lines ++ there.more) ++ back.more = back.links ∙ ap (λ l. l ++ back.more) there.links in
    sym (there.links ∙ (ap (λ l. bad.lines ++ l) (no_more bad.lines there.more back.more same) ∙ append-nil bad.lines))

-- the text is refused there
pub stops_read : (S : Setting) (first : ℕ) (text : List ℕ) (number : ℕ) → IsFirstBadOf S first text number → read_from S first text ≡ Err number
stops_read S first text number bad = by (read_from S first text) refl
  where
    by : (r : Result (List TableLine) ℕ) → read_from S first text ≡ r → r ≡ Err number
    by (Ok lines) is = let spells = texts_are_lines S first text lines is in absurd (none_bad S first text number bad lines spells.table spells.spelled)
    by (Err n) is =
        let other = bad_line_is_first S first text n is in
        let same = one_bad S first text number n bad other in
        ap (λ k. Err k) (other.bad.place ∙ (ap (λ ls. length ls + first) (sym same) ∙ sym bad.bad.place))
