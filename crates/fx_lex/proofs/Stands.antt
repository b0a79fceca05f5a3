-- When a word, a number or a mark stands at the front of bytes, and when nothing does.
use Rattle.std.proofs.Common.{◌≡◌, ℕ, ◌+◌, ◌-◌, ◌<◌, ◌≤◌, Bool, true, inl, inr, ℤ, List, [], ◌∷◌, ◌++◌, length, take, drop, get_or, pos, refl, sym, ap, ◌∙◌, subst, arith, take-append-drop, length-drop}
use Rattle.std.specs.List.{list_all, prefix_len, take_while}
use Rattle.std.proofs.lemmas.Bool.{or_left, cond-true, false≢true}
use Rattle.std.proofs.lemmas.List.{take_at}
use Rattle.std.proofs.lemmas.List.Folds.{length-prefix_len}
use Rattle.fx_expr.specs.Bytes.{begins_word, is_word_byte, has_word_start, IsWord, IsWordAt}
use Rattle.fx_lex.specs.declared.token.Token.{Token}
use Rattle.fx_lex.specs.declared.token.Token.TheVariants as token
use Rattle.fx_lex.specs.declared.scan.Found.TheVariants as found
use Rattle.fx_lex.specs.Spelling.{IsWordRun, is_digit, IsDigitRun, HasNoLeadingZero, digits_value, number_limit, IsLexeme, Spells}
use Rattle.fx_lex.specs.Reading.{StandsAt, Gap, Lexeme, HasNoPiece}
use Rattle.fx_lex.specs.Kinds.{byte_kind}
use Rattle.fx_lex.specs.Found.{IsFoundAt}
use Rattle.fx_lex.proofs.Runs.{run_longest, run_passes, run_starts, run_some}
use Rattle.fx_lex.proofs.Heads.{kind_word, kind_digit, LexemeOf, lexeme_of, gap_kind, spells_kind, spells_some}

word_within : (bytes : List ℕ) → LexemeOf 2 bytes → list_all is_word_byte bytes ≡ true
word_within bytes (inl w) = w.1.1
word_within bytes (inr (inl d)) = let e = d.0 in cc
word_within bytes (inr (inr (inl s))) = let e = s.0 in cc
word_within bytes (inr (inr (inr m))) = let e = m.0 in cc

digit_within : (bytes : List ℕ) → LexemeOf 3 bytes → list_all is_digit bytes ≡ true
digit_within bytes (inl w) = let e = w.0 in cc
digit_within bytes (inr (inl d)) = d.1.1
digit_within bytes (inr (inr (inl s))) = let e = s.0 in cc
digit_within bytes (inr (inr (inr m))) = let e = m.0 in cc

-- a run stands within every lexeme's place
longest_by : (p : ℕ → Bool) (k : ℕ) → ((bytes : List ℕ) → LexemeOf k bytes → list_all p bytes ≡ true) → (b : ℕ) (bytes other more : List ℕ) → byte_kind b ≡ k → other ++ more ≡ b ∷ bytes → IsLexeme other → length other ≤ prefix_len p (b ∷ bytes)
longest_by p k within b bytes [] more kind e lexeme = omega arith
longest_by p k within b bytes (x ∷ xs) more kind e lexeme =
    let same : x ≡ b = cc in
    let of_kind = subst (λ n. LexemeOf n (x ∷ xs)) (ap byte_kind same ∙ kind) (lexeme_of x xs lexeme) in
    subst (λ l. length (x ∷ xs) ≤ prefix_len p l) e (run_longest p (x ∷ xs) more (within (x ∷ xs) of_kind))

-- the longest run stands before the rest
run_stands : (p : ℕ → Bool) (k : ℕ) → ((bytes : List ℕ) → LexemeOf k bytes → list_all p bytes ≡ true) → (b : ℕ) (bytes : List ℕ) (t : Token) → byte_kind b ≡ k → Spells (take_while p (b ∷ bytes)) t → StandsAt (take_while p (b ∷ bytes)) (drop (prefix_len p (b ∷ bytes)) (b ∷ bytes)) t
run_stands p k within b bytes t kind spells = record {
  spells = spells;
  longest = λ other more e lexeme.
      subst (λ n. length other ≤ n) (sym (length-prefix_len p (b ∷ bytes))) (longest_by p k within b bytes other more kind (e ∙ take-append-drop (prefix_len p (b ∷ bytes)) (b ∷ bytes)) lexeme);
}

word_start : (b : ℕ) (bytes : List ℕ) → begins_word b ≡ true → IsWordRun (take_while is_word_byte (b ∷ bytes))
word_start b bytes h =
    let starts = run_starts is_word_byte b bytes (or_left _ _ h) in
    (subst (λ l. has_word_start l ≡ true) (sym starts) h, run_passes is_word_byte (b ∷ bytes))

-- the run of a word goes on behind its first byte
pub word_more : (bytes : List ℕ) (n : ℕ) → has_word_start bytes ≡ true → n ≡ prefix_len is_word_byte (drop 1 bytes) → 1 + n ≡ prefix_len is_word_byte bytes
word_more [] n h e = absurd (false≢true h)
word_more (b ∷ bytes) n h e = ap (λ m. 1 + m) e ∙ sym (cond-true (is_word_byte b) (1 + prefix_len is_word_byte bytes) 0 (or_left _ _ h))

-- a word that is not too long
pub word_stands : (bytes : List ℕ) (n : ℕ) → has_word_start bytes ≡ true → n ≡ prefix_len is_word_byte bytes → n ≤ 64 → StandsAt (take n bytes) (drop n bytes) (token.Word (take n bytes))
word_stands [] n h e short = absurd (false≢true h)
word_stands (b ∷ bytes) n h e short =
    subst (λ m. StandsAt (take m (b ∷ bytes)) (drop m (b ∷ bytes)) (token.Word (take m (b ∷ bytes)))) (sym e)
    (run_stands is_word_byte 2 word_within b bytes _ (kind_word b h) (word_start b bytes h, subst (λ m. m ≤ 64) (e ∙ sym (length-prefix_len is_word_byte (b ∷ bytes))) short, refl))

-- where no token stands at a byte that begins no gap, no piece does
pub no_piece : (b : ℕ) (bytes : List ℕ) → 1 < byte_kind b → ((s more : List ℕ) (t : Token) → (b ∷ s) ++ more ≡ b ∷ bytes → StandsAt (b ∷ s) more t → ⊥) → HasNoPiece (b ∷ bytes)
no_piece b bytes kind none (Gap []) more e piece = piece
no_piece b bytes kind none (Gap (x ∷ g)) more e piece =
    let same : x ≡ b = cc in
    let low = subst (λ y. byte_kind y ≤ 1) same (gap_kind x g more piece) in
    absurd (omega (arith, kind, low))
no_piece b bytes kind none (Lexeme [] t) more e piece = spells_some t piece.spells
no_piece b bytes kind none (Lexeme (x ∷ s) t) more e piece =
    let same : x ≡ b = cc in
    none s more t (ap (λ y. y ∷ (s ++ more)) (sym same) ∙ sym e) (subst (λ y. StandsAt (y ∷ s) more t) same piece)

-- what stands at a lexeme's place is as long as it
module _ (b : ℕ) (bytes s more : List ℕ) (t : Token) (e : (b ∷ s) ++ more ≡ b ∷ bytes) (stands : StandsAt (b ∷ s) more t) where
  covers_run : (p : ℕ → Bool) → IsLexeme (take_while p (b ∷ bytes)) → prefix_len p (b ∷ bytes) ≤ length (b ∷ s)
  covers_run p lexeme =
      subst (λ n. n ≤ length (b ∷ s)) (length-prefix_len p (b ∷ bytes))
      (stands.longest (take_while p (b ∷ bytes)) (drop (prefix_len p (b ∷ bytes)) (b ∷ bytes)) (take-append-drop (prefix_len p (b ∷ bytes)) (b ∷ bytes) ∙ sym e) lexeme)

  is_run : (p : ℕ → Bool) → IsLexeme (take_while p (b ∷ bytes)) → list_all p (b ∷ s) ≡ true → b ∷ s ≡ take_while p (b ∷ bytes)
  is_run p lexeme passes =
      let most = subst (λ l. length (b ∷ s) ≤ prefix_len p l) e (run_longest p (b ∷ s) more passes) in
      let same : length (b ∷ s) ≡ prefix_len p (b ∷ bytes) = omega (arith, most, covers_run p lexeme) in
      sym (ap (λ l. take (prefix_len p (b ∷ bytes)) l) (sym e) ∙ take_at (b ∷ s) more _ same)

word_fits : (b : ℕ) (bytes s more : List ℕ) (t : Token) → begins_word b ≡ true → (b ∷ s) ++ more ≡ b ∷ bytes → StandsAt (b ∷ s) more t → prefix_len is_word_byte (b ∷ bytes) ≤ 64
word_fits b bytes s more (token.Word w) h e stands =
    let short = stands.spells.1 in
    let covers = covers_run b bytes s more (token.Word w) e stands is_word_byte (inl (inl (word_start b bytes h))) in
    omega (arith, short, covers)
word_fits b bytes s more (token.Number n) h e stands = let k = sym (kind_word b h) ∙ spells_kind b s (token.Number n) stands.spells in absurd cc
word_fits b bytes s more (token.Str v) h e stands = let k = sym (kind_word b h) ∙ spells_kind b s (token.Str v) stands.spells in absurd cc
word_fits b bytes s more (token.Mark m) h e stands = let k = sym (kind_word b h) ∙ spells_kind b s (token.Mark m) stands.spells in absurd cc
word_fits b bytes s more token.Def h e stands = absurd stands.spells

-- a word that is too long
pub word_none : (bytes : List ℕ) (n : ℕ) → has_word_start bytes ≡ true → n ≡ prefix_len is_word_byte bytes → 64 < n → HasNoPiece bytes
word_none [] n h e long = absurd (false≢true h)
word_none (b ∷ bytes) n h e long =
    no_piece b bytes (rw (kind_word b h) (omega arith)) (λ s more t eq stands. let fits = word_fits b bytes s more t h eq stands in absurd (omega (arith, long, e, fits)))

-- the place of a word in the text
pub word_place : (text : List ℕ) (place n : ℕ) → place ≤ length text → IsFoundAt (drop place text) (found.Word n) → IsWordAt text place (place + n)
word_place text place n low here =
    let spells = here.2.spells in
    let size : place + n - place ≡ n = omega arith in
    record {
      ordered = omega arith;
      within = omega (arith, low, here.1, length-drop place text);
      word = subst (λ m. IsWord (take m (drop place text))) (sym size) (record { start = spells.0.0; each = spells.0.1; short = spells.1 });
    }

digit_start : (b : ℕ) (bytes : List ℕ) → is_digit b ≡ true → IsDigitRun (take_while is_digit (b ∷ bytes))
digit_start b bytes h =
    let starts = run_starts is_digit b bytes h in
    (λ none. let both : b ∷ take_while is_digit bytes ≡ [] = sym starts ∙ none in absurd cc, run_passes is_digit (b ∷ bytes))

pub number_run : (bytes : List ℕ) → 0 < length bytes → is_digit (get_or bytes 0 0) ≡ true → IsDigitRun (take_while is_digit bytes) × (0 < prefix_len is_digit bytes)
number_run [] some h = absurd (omega (arith, some))
number_run (b ∷ bytes) some h = (digit_start b bytes h, run_some is_digit b bytes h)

-- what a run of digits spells where it spells a number
abbrev pub IsNumber : List ℕ → ℤ → Type 0
IsNumber digits z = HasNoLeadingZero digits × (digits_value digits ≤ number_limit) × (z ≡ pos (digits_value digits))

pub number_stands : (bytes : List ℕ) (n : ℕ) (z : ℤ) → 0 < length bytes → is_digit (get_or bytes 0 0) ≡ true → n ≡ prefix_len is_digit bytes → IsNumber (take n bytes) z → StandsAt (take n bytes) (drop n bytes) (token.Number z)
number_stands [] n z some h e number = absurd (omega (arith, some))
number_stands (b ∷ bytes) n z some h e number =
    subst (λ m. StandsAt (take m (b ∷ bytes)) (drop m (b ∷ bytes)) (token.Number z)) (sym e)
    (let here = subst (λ m. IsNumber (take m (b ∷ bytes)) z) e number in
    run_stands is_digit 3 digit_within b bytes (token.Number z) (kind_digit b h) (digit_start b bytes h, here.0, here.1, here.2))

number_fits : (b : ℕ) (bytes s more : List ℕ) (t : Token) → is_digit b ≡ true → (b ∷ s) ++ more ≡ b ∷ bytes → StandsAt (b ∷ s) more t → HasNoLeadingZero (take_while is_digit (b ∷ bytes)) × (digits_value (take_while is_digit (b ∷ bytes)) ≤ number_limit)
number_fits b bytes s more (token.Number z) h e stands =
    let spells = stands.spells in
    let same = is_run b bytes s more (token.Number z) e stands is_digit (inl (inr (digit_start b bytes h))) spells.0.1 in
    (subst HasNoLeadingZero same spells.1, subst (λ l. digits_value l ≤ number_limit) same spells.2)
number_fits b bytes s more (token.Word w) h e stands = let k = sym (kind_digit b h) ∙ spells_kind b s (token.Word w) stands.spells in absurd cc
number_fits b bytes s more (token.Str v) h e stands = let k = sym (kind_digit b h) ∙ spells_kind b s (token.Str v) stands.spells in absurd cc
number_fits b bytes s more (token.Mark m) h e stands = let k = sym (kind_digit b h) ∙ spells_kind b s (token.Mark m) stands.spells in absurd cc
number_fits b bytes s more token.Def h e stands = absurd stands.spells

-- a number with a leading zero or above the limit
pub number_none : (bytes : List ℕ) (n : ℕ) → 0 < length bytes → is_digit (get_or bytes 0 0) ≡ true → n ≡ prefix_len is_digit bytes → (HasNoLeadingZero (take n bytes) → digits_value (take n bytes) ≤ number_limit → ⊥) → HasNoPiece bytes
number_none [] n some h e refused = absurd (omega (arith, some))
number_none (b ∷ bytes) n some h e refused =
    let here = subst (λ m. HasNoLeadingZero (take m (b ∷ bytes)) → digits_value (take m (b ∷ bytes)) ≤ number_limit → ⊥) e refused in
    no_piece b bytes (rw (kind_digit b h) (omega arith)) (λ s more t eq stands. let fits = number_fits b bytes s more t h eq stands in here fits.0 fits.1)
