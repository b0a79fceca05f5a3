-- What the first byte of a token tells.
use Rattle.std.proofs.Common.{◌≡◌, ℕ, ◌<◌, ◌≤◌, true, false, cond, eqb, leb, ◌&&◌, ◌⊎◌, inl, inr, ⊎_elim, Some, List, [], ◌∷◌, refl, ap, ◌∙◌, arith}
use Rattle.std.proofs.lemmas.Bool.{and_parts, or_from, cond-true, cond-false, leb-true, eqb-true, ne_eqb, lt-leb, or_cases, false≢true}
use Rattle.fx_expr.specs.Bytes.{begins_word}
use Rattle.fx_lex.specs.declared.token.Token.{Token}
use Rattle.fx_lex.specs.declared.token.Token.TheVariants as token
use Rattle.fx_lex.specs.declared.token.Mark.{Mark}
use Rattle.fx_lex.specs.declared.token.Mark.TheVariants.{LeftParen, RightParen, LeftBrace, RightBrace, LeftAngle, RightAngle, Comma, Colon, ColonColon, Bar, Equal, EqualEqual, Plus, PlusPlus, Minus}
use Rattle.fx_lex.specs.Spelling.{IsWordRun, is_digit, IsDigitRun, IsString, mark_bytes, IsLexeme, Spells}
use Rattle.fx_lex.specs.Reading.{is_blank, IsGap}
use Rattle.fx_lex.specs.Kinds.{byte_kind}
use Rattle.fx_lex.specs.Marks.{mark_of_one, mark_of_two}

-- a byte that begins a word is a letter or `_`
word_range : (b : ℕ) → begins_word b ≡ true → ((65 ≤ b) × (b ≤ 90)) ⊎ (((97 ≤ b) × (b ≤ 122)) ⊎ (b ≡ 95))
word_range b h =
    ⊎_elim
    (λ upper. let r = and_parts _ _ upper in inl (leb-true _ _ r.0, leb-true _ _ r.1))
    (λ rest. ⊎_elim
    (λ lower. let r = and_parts _ _ lower in inr (inl (leb-true _ _ r.0, leb-true _ _ r.1)))
    (λ e. inr (inr (eqb-true b 95 e)))
    (or_cases (leb 97 b && leb b 122) (eqb b 95) rest))
    (or_cases (leb 65 b && leb b 90) _ h)

digit_range : (b : ℕ) → is_digit b ≡ true → (48 ≤ b) × (b ≤ 57)
digit_range b h = let r = and_parts (leb 48 b) (leb b 57) h in (leb-true 48 b r.0, leb-true b 57 r.1)

not_blank : (b : ℕ) → 35 ≤ b → is_blank b ≡ false
not_blank b h =
    or_from _ _ (ne_eqb b 32 (λ e. omega arith)) (or_from _ _ (ne_eqb b 9 (λ e. omega arith)) (or_from _ _ (ne_eqb b 10 (λ e. omega arith)) (ne_eqb b 13 (λ e. omega arith))))

-- the kind of a byte above `#`
kind_above : (b : ℕ) → 35 < b → byte_kind b ≡ cond (begins_word b) 2 (cond (is_digit b) 3 (cond (eqb b 34) 4 5))
kind_above b h =
    rw (not_blank b (omega arith), ne_eqb b 35 (λ e. omega arith)) refl

pub kind_word : (b : ℕ) → begins_word b ≡ true → byte_kind b ≡ 2
kind_word b h =
    let above : 35 < b = ⊎_elim (λ r. omega (arith, r.0)) (λ s. ⊎_elim (λ r. omega (arith, r.0)) (λ e. omega (arith, e)) s) (word_range b h) in
    kind_above b above ∙ cond-true (begins_word b) 2 _ h

digit_no_word : (b : ℕ) → is_digit b ≡ true → begins_word b ≡ false
digit_no_word b h =
    let r = digit_range b h in
    let low : leb 65 b ≡ false = lt-leb 65 b (omega (arith, r.1)) in
    let high : leb 97 b ≡ false = lt-leb 97 b (omega (arith, r.1)) in
    let other : eqb b 95 ≡ false = ne_eqb b 95 (λ e. omega (arith, r.1, e)) in
    rw (low, high, other) refl

pub kind_digit : (b : ℕ) → is_digit b ≡ true → byte_kind b ≡ 3
kind_digit b h =
    kind_above b (omega (arith, (digit_range b h).0)) ∙ cond-false (begins_word b) 2 _ (digit_no_word b h) ∙ cond-true (is_digit b) 3 _ h

pub kind_blank : (b : ℕ) → is_blank b ≡ true → byte_kind b ≡ 0
kind_blank b h = cond-true (is_blank b) 0 _ h

-- each mark is one byte, or one byte twice, that begins nothing else
pub record IsMarkOf (b : ℕ) (mark : Mark) : Type 0 where
  pub kind : byte_kind b ≡ 5
  pub bytes : ((mark_bytes mark ≡ b ∷ []) × (mark_of_one b ≡ Some mark)) ⊎ ((mark_bytes mark ≡ b ∷ b ∷ []) × (mark_of_two b ≡ Some mark))

one : (b : ℕ) (mark : Mark) → byte_kind b ≡ 5 → mark_bytes mark ≡ b ∷ [] → mark_of_one b ≡ Some mark → (b : ℕ) × IsMarkOf b mark
one b mark k m o = (b, record { kind = k; bytes = inl (m, o) })

two : (b : ℕ) (mark : Mark) → byte_kind b ≡ 5 → mark_bytes mark ≡ b ∷ b ∷ [] → mark_of_two b ≡ Some mark → (b : ℕ) × IsMarkOf b mark
two b mark k m o = (b, record { kind = k; bytes = inr (m, o) })

pub mark_head : (mark : Mark) → (b : ℕ) × IsMarkOf b mark
mark_head LeftParen = one 40 LeftParen refl refl refl
mark_head RightParen = one 41 RightParen refl refl refl
mark_head LeftBrace = one 123 LeftBrace refl refl refl
mark_head RightBrace = one 125 RightBrace refl refl refl
mark_head LeftAngle = one 60 LeftAngle refl refl refl
mark_head RightAngle = one 62 RightAngle refl refl refl
mark_head Comma = one 44 Comma refl refl refl
mark_head Colon = one 58 Colon refl refl refl
mark_head ColonColon = two 58 ColonColon refl refl refl
mark_head Bar = one 124 Bar refl refl refl
mark_head Equal = one 61 Equal refl refl refl
mark_head EqualEqual = two 61 EqualEqual refl refl refl
mark_head Plus = one 43 Plus refl refl refl
mark_head PlusPlus = two 43 PlusPlus refl refl refl
mark_head Minus = one 45 Minus refl refl refl

-- the kinds of lexeme, each with the kind of its first byte
abbrev pub LexemeOf : ℕ → List ℕ → Type 0
LexemeOf k bytes =
    ((k ≡ 2) × IsWordRun bytes) ⊎ (((k ≡ 3) × IsDigitRun bytes) ⊎ (((k ≡ 4) × ((value : List ℕ) × IsString bytes value)) ⊎ ((k ≡ 5) × ((mark : Mark) × (bytes ≡ mark_bytes mark)))))

mark_lexeme : (b : ℕ) (bytes : List ℕ) (mark : Mark) → b ∷ bytes ≡ mark_bytes mark → byte_kind b ≡ 5
mark_lexeme b bytes mark e =
    let head = mark_head mark in
    ⊎_elim
    (λ one. let same : b ≡ head.0 = cc in ap byte_kind same ∙ head.1.kind)
    (λ two. let same : b ≡ head.0 = cc in ap byte_kind same ∙ head.1.kind)
    head.1.bytes

string_head : (b : ℕ) (bytes value : List ℕ) → IsString (b ∷ bytes) value → b ≡ 34
string_head b bytes value s = let e = s.spelled in cc

pub lexeme_of : (b : ℕ) (bytes : List ℕ) → IsLexeme (b ∷ bytes) → LexemeOf (byte_kind b) (b ∷ bytes)
lexeme_of b bytes (inl (inl w)) = inl (kind_word b w.0, w)
lexeme_of b bytes (inl (inr d)) = inr (inl (kind_digit b (and_parts _ _ d.1).0, d))
lexeme_of b bytes (inr (inl s)) = inr (inr (inl (ap byte_kind (string_head b bytes s.0 s.1), s)))
lexeme_of b bytes (inr (inr m)) = inr (inr (inr (mark_lexeme b bytes m.0 m.1, m)))

-- a gap begins with a byte of kind 0 or 1
pub gap_kind : (b : ℕ) (bytes rest : List ℕ) → IsGap (b ∷ bytes) rest → byte_kind b ≤ 1
gap_kind b bytes rest (inl blank) = rw (kind_blank b blank.0) (omega arith)
gap_kind b bytes rest (inr comment) = rw comment.0 (omega arith)

-- tokens, by the kind of their first byte
abbrev pub token_kind : Token → ℕ
token_kind (token.Word _) = 2
token_kind (token.Number _) = 3
token_kind (token.Str _) = 4
token_kind (token.Mark _) = 5
token_kind token.Def = 2

pub spells_kind : (b : ℕ) (bytes : List ℕ) (t : Token) → Spells (b ∷ bytes) t → byte_kind b ≡ token_kind t
spells_kind b bytes (token.Word w) s = kind_word b s.0.0
spells_kind b bytes (token.Number n) s = kind_digit b (and_parts _ _ s.0.1).0
spells_kind b bytes (token.Str v) s = ap byte_kind (string_head b bytes v s)
spells_kind b bytes (token.Mark m) s = mark_lexeme b bytes m s
spells_kind b bytes token.Def s = absurd s

pub spells_some : (t : Token) → Spells [] t → ⊥
spells_some (token.Word w) s = false≢true s.0.0
spells_some (token.Number n) s = s.0.0 refl
spells_some (token.Str v) s = let e = s.spelled in cc
spells_some (token.Mark m) s = elim (mark_head m).1.bytes [ inl one ↦ let e = one.0 in cc | inr two ↦ let e = two.0 in cc ]
spells_some token.Def s = s

pub spells_lexeme : (bytes : List ℕ) (t : Token) → Spells bytes t → IsLexeme bytes
spells_lexeme bytes (token.Word w) s = inl (inl s.0)
spells_lexeme bytes (token.Number n) s = inl (inr s.0)
spells_lexeme bytes (token.Str v) s = inr (inl (v, s))
spells_lexeme bytes (token.Mark m) s = inr (inr (m, s))
spells_lexeme bytes token.Def s = absurd s
