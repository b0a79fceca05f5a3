-- When a mark stands at the front of bytes.
use Rattle.std.proofs.Common.{◌≡◌, ℕ, ◌<◌, ◌≤◌, true, cond, eqb, ◌⊎◌, inl, inr, Option, Some, None, List, [], ◌∷◌, ◌++◌, length, take, drop, get_or, refl, sym, ap, ◌∙◌, subst, arith}
use Rattle.std.proofs.lemmas.Bool.{cond-true, cond-false, eqb-true, cases_Bool}
use Rattle.fx_lex.specs.declared.token.Token.TheVariants as token
use Rattle.fx_lex.specs.declared.token.Mark.{Mark}
use Rattle.fx_lex.specs.declared.token.Mark.TheVariants.{LeftParen, RightParen, LeftBrace, RightBrace, LeftAngle, RightAngle, Comma, Colon, ColonColon, Bar, Equal, EqualEqual, Plus, PlusPlus, Minus}
use Rattle.fx_lex.specs.Spelling.{mark_bytes, IsLexeme}
use Rattle.fx_lex.specs.Reading.{StandsAt, HasNoPiece}
use Rattle.fx_lex.specs.Kinds.{byte_kind}
use Rattle.fx_lex.specs.Marks.{mark_of_one, mark_of_two}
use Rattle.fx_lex.proofs.Heads.{LexemeOf, lexeme_of, spells_lexeme, mark_head}
use Rattle.fx_lex.proofs.Stands.{no_piece}

-- one row of a table of marks
row : (g : ℕ → List ℕ) (b k : ℕ) (mark found : Mark) (others : Option Mark) → mark_bytes mark ≡ g k → (others ≡ Some found → mark_bytes found ≡ g b) → cond (eqb b k) (Some mark) others ≡ Some found → mark_bytes found ≡ g b
row g b k mark found others fits rest e =
    elim (cases_Bool (eqb b k)) [
      | inl is ↦
          let here : Some mark ≡ Some found = sym (cond-true (eqb b k) (Some mark) others is) ∙ e in
          let same : mark ≡ found = cc in
          ap mark_bytes (sym same) ∙ fits ∙ ap g (sym (eqb-true b k is))
      | inr isnt ↦ rest (sym (cond-false (eqb b k) (Some mark) others isnt) ∙ e)
    ]

pub mark_two : (b : ℕ) (mark : Mark) → mark_of_two b ≡ Some mark → mark_bytes mark ≡ b ∷ b ∷ []
mark_two b mark e =
    row (λ x. x ∷ x ∷ []) b 58 ColonColon mark _ refl (λ e. row (λ x. x ∷ x ∷ []) b 61 EqualEqual mark _ refl (λ e. row (λ x. x ∷ x ∷ []) b 43 PlusPlus mark None refl (λ e. absurd cc) e) e) e

pub mark_one : (b : ℕ) (mark : Mark) → mark_of_one b ≡ Some mark → mark_bytes mark ≡ b ∷ []
mark_one b mark e =
    let g : ℕ → List ℕ = λ x. x ∷ [] in
    row g b 40 LeftParen mark _ refl (λ e. row g b 41 RightParen mark _ refl (λ e. row g b 123 LeftBrace mark _ refl (λ e. row g b 125 RightBrace mark _ refl (λ e. row g b 60 LeftAngle mark _ refl (λ e. row g b 62 RightAngle mark _ refl (λ e. row g b 44 Comma mark _ refl (λ e. row g b 58 Colon mark _ refl (λ e. row g b 124 Bar mark _ refl (λ e. row g b 61 Equal mark _ refl (λ e. row g b 43 Plus mark _ refl (λ e. row g b 45 Minus mark None refl (λ e. absurd cc) e) e) e) e) e) e) e) e) e) e) e) e

-- a lexeme of the last kind is a mark
lexeme_mark : (bytes : List ℕ) → LexemeOf 5 bytes → (mark : Mark) × (bytes ≡ mark_bytes mark)
lexeme_mark bytes (inl w) = let e = w.0 in absurd cc
lexeme_mark bytes (inr (inl d)) = let e = d.0 in absurd cc
lexeme_mark bytes (inr (inr (inl s))) = let e = s.0 in absurd cc
lexeme_mark bytes (inr (inr (inr m))) = m.1

-- bytes do not begin with one byte twice that is a mark
pub record IsNotTwice (bytes : List ℕ) : Type 0 where
  pub none : (b : ℕ) (more : List ℕ) → bytes ≡ b ∷ b ∷ more → mark_of_two b ≡ None

-- every lexeme at a byte of the last kind is a mark of one byte, or of that byte twice
mark_here : (b : ℕ) (bytes xs more : List ℕ) (x : ℕ) → byte_kind b ≡ 5 → (x ∷ xs) ++ more ≡ b ∷ bytes → IsLexeme (x ∷ xs) → ((mark : Mark) × (x ∷ xs ≡ b ∷ []) × (mark_of_one b ≡ Some mark)) ⊎ ((mark : Mark) × (x ∷ xs ≡ b ∷ b ∷ []) × (mark_of_two b ≡ Some mark))
mark_here b bytes xs more x kind e lexeme =
    let same : x ≡ b = cc in
    let mark = lexeme_mark (x ∷ xs) (subst (λ n. LexemeOf n (x ∷ xs)) (ap byte_kind same ∙ kind) (lexeme_of x xs lexeme)) in
    let head = mark_head mark.0 in
    elim head.1.bytes [
      | inl one ↦
          let spelled : x ∷ xs ≡ head.0 ∷ [] = mark.1 ∙ one.0 in
          let here : head.0 ≡ b = cc in
          inl (mark.0, spelled ∙ ap (λ y. y ∷ []) here, ap mark_of_one (sym here) ∙ one.1)
      | inr two ↦
          let spelled : x ∷ xs ≡ head.0 ∷ head.0 ∷ [] = mark.1 ∙ two.0 in
          let here : head.0 ≡ b = cc in
          inr (mark.0, spelled ∙ ap (λ y. y ∷ y ∷ []) here, ap mark_of_two (sym here) ∙ two.1)
    ]

two_longest : (b : ℕ) (bytes other more : List ℕ) → byte_kind b ≡ 5 → other ++ more ≡ b ∷ bytes → IsLexeme other → length other ≤ 2
two_longest b bytes [] more kind e lexeme = omega arith
two_longest b bytes (x ∷ xs) more kind e lexeme =
    elim (mark_here b bytes xs more x kind e lexeme) [
      | inl one ↦ omega (arith, ap length one.1)
      | inr two ↦ omega (arith, ap length two.1)
    ]

one_longest : (b : ℕ) (bytes other more : List ℕ) → byte_kind b ≡ 5 → IsNotTwice (b ∷ bytes) → other ++ more ≡ b ∷ bytes → IsLexeme other → length other ≤ 1
one_longest b bytes [] more kind not_twice e lexeme = omega arith
one_longest b bytes (x ∷ xs) more kind not_twice e lexeme =
    elim (mark_here b bytes xs more x kind e lexeme) [
      | inl one ↦ omega (arith, ap length one.1)
      | inr two ↦
          let none = not_twice.none b more (sym e ∙ ap (λ l. l ++ more) two.1) in
          let both : Some two.0 ≡ None = sym two.2 ∙ none in
          absurd cc
    ]

pub two_stands : (bytes : List ℕ) (mark : Mark) → 1 < length bytes → byte_kind (get_or bytes 0 0) ≡ 5 → get_or bytes 1 0 ≡ get_or bytes 0 0 → mark_of_two (get_or bytes 0 0) ≡ Some mark → StandsAt (take 2 bytes) (drop 2 bytes) (token.Mark mark)
two_stands [] mark some kind same found = absurd (omega (arith, some))
two_stands (b ∷ []) mark some kind same found = absurd (omega (arith, some))
two_stands (b ∷ c ∷ bytes) mark some kind same found = record {
  spells = ap (λ y. b ∷ y ∷ []) same ∙ sym (mark_two b mark found);
  longest = λ other more e lexeme. two_longest b (c ∷ bytes) other more kind e lexeme;
}

pub one_stands : (bytes : List ℕ) (mark : Mark) → 0 < length bytes → byte_kind (get_or bytes 0 0) ≡ 5 → IsNotTwice bytes → mark_of_one (get_or bytes 0 0) ≡ Some mark → StandsAt (take 1 bytes) (drop 1 bytes) (token.Mark mark)
one_stands [] mark some kind not_twice found = absurd (omega (arith, some))
one_stands (b ∷ bytes) mark some kind not_twice found = record {
  spells = sym (mark_one b mark found);
  longest = λ other more e lexeme. one_longest b bytes other more kind not_twice e lexeme;
}

pub mark_none : (bytes : List ℕ) → 0 < length bytes → byte_kind (get_or bytes 0 0) ≡ 5 → IsNotTwice bytes → mark_of_one (get_or bytes 0 0) ≡ None → HasNoPiece bytes
mark_none [] some kind not_twice none = absurd (omega (arith, some))
mark_none (b ∷ bytes) some kind not_twice none =
    no_piece b bytes (rw kind (omega arith)) (λ s more t e stands. elim (mark_here b bytes s more b kind e (spells_lexeme (b ∷ s) t stands.spells)) [
      | inl one ↦ let both : Some one.0 ≡ None = sym one.2 ∙ none in cc
      | inr two ↦
          let refused = not_twice.none b more (sym e ∙ ap (λ l. l ++ more) two.1) in
          let both : Some two.0 ≡ None = sym two.2 ∙ refused in
          cc
    ])

-- why a byte is not there twice
pub short_not_twice : (bytes : List ℕ) → length bytes ≤ 1 → IsNotTwice bytes
short_not_twice bytes short = record { none = λ b more e. absurd (omega (arith, short, ap length e)) }

pub other_not_twice : (bytes : List ℕ) → (get_or bytes 1 0 ≡ get_or bytes 0 0 → ⊥) → IsNotTwice bytes
other_not_twice bytes differs = record { none = λ b more e. absurd (differs (ap (λ l. get_or l 1 0) e ∙ sym (ap (λ l. get_or l 0 0) e))) }

pub unknown_not_twice : (bytes : List ℕ) → mark_of_two (get_or bytes 0 0) ≡ None → IsNotTwice bytes
unknown_not_twice bytes none = record { none = λ b more e. ap mark_of_two (sym (ap (λ l. get_or l 0 0) e)) ∙ none }

no_mark : (b k : ℕ) (mark : Mark) → eqb b k ≡ true → mark_of_one k ≡ Some mark → mark_of_one b ≡ None → ⊥
no_mark b k mark is some none =
    let both : Some mark ≡ None = sym some ∙ ap mark_of_one (sym (eqb-true b k is)) ∙ none in
    absurd cc

-- a byte that is no mark alone is none twice
two_of_one : (b : ℕ) → mark_of_one b ≡ None → mark_of_two b ≡ None
two_of_one b none =
    elim (cases_Bool (eqb b 58)) [
      | inl is ↦ absurd (no_mark b 58 Colon is refl none)
      | inr first ↦ cond-false (eqb b 58) _ _ first ∙ elim (cases_Bool (eqb b 61)) [
        | inl is ↦ absurd (no_mark b 61 Equal is refl none)
        | inr second ↦ cond-false (eqb b 61) _ _ second ∙ elim (cases_Bool (eqb b 43)) [
          | inl is ↦ absurd (no_mark b 43 Plus is refl none)
          | inr third ↦ cond-false (eqb b 43) _ _ third
        ]
      ]
    ]

pub none_here : (bytes : List ℕ) → 0 < length bytes → byte_kind (get_or bytes 0 0) ≡ 5 → mark_of_one (get_or bytes 0 0) ≡ None → HasNoPiece bytes
none_here bytes some kind none = mark_none bytes some kind (unknown_not_twice bytes (two_of_one (get_or bytes 0 0) none)) none
