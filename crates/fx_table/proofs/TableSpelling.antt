-- A spelled text is read back, and no other spelling of its bytes is.
use Rattle.fx_table.proofs.Prelude.{◌≡◌, ℕ, ◌+◌, ◌*◌, ◌/◌, ◌%◌, ◌<◌, ◌≤◌, Bool, true, false, cond, eqb, List, [], ◌∷◌, ◌++◌, refl, sym, ap, subst, ◌∙◌, arith, Option, Some, None, inl, inr, All, is_some, false≢true, eqb-true, cases_Bool, nat_tests, All-nil, All-cons, All-head, All-tail, All-append, is_plain_byte, spelled, spelling, plain_byte, upper_digit_value, escaped, byte_before, unspelled}
use Rattle.std.specs.Fmt.{digit_glyph}

-- ---- digits

digit_read : (d : ℕ) → d < 16 → upper_digit_value (digit_glyph true d) ≡ Some d
digit_read d h = grind (arith, nat_tests)

digit_spelled : (c d : ℕ) → upper_digit_value c ≡ Some d → (d < 16) × (digit_glyph true d ≡ c)
digit_spelled c d e = grind (arith, nat_tests)

-- ---- a byte

not_mark : (c : ℕ) → is_plain_byte c ≡ true → eqb c 37 ≡ false
not_mark c h = grind (arith, nat_tests)

plain_read : (c : ℕ) (text : List ℕ) → is_plain_byte c ≡ true → unspelled (c ∷ text) ≡ byte_before (Some c) (unspelled text)
plain_read c [] h = ap (λ b. byte_before (cond b (Some c) None) (Some [])) h
plain_read c (d ∷ []) h = ap (λ b. byte_before (cond b (Some c) None) (unspelled (d ∷ []))) h
plain_read c (d ∷ e ∷ text) h =
    ap (λ b. cond b (byte_before (escaped (upper_digit_value d) (upper_digit_value e)) (unspelled text)) (byte_before (plain_byte c) (unspelled (d ∷ e ∷ text)))) (not_mark c h)
    ∙ ap (λ b. byte_before (cond b (Some c) None) (unspelled (d ∷ e ∷ text))) h

byte_read : (b : ℕ) (text : List ℕ) → b < 256 → unspelled (spelled b ++ text) ≡ byte_before (Some b) (unspelled text)
byte_read b text byte = elim (cases_Bool (is_plain_byte b)) [
  | inl h ↦ rw h (plain_read b text h)
  | inr h ↦
      let high = digit_read (b / 16) (omega arith) in
      let low = digit_read (b % 16) (omega arith) in
      let whole : 16 * (b / 16) + b % 16 ≡ b = omega arith in
      rw (h, high, low, whole, h) refl
]

pub spelling_read : (bs : List ℕ) → All (λ b. b < 256) bs → unspelled (spelling bs) ≡ Some bs
spelling_read [] h = refl
spelling_read (b ∷ bs) h =
    byte_read b (spelling bs) (All-head (λ b. b < 256) b bs h)
    ∙ ap (byte_before (Some b)) (spelling_read bs (All-tail (λ b. b < 256) b bs h))

-- ---- the bytes of a spelled text

-- a list that is put onto a byte
record IsOnto (o : Option ℕ) (r : Option (List ℕ)) (bs : List ℕ) : Type 0 where
  byte : ℕ
  bytes : List ℕ
  first : o ≡ Some byte
  later : r ≡ Some bytes
  whole : byte ∷ bytes ≡ bs

onto_some : (o : Option ℕ) (r : Option (List ℕ)) (bs : List ℕ) → byte_before o r ≡ Some bs → IsOnto o r bs
onto_some None r bs e = absurd (false≢true (ap is_some e))
onto_some (Some b) None bs e = absurd (false≢true (ap is_some e))
onto_some (Some b) (Some cs) bs e = record { byte = b; bytes = cs; first = refl; later = refl; whole = cc }

chosen : (t : Bool) (c b : ℕ) → cond t (Some c) None ≡ Some b → (t ≡ true) × (c ≡ b)
chosen true c b e = (refl, cc)
chosen false c b e = absurd (false≢true (ap is_some e))

spare : (t : Bool) (c b : ℕ) → cond t None (Some c) ≡ Some b → (t ≡ false) × (c ≡ b)
spare true c b e = absurd (false≢true (ap is_some e))
spare false c b e = (refl, cc)

plain_is : (c b : ℕ) → plain_byte c ≡ Some b → (b < 256) × (spelled b ≡ c ∷ [])
plain_is c b e =
    let both = chosen (is_plain_byte c) c b e in
    subst (λ x. (x < 256) × (spelled x ≡ c ∷ [])) both.1 (grind (arith, nat_tests, both.0), ap (λ t. cond t (c ∷ []) (37 ∷ digit_glyph true (c / 16) ∷ digit_glyph true (c % 16) ∷ [])) both.0)

escaped_by : (o p : Option ℕ) (d e b : ℕ) → ((x : ℕ) → o ≡ Some x → (x < 16) × (digit_glyph true x ≡ d)) → ((x : ℕ) → p ≡ Some x → (x < 16) × (digit_glyph true x ≡ e)) → escaped o p ≡ Some b → (b < 256) × (spelled b ≡ 37 ∷ d ∷ e ∷ [])
escaped_by None p d e b f g is = absurd (false≢true (ap is_some is))
escaped_by (Some h) None d e b f g is = absurd (false≢true (ap is_some is))
escaped_by (Some h) (Some l) d e b f g is =
    let high = f h refl in
    let low = g l refl in
    let both = spare (is_plain_byte (16 * h + l)) (16 * h + l) b is in
    let quotient : (16 * h + l) / 16 ≡ h = omega arith in
    let remainder : (16 * h + l) % 16 ≡ l = omega arith in
    subst (λ x. (x < 256) × (spelled x ≡ 37 ∷ d ∷ e ∷ [])) both.1
    (omega arith, rw (both.0, quotient, remainder, high.1, low.1) refl)

escaped_is : (d e b : ℕ) → escaped (upper_digit_value d) (upper_digit_value e) ≡ Some b → (b < 256) × (spelled b ≡ 37 ∷ d ∷ e ∷ [])
escaped_is d e b is = escaped_by (upper_digit_value d) (upper_digit_value e) d e b (digit_spelled d) (digit_spelled e) is

-- the bytes have this spelling, and no other has them
pub record IsSpelled (text bs : List ℕ) : Type 0 where
  pub spelled : spelling bs ≡ text
  pub bytes : All (λ b. b < 256) bs

spells_onto : (o : Option ℕ) (r : Option (List ℕ)) (front text bs : List ℕ) → ((b : ℕ) → o ≡ Some b → (b < 256) × (spelled b ≡ front)) → ((cs : List ℕ) → r ≡ Some cs → IsSpelled text cs) → byte_before o r ≡ Some bs → IsSpelled (front ++ text) bs
spells_onto o r front text bs f g e =
    let on = onto_some o r bs e in
    let here = f on.byte on.first in
    let later = g on.bytes on.later in
    subst (IsSpelled (front ++ text)) on.whole
    (record { spelled = ap (λ t. t ++ spelling on.bytes) here.1 ∙ ap (λ t. front ++ t) later.spelled; bytes = All-cons (λ b. b < 256) on.byte on.bytes here.0 later.bytes })

nothing_spelled : (bs : List ℕ) → Some [] ≡ Some bs → IsSpelled [] bs
nothing_spelled bs e = let same : [] ≡ bs = cc in subst (IsSpelled []) same (record { spelled = refl; bytes = All-nil (λ b. b < 256) })

-- by the test for a `%`
spells_by : (t : Bool) (c d e : ℕ) (text bs : List ℕ) → eqb c 37 ≡ t
    → ((cs : List ℕ) → unspelled text ≡ Some cs → IsSpelled text cs)
    → ((cs : List ℕ) → unspelled (d ∷ e ∷ text) ≡ Some cs → IsSpelled (d ∷ e ∷ text) cs)
    → cond t (byte_before (escaped (upper_digit_value d) (upper_digit_value e)) (unspelled text)) (byte_before (plain_byte c) (unspelled (d ∷ e ∷ text))) ≡ Some bs → IsSpelled (c ∷ d ∷ e ∷ text) bs
spells_by true c d e text bs mark far near is =
    subst (λ x. IsSpelled (x ∷ d ∷ e ∷ text) bs) (sym (eqb-true c 37 mark)) (spells_onto (escaped (upper_digit_value d) (upper_digit_value e)) (unspelled text) (37 ∷ d ∷ e ∷ []) text bs (escaped_is d e) far is)
spells_by false c d e text bs mark far near is =
    spells_onto (plain_byte c) (unspelled (d ∷ e ∷ text)) (c ∷ []) (d ∷ e ∷ text) bs (plain_is c) near is

pub read_spelling : (text bs : List ℕ) → unspelled text ≡ Some bs → IsSpelled text bs
read_spelling [] bs is = nothing_spelled bs is
read_spelling (c ∷ []) bs is = spells_onto (plain_byte c) (Some []) (c ∷ []) [] bs (plain_is c) nothing_spelled is
read_spelling (c ∷ d ∷ []) bs is = spells_onto (plain_byte c) (unspelled (d ∷ [])) (c ∷ []) (d ∷ []) bs (plain_is c) (read_spelling (d ∷ [])) is
read_spelling (c ∷ d ∷ e ∷ text) bs is =
    spells_by (eqb c 37) c d e text bs refl (read_spelling text) (read_spelling (d ∷ e ∷ text)) is

-- ---- what no spelling has

digit_visible : (d : ℕ) → 33 ≤ digit_glyph true d
digit_visible d = grind (arith, nat_tests)

spelled_visible : (b : ℕ) → All (λ c. 33 ≤ c) (spelled b)
spelled_visible b = elim (cases_Bool (is_plain_byte b)) [
  | inl h ↦ rw h (All-cons (λ c. 33 ≤ c) b [] (grind (arith, nat_tests, h)) (All-nil (λ c. 33 ≤ c)))
  | inr h ↦
      rw h
      (All-cons (λ c. 33 ≤ c) 37 (digit_glyph true (b / 16) ∷ digit_glyph true (b % 16) ∷ []) (omega arith)
      (All-cons (λ c. 33 ≤ c) (digit_glyph true (b / 16)) (digit_glyph true (b % 16) ∷ []) (digit_visible (b / 16))
      (All-cons (λ c. 33 ≤ c) (digit_glyph true (b % 16)) [] (digit_visible (b % 16)) (All-nil (λ c. 33 ≤ c)))))
]

pub spelling_visible : (bs : List ℕ) → All (λ c. 33 ≤ c) (spelling bs)
spelling_visible [] = All-nil (λ c. 33 ≤ c)
spelling_visible (b ∷ bs) = All-append (λ c. 33 ≤ c) (spelled b) (spelling bs) (spelled_visible b) (spelling_visible bs)
