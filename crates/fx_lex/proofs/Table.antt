-- What the kind of a byte tells, and the table of kinds.
use Rattle.std.proofs.Common.{◌≡◌, ℕ, ◌<◌, ◌≤◌, Bool, true, false, not, cond, eqb, Option, Some, None, List, map, get_or, refl, sym, ap, ◌∙◌, subst, arith}
use Rattle.std.specs.List.{range_with_len}
use Rattle.std.proofs.lemmas.Bool.{eqb-true}
use Rattle.std.proofs.lemmas.List.FromFn.{get_or-map-range_with_len}
use Rattle.fx_expr.specs.Bytes.{begins_word, is_word_byte}
use Rattle.fx_lex.specs.declared.token.Mark.{Mark}
use Rattle.fx_lex.specs.declared.byte.Kind.{Kind}
use Rattle.fx_lex.specs.declared.byte.Kind.TheVariants as kind
use Rattle.fx_lex.specs.declared.byte.TheConstants.{KINDS, WORD_BYTES}
use Rattle.fx_lex.specs.declared.string.TheConstants.{PLAIN_BYTES}
use Rattle.fx_lex.specs.Items.{is_plain}
use Rattle.fx_lex.specs.Spelling.{is_digit}
use Rattle.fx_lex.specs.Reading.{is_blank}
use Rattle.fx_lex.specs.Kinds.{byte_kind, IsKind, IsKindOf}
use Rattle.fx_lex.specs.Marks.{mark_of_one}

abbrev of_mark : Option Mark → Kind
of_mark (Some mark) = kind.Mark mark
of_mark None = kind.Nothing

abbrev begins : ℕ → Kind
begins b =
    cond (is_blank b) kind.Blank (cond (eqb b 35) kind.Comment (cond (begins_word b) kind.Word (cond (is_digit b) kind.Number (cond (eqb b 34) kind.Quote (of_mark (mark_of_one b))))))

kinds_are : map begins (range_with_len 0 256) ≡ KINDS
kinds_are = refl

-- the first of the tests that holds gives the kind and its number
picked : (p q r s t : Bool) (m : Option Mark)
    → IsKind (cond p 0 (cond q 1 (cond r 2 (cond s 3 (cond t 4 5))))) m (cond p kind.Blank (cond q kind.Comment (cond r kind.Word (cond s kind.Number (cond t kind.Quote (of_mark m))))))
picked true q r s t m = refl
picked false true r s t m = refl
picked false false true s t m = refl
picked false false false true t m = refl
picked false false false false true m = refl
picked false false false false false (Some mark) = (refl, refl)
picked false false false false false None = (refl, refl)

pub kind_at : (b : ℕ) → b < 256 → IsKindOf b (get_or KINDS b kind.Blank)
kind_at b below =
    let row : get_or KINDS b kind.Blank ≡ begins b = ap (λ l. get_or l b kind.Blank) (sym kinds_are) ∙ get_or-map-range_with_len begins 0 256 b b kind.Blank below (omega arith) in
    subst (λ k. IsKindOf b k) (sym row) (picked (is_blank b) (eqb b 35) (begins_word b) (is_digit b) (eqb b 34) (mark_of_one b))

-- a table that has 1 for each byte that passes a test
test_at : (p : ℕ → Bool) (table : List ℕ) → map (λ b. cond (p b) 1 0) (range_with_len 0 256) ≡ table → (b : ℕ) → b < 256 → not (eqb (get_or table b 0) 0) ≡ p b
test_at p table same b below =
    let row : get_or table b 0 ≡ cond (p b) 1 0 = ap (λ l. get_or l b 0) (sym same) ∙ get_or-map-range_with_len (λ b. cond (p b) 1 0) 0 256 b b 0 below (omega arith) in
    ap (λ n. not (eqb n 0)) row ∙ marked (p b)
  where
    marked : (t : Bool) → not (eqb (cond t 1 0) 0) ≡ t
    marked true = refl
    marked false = refl

words_are : map (λ b. cond (is_word_byte b) 1 0) (range_with_len 0 256) ≡ WORD_BYTES
words_are = refl

pub word_byte_at : (b : ℕ) → b < 256 → not (eqb (get_or WORD_BYTES b 0) 0) ≡ is_word_byte b
word_byte_at = test_at is_word_byte WORD_BYTES words_are

plain_are : map (λ b. cond (is_plain b) 1 0) (range_with_len 0 256) ≡ PLAIN_BYTES
plain_are = refl

pub plain_byte_at : (b : ℕ) → b < 256 → not (eqb (get_or PLAIN_BYTES b 0) 0) ≡ is_plain b
plain_byte_at = test_at is_plain PLAIN_BYTES plain_are

-- the first of the tests that holds gives the kind
abbrev Tells : ℕ → Bool → Bool → Bool → Bool → Bool → Type 0
Tells k p q r s t = (k ≡ 0 → p ≡ true) × (k ≡ 1 → q ≡ true) × (k ≡ 2 → r ≡ true) × (k ≡ 3 → s ≡ true) × (k ≡ 4 → t ≡ true) × (k ≤ 5)

told : (p q r s t : Bool) → Tells (cond p 0 (cond q 1 (cond r 2 (cond s 3 (cond t 4 5))))) p q r s t
told true q r s t = (λ _. refl, λ e. absurd cc, λ e. absurd cc, λ e. absurd cc, λ e. absurd cc, omega arith)
told false true r s t = (λ e. absurd cc, λ _. refl, λ e. absurd cc, λ e. absurd cc, λ e. absurd cc, omega arith)
told false false true s t = (λ e. absurd cc, λ e. absurd cc, λ _. refl, λ e. absurd cc, λ e. absurd cc, omega arith)
told false false false true t = (λ e. absurd cc, λ e. absurd cc, λ e. absurd cc, λ _. refl, λ e. absurd cc, omega arith)
told false false false false true = (λ e. absurd cc, λ e. absurd cc, λ e. absurd cc, λ e. absurd cc, λ _. refl, omega arith)
told false false false false false = (λ e. absurd cc, λ e. absurd cc, λ e. absurd cc, λ e. absurd cc, λ e. absurd cc, omega arith)

all_told : (b : ℕ) → Tells (byte_kind b) (is_blank b) (eqb b 35) (begins_word b) (is_digit b) (eqb b 34)
all_told b = told (is_blank b) (eqb b 35) (begins_word b) (is_digit b) (eqb b 34)

pub comment_told : (b : ℕ) → byte_kind b ≡ 1 → b ≡ 35
comment_told b e = eqb-true b 35 ((all_told b).1 e)

pub string_told : (b : ℕ) → byte_kind b ≡ 4 → b ≡ 34
string_told b e = eqb-true b 34 ((all_told b).4 e)
