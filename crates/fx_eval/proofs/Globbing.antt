-- Globs: what one attempt tells of the others.
use Rattle.std.proofs.Common.{◌≡◌, ◌≢◌, ℕ, zero, suc, ◌+◌, ◌<◌, Bool, true, false, cond, ◌&&◌, ◌||◌, List, [], ◌∷◌, length, drop, get_or, slice_index, eqb, refl, ap, sym, ◌∙◌, arith}
use Rattle.std.proofs.lemmas.Bool.{eq-eqb, ne_eqb, or_right, or_left}
use Rattle.fx_base.proofs.Booleans.{second_true, same_test}
use Rattle.fx_expr.specs.Globs.{glob_matches, some_suffix, first_and_rest}
use Rattle.fx_eval.specs.Attempts.{HasStar}

-- the whole text is a suffix
pub whole_suffix : (test : List ℕ → Bool) (text : List ℕ) → test text ≡ true → some_suffix test text ≡ true
whole_suffix test [] e = e
whole_suffix test (b ∷ text) e = or_left (test (b ∷ text)) _ e

-- a suffix of what follows n bytes is one of what follows n bytes of a longer text
suffix_more : (test : List ℕ → Bool) (n b : ℕ) (text : List ℕ) → some_suffix test (drop n text) ≡ true → some_suffix test (drop n (b ∷ text)) ≡ true
suffix_more test zero b text e = or_right (test (b ∷ text)) _ e
suffix_more test (suc zero) b [] e = e
suffix_more test (suc (suc n)) b [] e = e
suffix_more test (suc n) b (c ∷ text) e = suffix_more test n c text e

-- a glob that begins with `*`
star_first : (g : ℕ) (glob text : List ℕ) → g ≡ 42 → glob_matches (g ∷ glob) text ≡ some_suffix (glob_matches glob) text
star_first g glob text e = ap (λ t. cond t (some_suffix (glob_matches glob) text) (first_and_rest (λ b. eqb g 63 || eqb g b) (glob_matches glob) text)) (eq-eqb g 42 e)

-- one that does not
plain_first : (g : ℕ) (glob text : List ℕ) → g ≢ 42 → glob_matches (g ∷ glob) text ≡ first_and_rest (λ b. eqb g 63 || eqb g b) (glob_matches glob) text
plain_first g glob text e = ap (λ t. cond t (some_suffix (glob_matches glob) text) (first_and_rest (λ b. eqb g 63 || eqb g b) (glob_matches glob) text)) (ne_eqb g 42 e)

-- what follows the first `*`, at n, matches a suffix of what follows n bytes of any text that the glob matches
forced : (glob text : List ℕ) (n : ℕ) → n < length glob → slice_index glob n ≡ 42 → ((k : ℕ) → k < n → slice_index glob k ≢ 42) → glob_matches glob text ≡ true
    → some_suffix (glob_matches (drop (suc n) glob)) (drop n text) ≡ true
forced [] text n lt star plain e = absurd (omega arith)
forced (g ∷ glob) text zero lt star plain e = sym (star_first g glob text star) ∙ e
forced (g ∷ glob) [] (suc n) lt star plain e = absurd (let f : false ≡ true = sym (plain_first g glob [] (plain 0 (omega arith))) ∙ e in cc)
forced (g ∷ glob) (b ∷ text) (suc n) lt star plain e =
    let f : ((eqb g 63 || eqb g b) && glob_matches glob text) ≡ true = sym (plain_first g glob (b ∷ text) (plain 0 (omega arith))) ∙ e in
    forced glob text n (omega arith) star (λ k h. plain (suc k) (omega arith)) (second_true _ _ f)

forced_suffix : (glob text : List ℕ) (n : ℕ) → n < length glob → slice_index glob n ≡ 42 → ((k : ℕ) → k < n → slice_index glob k ≢ 42) → some_suffix (glob_matches glob) text ≡ true
    → some_suffix (glob_matches (drop (suc n) glob)) (drop n text) ≡ true
forced_suffix glob [] n lt star plain e = forced glob [] n lt star plain e
forced_suffix glob (b ∷ text) n lt star plain e = either (glob_matches glob (b ∷ text)) refl (forced_suffix glob text n lt star plain)
  where
    either : (t : Bool) → glob_matches glob (b ∷ text) ≡ t → (some_suffix (glob_matches glob) text ≡ true → some_suffix (glob_matches (drop (suc n) glob)) (drop n text) ≡ true)
        → some_suffix (glob_matches (drop (suc n) glob)) (drop n (b ∷ text)) ≡ true
    either true f rest = forced glob (b ∷ text) n lt star plain f
    either false f rest = suffix_more (glob_matches (drop (suc n) glob)) n b text (rest (sym (ap (λ t. t || some_suffix (glob_matches glob) text) f) ∙ e))

drop-one : (n : ℕ) (glob : List ℕ) → drop 1 (drop n glob) ≡ drop (suc n) glob
drop-one zero glob = refl
drop-one (suc n) [] = refl
drop-one (suc n) (g ∷ glob) = drop-one n glob

-- the first `*` opens
pub star_opens : (glob text : List ℕ) (n : ℕ) → n < length glob → slice_index glob n ≡ 42 → glob_matches (drop n glob) text ≡ some_suffix (glob_matches (drop (suc n) glob)) text
star_opens [] text n lt star = absurd (omega arith)
star_opens (g ∷ glob) text zero lt star = star_first g glob text star
star_opens (g ∷ glob) text (suc n) lt star = star_opens glob text n (omega arith) star

pub star_matches : (glob text : List ℕ) (n : ℕ) → HasStar glob text n → glob_matches glob text ≡ some_suffix (glob_matches (drop 1 (drop n glob))) (drop n text)
star_matches glob text n h = h.matched ∙ star_opens glob (drop n text) n h.within h.star ∙ ap (λ g. some_suffix (glob_matches g) (drop n text)) (sym (drop-one n glob))

-- after a `*`, no earlier one is tried again
pub star_suffix : (glob text : List ℕ) (n : ℕ) → HasStar glob text n → some_suffix (glob_matches glob) text ≡ some_suffix (glob_matches (drop 1 (drop n glob))) (drop n text)
star_suffix glob text n h =
    same_test _ _ (λ e. ap (λ g. some_suffix (glob_matches g) (drop n text)) (drop-one n glob) ∙ forced_suffix glob text n h.within h.star h.plain e)
    (λ e. whole_suffix (glob_matches glob) text (star_matches glob text n h ∙ e))

-- one more byte of the glob, which is no `*`
byte_more : (g : ℕ) (glob text : List ℕ) → g ≢ 42 → 0 < length text → ((eqb g 63 || eqb g (get_or text 0 0)) ≡ true) → glob_matches (g ∷ glob) text ≡ glob_matches glob (drop 1 text)
byte_more g glob [] other lt e = absurd (omega arith)
byte_more g glob (b ∷ text) other lt e = plain_first g glob (b ∷ text) other ∙ ap (λ t. t && glob_matches glob text) e

-- one step of an attempt
byte_matches : (glob text : List ℕ) (i : ℕ) → i < length glob → i < length text → slice_index glob i ≢ 42 → (eqb (slice_index glob i) 63 || eqb (slice_index glob i) (slice_index text i)) ≡ true
    → glob_matches (drop i glob) (drop i text) ≡ glob_matches (drop (suc i) glob) (drop (suc i) text)
byte_matches [] text i lt room other e = absurd (omega arith)
byte_matches (g ∷ glob) [] i lt room other e = absurd (omega arith)
byte_matches (g ∷ glob) (b ∷ text) zero lt room other e = byte_more g glob (b ∷ text) other (omega arith) e
byte_matches (g ∷ glob) (b ∷ text) (suc i) lt room other e = byte_matches glob text i (omega arith) (omega arith) other e

pub byte_matches_next : (glob text : List ℕ) (i : ℕ) → i < length glob → i < length text → slice_index glob i ≢ 42 → (eqb (slice_index glob i) 63 || eqb (slice_index glob i) (slice_index text i)) ≡ true
    → glob_matches (drop i glob) (drop i text) ≡ glob_matches (drop (i + 1) glob) (drop (i + 1) text)
byte_matches_next glob text i lt room other e =
    let next : suc i ≡ i + 1 = omega arith in
    byte_matches glob text i lt room other e ∙ ap (λ m. glob_matches (drop m glob) (drop m text)) next
