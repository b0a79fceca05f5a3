-- The bytes of UTF-8 text are below 256.
use Rattle.std.proofs.Common.{◌≡◌, ℕ, ◌+◌, ◌/◌, ◌%◌, ◌<◌, true, List, [], ◌∷◌, subst, arith, ⊎_elim}
use Rattle.std.specs.List.{All}
use Rattle.std.specs.Prelude.{nat_lt}
use Rattle.std.specs.Str.{is_utf8}
use Rattle.std.proofs.lemmas.Bool.{and_parts, ltb-true, cond_both}
use Rattle.std.proofs.lemmas.List.Elements.{All-nil, All-cons, All-append}
use Rattle.std.proofs.lemmas.Str.{IsUtf8-from_is_utf8}
use lib.Utf8.{scalar, scalars, encode, encodes, scalar_cases}

two : (a b : ℕ) → a < 256 → b < 256 → All (λ b. b < 256) (a ∷ b ∷ [])
two a b h k = All-cons (λ b. b < 256) a (b ∷ []) h (All-cons (λ b. b < 256) b [] k (All-nil (λ b. b < 256)))

encode_bytes : (c : ℕ) → c < 1114112 → All (λ b. b < 256) (encode c)
unfolding encode
encode_bytes c h =
    cond_both (nat_lt c 128) (c ∷ []) _ (All (λ b. b < 256))
    (λ e. let small : c < 128 = ltb-true c 128 e in All-cons (λ b. b < 256) c [] (omega arith) (All-nil (λ b. b < 256)))
    (λ e. cond_both (nat_lt c 2048) ((192 + c / 64) ∷ (128 + c % 64) ∷ []) _ (All (λ b. b < 256))
    (λ e. let small : c < 2048 = ltb-true c 2048 e in two (192 + c / 64) (128 + c % 64) (omega arith) (omega arith))
    (λ e. cond_both (nat_lt c 65536) ((224 + c / 4096) ∷ (128 + (c / 64) % 64) ∷ (128 + c % 64) ∷ []) _ (All (λ b. b < 256))
    (λ e. let small : c < 65536 = ltb-true c 65536 e in All-cons (λ b. b < 256) (224 + c / 4096) ((128 + (c / 64) % 64) ∷ (128 + c % 64) ∷ []) (omega arith) (two (128 + (c / 64) % 64) (128 + c % 64) (omega arith) (omega arith)))
    (λ e. All-append (λ b. b < 256) ((240 + c / 262144) ∷ (128 + (c / 4096) % 64) ∷ []) ((128 + (c / 64) % 64) ∷ (128 + c % 64) ∷ []) (two (240 + c / 262144) (128 + (c / 4096) % 64) (omega arith) (omega arith)) (two (128 + (c / 64) % 64) (128 + c % 64) (omega arith) (omega arith)))))

scalar_below : (c : ℕ) → scalar c ≡ true → c < 1114112
scalar_below c e = ⊎_elim (λ h. let low : c < 55296 = h in omega arith) (λ h. h.1) (scalar_cases c e)

encodes_bytes : (cs : List ℕ) → scalars cs ≡ true → All (λ b. b < 256) (encodes cs)
encodes_bytes [] e = All-nil (λ b. b < 256)
encodes_bytes (c ∷ cs) e =
    let both = and_parts (scalar c) (scalars cs) e in
    All-append (λ b. b < 256) (encode c) (encodes cs) (encode_bytes c (scalar_below c both.0)) (encodes_bytes cs both.1)

pub utf8_bytes : (text : List ℕ) → is_utf8 text ≡ true → All (λ b. b < 256) text
utf8_bytes text is = let u = IsUtf8-from_is_utf8 text is in subst (All (λ b. b < 256)) u.1.1 (encodes_bytes u.0 u.1.0)
