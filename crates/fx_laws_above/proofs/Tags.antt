-- The names that transactions log: each is a name, it is short, and it tells its script and its place.
use Rattle.std.proofs.Common.{◌≡◌, ℕ, ◌+◌, ◌<◌, ◌≤◌, ◌∷◌, ◌++◌, length, drop, get_or, sym, ap, ◌∙◌, refl, arith, codes}
use Rattle.std.specs.Fmt.{decimal, digits}
use Rattle.std.specs.List.{list_all, range_with_len}
use Rattle.std.specs.Str.{is_utf8, chars}
use lib.Utf8.{encode}
use Rattle.std.proofs.lemmas.Fmt.{decimal_digit, decimal_injective, length-decimal-le}
use Rattle.fx_store.specs.Names.{is_name, IsName}
use Rattle.fx_gen.specs.Scripts.{tag}
use Rattle.fx_gen.proofs.Placing.{each_below}

as_is : (k j : ℕ) → k < 8 → tag k j ≡ 115 ∷ (48 + k) ∷ 116 ∷ decimal j
as_is k j h = ap (λ ds. codes "s" ++ ds ++ codes "t" ++ decimal j) (decimal_digit k (omega (arith, h)))

pub tag_short : (k j : ℕ) → k < 8 → j < 200 → length (tag k j) ≤ 6
tag_short k j h l =
    let three = length-decimal-le 3 j (omega arith) (omega (arith, l)) (omega (arith, l)) in
    let same : length (tag k j) ≡ length (115 ∷ (48 + k) ∷ 116 ∷ decimal j) = ap length (as_is k j h) in
    omega (arith, three, same)

pub tag_tells : (k j m i : ℕ) → k < 8 → m < 8 → j < 200 → i < 200 → tag k j ≡ tag m i → (k ≡ m) × (j ≡ i)
tag_tells k j m i a b c d e =
    let same : 115 ∷ (48 + k) ∷ 116 ∷ decimal j ≡ 115 ∷ (48 + m) ∷ 116 ∷ decimal i = sym (as_is k j a) ∙ e ∙ as_is m i b in
    let script : 48 + k ≡ 48 + m = ap (λ l. get_or l 1 0) same in
    (omega (arith, script), decimal_injective j i (omega (arith, c)) (omega (arith, d)) (ap (drop 3) same))

pub tag_named : (k j : ℕ) → k < 8 → j < 200 → IsName (tag k j)
unfolding is_utf8 chars encode is_name digits
tag_named k j h l = each_below (λ j. is_name (tag k j)) 200 (each_below (λ k. list_all (λ j. is_name (tag k j)) (range_with_len 0 200)) 8 refl k h) j l
