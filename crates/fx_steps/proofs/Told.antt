-- Frames whose places are told by the first reads.
use Rattle.fx_steps.proofs.Prelude.{◌≡◌, ℕ, ◌+◌, ◌≤◌, ◌<◌, Bool, true, false, ◌&&◌, List, [], ◌∷◌, ◌++◌, take, drop, Some, refl, ap, ◌∙◌, arith, nat_le, slice_get, and_from, Frame, are_told, turned}
use Rattle.std.proofs.lemmas.Bool.Decides.{nat_tests}
use Rattle.fx_steps.proofs.Turning.{turned_at, turned-last}

told_append : (n : ℕ) (fs gs : List Frame) → are_told n (fs ++ gs) ≡ are_told n fs && are_told n gs
told_append n [] gs = refl
told_append n (f ∷ fs) gs = at (nat_le f.reads n) (told_append n fs gs)
  where
    at : (b : Bool) → are_told n (fs ++ gs) ≡ are_told n fs && are_told n gs → b && are_told n (fs ++ gs) ≡ (b && are_told n fs) && are_told n gs
    at true rest = rest
    at false rest = refl

within_is : (k n : ℕ) → k ≤ n → nat_le k n ≡ true
within_is k n e = grind (arith, nat_tests)

beyond_is : (k n : ℕ) → n < k → nat_le k n ≡ false
beyond_is k n e = grind (arith, nat_tests)

none_told : (a b c : Bool) → b ≡ false → (a && (b && true)) && c ≡ false
none_told true true c e = absurd (cc)
none_told true false c e = refl
none_told false b c e = refl

-- one frame that more reads tell
pub not_told : (n : ℕ) (frames : List Frame) (i : ℕ) (f : Frame) → slice_get frames i ≡ Some f → n < f.reads → are_told n (turned (λ f. f) frames) ≡ false
not_told n frames i f at more =
    let after = turned (λ f. f) (drop (i + 1) frames) in
    let before = turned (λ f. f) (take i frames) in
    ap (are_told n) (turned_at (λ f. f) frames i f at)
    ∙ told_append n (after ++ f ∷ []) before
    ∙ ap (λ b. b && are_told n before) (told_append n after (f ∷ []))
    ∙ none_told (are_told n after) (nat_le f.reads n) (are_told n before) (beyond_is f.reads n more)

-- one more that these tell
pub told_more : (n : ℕ) (frames next : List Frame) (f : Frame) → next ≡ frames ++ f ∷ [] → f.reads ≤ n → are_told n (turned (λ f. f) frames) ≡ true → are_told n (turned (λ f. f) next) ≡ true
told_more n frames next f is few told =
    ap (are_told n) (ap (turned (λ f. f)) is ∙ turned-last (λ f. f) frames f) ∙ and_from (nat_le f.reads n) (are_told n (turned (λ f. f) frames)) (within_is f.reads n few) told
