-- Bytes that are written one behind another in a piece, and names that are written one before another.
use Rattle.std.proofs.Common.{◌≡◌, ℕ, ◌+◌, ◌-◌, ◌<◌, List, [], ◌∷◌, ◌++◌, Some, length, take, drop, get_or, slice_get, refl, sym, ap, ◌∙◌, arith, append_assoc, length-append}
use Rattle.std.specs.List.{flat_map}
use Rattle.std.proofs.Math.ListN.{set}
use Rattle.std.proofs.lemmas.List.{drop-set-add, set-append_right, drop_more, take_more, take_all, length-take-le}
use Rattle.fx_base.proofs.Lists.{drop_next}
use Rattle.fx_report.specs.Print.{spelled}
use Rattle.fx_report.proofs.Spelling.{spelled_append}

set_first : (xs : List ℕ) (i b : ℕ) → i < length xs → set (drop i xs) 0 b ≡ b ∷ drop (i + 1) xs
set_first xs i b lt = ap (λ l. set l 0 b) (drop_more xs i 0 lt)

-- one byte more of those behind `f`, which stand from `start` on
pub next_byte : (piece old f bytes : List ℕ) (start here next i : ℕ) → here ≡ start + (length f + i) → next ≡ here + 1 → drop start piece ≡ f ++ (take i bytes ++ drop here old) → i < length bytes → here < length old → drop start (set piece here (get_or bytes i 0)) ≡ f ++ (take (i + 1) bytes ++ drop next old)
next_byte piece old f bytes start here next i place after so_far more room =
    let b = get_or bytes i 0 in
    let front = f ++ take i bytes in
    let n = length front in
    let long : here ≡ start + n = omega (arith, place, length-append f (take i bytes), length-take-le i bytes (omega arith)) in
    let none : n - n ≡ 0 = omega arith in
    ap (λ k. drop start (set piece k b)) long
    ∙ (drop-set-add start piece n b
    ∙ (ap (λ l. set l n b) (so_far ∙ sym (append_assoc f (take i bytes) (drop here old)))
    ∙ (set-append_right front (drop here old) n n b refl (omega arith)
    ∙ (ap (λ k. front ++ set (drop here old) k b) none
    ∙ (ap (λ l. front ++ l) (set_first old here b room)
    ∙ (append_assoc f (take i bytes) (b ∷ drop (here + 1) old)
    ∙ ap (λ l. f ++ l) (sym (append_assoc (take i bytes) (b ∷ []) (drop (here + 1) old))
    ∙ (ap (λ t. t ++ drop (here + 1) old) (sym (take_more bytes i 0 more)) ∙ ap (λ k. take (i + 1) bytes ++ drop k old) (sym after)))))))))

-- a whole name, each byte of which is spelled as itself
pub whole_name : (piece old name : List ℕ) (start end n : ℕ) → length name ≡ n → start + 1 + n ≡ end → flat_map spelled (take n name) ≡ take n name → drop start piece ≡ 47 ∷ (take n name ++ drop (start + 1 + n) old) → drop start piece ≡ flat_map spelled (47 ∷ name) ++ drop end old
unfolding spelled
whole_name piece old name start end n long ends plain written =
    let all = take_all n name (omega (arith, long)) in
    written
    ∙ (ap (λ t. 47 ∷ (t ++ drop (start + 1 + n) old)) (sym plain)
    ∙ (ap (λ t. 47 ∷ (flat_map spelled t ++ drop (start + 1 + n) old)) all ∙ ap (λ k. 47 ∷ (flat_map spelled name ++ drop k old)) ends))

-- a name before those that are written
pub name_before : (path : List (List ℕ)) (name bytes now before rest : List ℕ) (i : ℕ) → 0 < i → Some name ≡ slice_get path (i - 1) → bytes ≡ name → before ≡ flat_map spelled (flat_map (λ name. 47 ∷ name) (drop i path)) ++ rest → now ≡ flat_map spelled (47 ∷ bytes) ++ before → now ≡ flat_map spelled (flat_map (λ name. 47 ∷ name) (drop (i - 1) path)) ++ rest
name_before path name bytes now before rest i some there same so_far added =
    let next : i - 1 + 1 ≡ i = omega (arith, some) in
    let left : drop (i - 1) path ≡ name ∷ drop i path = drop_next path (i - 1) name (sym there) ∙ ap (λ k. name ∷ drop k path) next in
    let behind = flat_map (λ (n : List ℕ). 47 ∷ n) (drop i path) in
    added
    ∙ (ap (λ n. flat_map spelled (47 ∷ n) ++ before) same
    ∙ (ap (λ b. flat_map spelled (47 ∷ name) ++ b) so_far
    ∙ (sym (append_assoc (flat_map spelled (47 ∷ name)) (flat_map spelled behind) rest)
    ∙ (ap (λ l. l ++ rest) (sym (spelled_append (47 ∷ name) behind)) ∙ ap (λ ps. flat_map spelled (flat_map (λ name. 47 ∷ name) ps) ++ rest) (sym left)))))
