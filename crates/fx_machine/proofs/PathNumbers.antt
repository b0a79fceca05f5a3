-- A number of each path, by the bytes of its text: below `most_paths`, and of no other path.
use Rattle.std.proofs.Common.{◌≡◌, ℕ, suc, ◌+◌, ◌*◌, ◌^◌, ◌<◌, ◌≤◌, List, [], ◌∷◌, length, Result, Ok, refl, sym, ap, subst, ◌∙◌, arith}
use Rattle.std.specs.List.{All, flat_map}
use Rattle.std.proofs.Math.Nat.{pow-suc, pow-le-pow_right}
use Rattle.std.proofs.lemmas.List.Concat.{length-flat_map}
use Rattle.std.proofs.lemmas.List.Elements.{All-head, All-tail, All-weaker}
use Rattle.std.proofs.lemmas.List.Sums.{sum_by-le}
use Rattle.std.proofs.lemmas.Nat.{mul-add-lt, same_from_place}
use Rattle.fx_store.specs.declared.name.PathFault.{PathFault}
use Rattle.fx_store.specs.Names.{IsName, IsPath, path_text}
use Rattle.fx_store.specs.Faults.{read_path}
use Rattle.fx_store.proofs.PathLists.{read_path_text, short_name, path_bytes}
use Rattle.fx_machine.specs.Measure.{most_paths}

-- ---- texts

joined_short : (path : List (List ℕ)) → All IsName path → length (flat_map (λ n. 47 ∷ n) path) ≤ length path * 256
joined_short path all =
    subst (λ n. n ≤ length path * 256) (sym (length-flat_map (λ n. 47 ∷ n) path))
    (sum_by-le (λ n. length (let joined : List ℕ = 47 ∷ n in joined)) 256 path (All-weaker IsName (λ n. suc (length n) ≤ 256) (λ n is. let short : length n ≤ 255 = short_name n is in omega arith) path all))

text_short : (path : List (List ℕ)) → IsPath path → length (path_text path) ≤ 16384
text_short [] is = omega arith
text_short (n ∷ ns) is = let h = joined_short (n ∷ ns) is.names in let short = is.short in omega (arith, h, short)

same_path : (p q : List (List ℕ)) → ◌≡◌ {A = Result (List (List ℕ)) PathFault} (Ok p) (Ok q) → p ≡ q
same_path p q e = cc

text_same : (p q : List (List ℕ)) → IsPath p → IsPath q → path_text p ≡ path_text q → p ≡ q
text_same p q is iq e = same_path p q (sym (read_path_text p is) ∙ ap read_path e ∙ read_path_text q iq)

-- ---- numbers

-- the bytes as digits from 1 to 256, the first one last
abbrev text_number : List ℕ → ℕ
text_number [] = 0
text_number (b ∷ bs) = text_number bs * 257 + suc b

text_below : (bs : List ℕ) → All (λ b. b < 256) bs → text_number bs < 257 ^ length bs
text_below [] all = omega arith
text_below (b ∷ bs) all =
    let digit : suc b < 257 = let h = All-head (λ b. b < 256) b bs all in omega (arith, h) in
    subst (λ most. text_number bs * 257 + suc b < most) (sym (pow-suc 257 (length bs))) (below (257 ^ length bs) (text_below bs (All-tail (λ b. b < 256) b bs all)) digit)
  where
    below : (most : ℕ) → text_number bs < most → suc b < 257 → text_number bs * 257 + suc b < most * 257
    below most h d = omega (arith, mul-add-lt (text_number bs) 257 (suc b) most h d)

number_same : (xs ys : List ℕ) → All (λ b. b < 256) xs → All (λ b. b < 256) ys → text_number xs ≡ text_number ys → xs ≡ ys
number_same [] [] all also e = refl
number_same [] (y ∷ ys) all also e = absurd (omega (arith, e))
number_same (x ∷ xs) [] all also e = absurd (omega (arith, e))
number_same (x ∷ xs) (y ∷ ys) all also e =
    let h = All-head (λ b. b < 256) x xs all in
    let k = All-head (λ b. b < 256) y ys also in
    let both = same_from_place (text_number xs) (suc x) (text_number ys) (suc y) 257 (omega (arith, h)) (omega (arith, k)) e in
    let heads : x ≡ y = let s : suc x ≡ suc y = both.1 in omega arith in
    ap (λ x. x ∷ xs) heads ∙ ap (λ xs. y ∷ xs) (number_same xs ys (All-tail (λ b. b < 256) x xs all) (All-tail (λ b. b < 256) y ys also) both.0)

within : (bs : List ℕ) (most : ℕ) → All (λ b. b < 256) bs → length bs ≤ most → text_number bs < 257 ^ most
within bs most all h = grow (text_number bs) (257 ^ length bs) (257 ^ most) (text_below bs all) (pow-le-pow_right {n = 257} (omega arith) h)
  where
    grow : (a b c : ℕ) → a < b → b ≤ c → a < c
    grow a b c h k = omega arith

pub path_number : List (List ℕ) → ℕ
path_number path = text_number (path_text path)

pub number_below : (path : List (List ℕ)) → IsPath path → path_number path < most_paths
unfolding path_number most_paths
number_below path is = within (path_text path) 16384 (path_bytes path is.names) (text_short path is)

pub path_same_number : (p q : List (List ℕ)) → IsPath p → IsPath q → path_number p ≡ path_number q → p ≡ q
unfolding path_number
path_same_number p q is iq e = text_same p q is iq (number_same (path_text p) (path_text q) (path_bytes p is.names) (path_bytes q iq.names) e)
