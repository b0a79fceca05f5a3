-- When a gap stands at the front of bytes, and that no two gaps do.
use Rattle.std.proofs.Common.{◌≡◌, ℕ, ◌+◌, ◌<◌, true, false, eqb, inl, inr, List, [], ◌∷◌, ◌++◌, length, take, drop, get_or, refl, sym, ap, ◌∙◌, subst, arith}
use Rattle.std.specs.List.{list_all, prefix_len, take_while}
use Rattle.std.proofs.lemmas.Bool.{and_parts, cond_both, false≢true, eqb-true, not-false}
use Rattle.std.proofs.lemmas.List.Sums.{prefix_len-le-length}
use Rattle.std.proofs.Math.Numerals.{one-add}
use Rattle.fx_lex.specs.declared.scan.Found.TheVariants as found
use Rattle.fx_lex.specs.Reading.{is_blank, is_within_line, IsLineEnd, IsGap}
use Rattle.fx_lex.specs.Found.{IsFoundAt}
use Rattle.fx_lex.proofs.Runs.{run_passes, run_starts, run_some}

-- behind the bytes of a line comes its end
line_ends : (bytes : List ℕ) → IsLineEnd (drop (prefix_len is_within_line bytes) bytes)
line_ends [] = tt
line_ends (b ∷ bytes) =
    cond_both (is_within_line b) (1 + prefix_len is_within_line bytes) 0 (λ n. IsLineEnd (drop n (b ∷ bytes)))
    (λ h. subst (λ n. IsLineEnd (drop n (b ∷ bytes))) (sym (one-add (prefix_len is_within_line bytes))) (line_ends bytes))
    (λ h. line_feed b h)
  where
    line_feed : (b : ℕ) → is_within_line b ≡ false → b ≡ 10
    line_feed b h = eqb-true b 10 (not-false (eqb b 10) h)

pub comment_found : (bytes : List ℕ) (n : ℕ) → 0 < length bytes → get_or bytes 0 0 ≡ 35 → n ≡ prefix_len is_within_line bytes → IsFoundAt bytes (found.Gap n)
comment_found [] n some hash e = absurd (omega (arith, some))
comment_found (b ∷ bytes) n some hash e =
    let within : is_within_line b ≡ true = ap is_within_line hash in
    let starts = run_starts is_within_line b bytes within in
    let gap : IsGap (b ∷ take_while is_within_line bytes) (drop (prefix_len is_within_line (b ∷ bytes)) (b ∷ bytes)) =
    inr (hash, run_passes is_within_line bytes, line_ends (b ∷ bytes)) in
    let here = subst (λ l. IsGap l (drop (prefix_len is_within_line (b ∷ bytes)) (b ∷ bytes))) (sym starts) gap in
    (omega (arith, e, run_some is_within_line b bytes within), omega (arith, e, prefix_len-le-length is_within_line (b ∷ bytes)), subst (λ m. IsGap (take m (b ∷ bytes)) (drop m (b ∷ bytes))) (sym e) here)

-- two lines that begin one list of bytes are the same
same_line : (g h x y : List ℕ) → list_all is_within_line g ≡ true → list_all is_within_line h ≡ true → IsLineEnd x → IsLineEnd y → g ++ x ≡ h ++ y → g ≡ h
same_line [] [] x y p q m n e = refl
same_line [] (c ∷ h) [] y p q m n e = absurd cc
same_line [] (c ∷ h) (b ∷ x) y p q m n e =
    let same : b ≡ c = cc in
    let wrong : is_within_line 10 ≡ true = ap is_within_line (sym m ∙ same) ∙ (and_parts _ _ q).0 in
    absurd (false≢true wrong)
same_line (b ∷ g) [] x [] p q m n e = absurd cc
same_line (b ∷ g) [] x (c ∷ y) p q m n e =
    let same : b ≡ c = cc in
    let wrong : is_within_line 10 ≡ true = ap is_within_line (sym n ∙ sym same) ∙ (and_parts _ _ p).0 in
    absurd (false≢true wrong)
same_line (b ∷ g) (c ∷ h) x y p q m n e =
    let same : b ≡ c = cc in
    let rest : g ++ x ≡ h ++ y = cc in
    ap (λ z. z ∷ g) same ∙ ap (λ l. c ∷ l) (same_line g h x y (and_parts _ _ p).1 (and_parts _ _ q).1 m n rest)

pub same_gap : (g h x y : List ℕ) → IsGap g x → IsGap h y → g ++ x ≡ h ++ y → g ≡ h
same_gap [] h x y p q e = elim p [ ]
same_gap (b ∷ g) [] x y p q e = elim q [ ]
same_gap (b ∷ g) (c ∷ h) x y (inl p) (inl q) e =
    let same : b ≡ c = cc in
    ap (λ z. z ∷ g) same ∙ ap (λ l. c ∷ l) (p.1 ∙ sym q.1)
same_gap (b ∷ g) (c ∷ h) x y (inl p) (inr q) e =
    let same : b ≡ c = cc in
    let wrong : is_blank 35 ≡ true = ap is_blank (sym (same ∙ q.0)) ∙ p.0 in
    absurd (false≢true wrong)
same_gap (b ∷ g) (c ∷ h) x y (inr p) (inl q) e =
    let same : b ≡ c = cc in
    let wrong : is_blank 35 ≡ true = ap is_blank (sym p.0 ∙ same) ∙ q.0 in
    absurd (false≢true wrong)
same_gap (b ∷ g) (c ∷ h) x y (inr p) (inr q) e =
    let same : b ≡ c = cc in
    let rest : g ++ x ≡ h ++ y = cc in
    ap (λ z. z ∷ g) same ∙ ap (λ l. c ∷ l) (same_line g h x y p.1 q.1 p.2 q.2 rest)
