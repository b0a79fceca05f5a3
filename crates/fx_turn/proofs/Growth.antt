-- Beginnings of one history, and counts in it as it grows.
use Rattle.std.proofs.Common.{◌≡◌, ◌≢◌, ℕ, ◌+◌, ◌-◌, ◌<◌, ◌≤◌, eqb, List, [], ◌∷◌, ◌++◌, length, Bool, true, false, Some, None, refl, sym, ap, ◌∙◌, subst, arith, append_assoc, append-nil, length-append, eq-eqb, ne_eqb}
use Rattle.std.specs.Prelude.{Option, nat_lt, if◌then◌else◌, cond}
use Rattle.std.proofs.lemmas.List.Sums.{sum_by_push, sum_by-append}
use Rattle.std.proofs.lemmas.Bool.Decides.{nat_tests}
use Rattle.fx_turn.specs.Histories.{Begins, longer, count, own}

below : (a b : ℕ) → nat_lt a b ≡ true → a < b
below a b e = grind (arith, nat_tests)

not_below : (a b : ℕ) → nat_lt a b ≡ false → b ≤ a
not_below a b e = grind (arith, nat_tests)

module _ {I : Type 0} where
  pub begins_same : (xs ys : List I) → ys ≡ xs → Begins xs ys
  begins_same xs ys e = record { rest = []; whole = e ∙ sym (append-nil xs) }

  pub begins_nil : (ys : List I) → Begins [] ys
  begins_nil ys = record { rest = ys; whole = refl }

  pub begins_more : (xs ys zs : List I) → Begins xs ys → Begins xs (ys ++ zs)
  begins_more xs ys zs b = record { rest = b.rest ++ zs; whole = ap (λ l. l ++ zs) b.whole ∙ append_assoc xs b.rest zs }

  pub begins_on : (xs ys zs : List I) → Begins xs ys → Begins ys zs → Begins xs zs
  begins_on xs ys zs b c = subst (Begins xs) (sym c.whole) (begins_more xs ys c.rest b)

  -- the shorter of two beginnings begins the longer
  shorter : (xs ys r t : List I) → xs ++ r ≡ ys ++ t → length xs ≤ length ys → Begins xs ys
  shorter [] ys r t e l = begins_nil ys
  shorter (x ∷ xs) [] r t e l = absurd (omega arith)
  shorter (x ∷ xs) (y ∷ ys) r t e l =
      let head : x ≡ y = cc e in
      let tail : xs ++ r ≡ ys ++ t = cc e in
      let b = shorter xs ys r t tail (omega arith) in
      record { rest = b.rest; whole = (λ i. sym head i ∷ b.whole i) }

  pub begins_shorter : (xs ys log : List I) → Begins xs log → Begins ys log → length xs ≤ length ys → Begins xs ys
  begins_shorter xs ys log b c l = shorter xs ys b.rest c.rest (sym b.whole ∙ c.whole) l

  -- the longer of two beginnings begins with both, and is one
  pub record IsLonger (xs ys log : List I) : Type 0 where
    pub first : Begins xs (longer xs ys)
    pub second : Begins ys (longer xs ys)
    pub both : Begins (longer xs ys) log

  pub begins_longer : (xs ys log : List I) → Begins xs log → Begins ys log → IsLonger xs ys log
  begins_longer xs ys log b c = by_test (nat_lt (length xs) (length ys)) refl
    where
      by_test : (t : Bool) → nat_lt (length xs) (length ys) ≡ t → IsLonger xs ys log
      by_test true e =
          let is : longer xs ys ≡ ys = ap (λ (t : Bool). if t then ys else xs) e in
          record {
            first = subst (Begins xs) (sym is) (begins_shorter xs ys log b c (let l = below (length xs) (length ys) e in omega arith));
            second = subst (Begins ys) (sym is) (begins_same ys ys refl);
            both = subst (λ l. Begins l log) (sym is) c;
          }
      by_test false e =
          let is : longer xs ys ≡ xs = ap (λ (t : Bool). if t then ys else xs) e in
          record {
            first = subst (Begins xs) (sym is) (begins_same xs xs refl);
            second = subst (Begins ys) (sym is) (begins_shorter ys xs log c b (not_below (length xs) (length ys) e));
            both = subst (λ l. Begins l log) (sym is) b;
          }

module _ {I : Type 0} (shell : I → ℕ) where
  pub count_begins : (n : ℕ) (xs ys : List I) → Begins xs ys → count shell n xs ≤ count shell n ys
  count_begins n xs ys b =
      let e : count shell n ys ≡ count shell n (xs ++ b.rest) = ap (count shell n) b.whole in
      let s : count shell n (xs ++ b.rest) ≡ count shell n xs + count shell n b.rest = sum_by-append (λ x. cond (eqb (shell x) n) 1 0) xs b.rest in
      omega arith

  -- the history is the same, or has one more entry of the number n
  pub data Grows (n : ℕ) (log : List I) : List I → Type 0 where
    stays : {h : List I} → h ≡ log → Grows n log h
    adds : {h : List I} → (x : I) → h ≡ log ++ x ∷ [] → n ≡ shell x → Grows n log h

  module _ (n : ℕ) (log : List I) where
    pub grown_begins : (h : List I) → Grows n log h → (xs : List I) → Begins xs log → Begins xs h
    grown_begins h (stays e) xs b = subst (Begins xs) (sym e) b
    grown_begins h (adds x e is) xs b = subst (Begins xs) (sym e) (begins_more xs log (x ∷ []) b)

    pub grown_other : (h : List I) → Grows n log h → (m : ℕ) → m ≢ n → count shell m h ≡ count shell m log
    grown_other h (stays e) m ne = ap (count shell m) e
    grown_other h (adds x e is) m ne =
        let no : eqb (shell x) m ≡ false = ne_eqb (shell x) m (λ s. ne (sym s ∙ sym is)) in
        let p : count shell m (log ++ x ∷ []) ≡ count shell m log + cond (eqb (shell x) m) 1 0 = sum_by_push (λ x. cond (eqb (shell x) m) 1 0) log x in
        let z : ◌≡◌ {A = ℕ} (cond (eqb (shell x) m) 1 0) 0 = ap (λ (t : Bool). cond t 1 0) no in
        let q : count shell m h ≡ count shell m (log ++ x ∷ []) = ap (count shell m) e in
        omega arith

    pub grown_own : (h : List I) → Grows n log h → count shell n h ≡ count shell n log + (length h - length log)
    grown_own h (stays e) =
        let q : count shell n h ≡ count shell n log = ap (count shell n) e in
        let l : length h ≡ length log = ap length e in
        omega arith
    grown_own h (adds x e is) =
        let yes : eqb (shell x) n ≡ true = eq-eqb (shell x) n (sym is) in
        let p : count shell n (log ++ x ∷ []) ≡ count shell n log + cond (eqb (shell x) n) 1 0 = sum_by_push (λ x. cond (eqb (shell x) n) 1 0) log x in
        let z : ◌≡◌ {A = ℕ} (cond (eqb (shell x) n) 1 0) 1 = ap (λ (t : Bool). cond t 1 0) yes in
        let q : count shell n h ≡ count shell n (log ++ x ∷ []) = ap (count shell n) e in
        let l : length h ≡ length log + 1 = ap length e ∙ length-append log (x ∷ []) in
        omega arith

    -- a number that is none of the seat's has as many entries as before
    pub grown_own_other : (h : List I) → Grows n log h → (o : Option ℕ) → ((m : ℕ) → o ≡ Some m → m ≢ n) → own shell o h ≡ own shell o log
    grown_own_other h g None other = refl
    grown_own_other h g (Some m) other = grown_other h g m (other m refl)
