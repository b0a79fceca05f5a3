-- What is left of the definitions from a place on decides how the check of all of them ends; and whether a name is one of
-- the first of them.
use Rattle.std.proofs.Common.{◌≡◌, ℕ, zero, suc, ◌+◌, ◌<◌, Bool, true, false, cond, nat_eq, nat_lt, take, drop, length, List, [], ◌∷◌, ◌++◌, Option, Some, None, Ok, refl, sym, ap, subst, ◌∙◌, add-one, arith}
use Rattle.std.specs.Prelude.{is_some}
use Rattle.std.specs.Option.{option_map}
use Rattle.std.specs.Cmp.Lexicographic.{pointwise}
use Rattle.std.proofs.lemmas.Bool.Decides.{nat_tests}
use Rattle.fx_expr.specs.ShapeTree.{ShapeTree}
use Rattle.fx_spec.specs.Written.{DefTree, definition, place}
use Rattle.fx_check.specs.declared.fault.CheckFault.{CheckFault}
use Rattle.fx_check.specs.Gives.{IsFault}
use Rattle.fx_check.specs.Faults.{OrFault, ◌>>=◌}
use Rattle.fx_check.specs.Checked.{checked_def, checked_defs}
use Rattle.fx_check.proofs.Checking.{given, fault_then}

-- what stands at a place, and what is left behind it
pub split_next : {A : Type 0} (xs : List A) (i : ℕ) (x : A) (ys : List A) → drop i xs ≡ x ∷ ys → (take (suc i) xs ≡ take i xs ++ x ∷ []) × (drop (suc i) xs ≡ ys)
split_next [] zero x ys e = absurd (cc)
split_next [] (suc i) x ys e = absurd (cc)
split_next (z ∷ xs) zero x ys e = let same : z ≡ x = cc in (λ k. same k ∷ [], cc)
split_next (z ∷ xs) (suc i) x ys e = let rest = split_next xs i x ys e in (ap (λ l. z ∷ l) rest.0, rest.1)

next_within : {A : Type 0} (xs : List A) (i : ℕ) (x : A) (ys : List A) → drop i xs ≡ x ∷ ys → i < length xs
next_within [] zero x ys e = absurd (cc)
next_within [] (suc i) x ys e = absurd (cc)
next_within (z ∷ xs) zero x ys e = omega arith
next_within (z ∷ xs) (suc i) x ys e = let rest : i < length xs = next_within xs i x ys e in omega arith

pub take_whole : {A : Type 0} (xs : List A) (i : ℕ) → drop i xs ≡ [] → take i xs ≡ xs
take_whole [] zero e = refl
take_whole [] (suc i) e = refl
take_whole (x ∷ xs) zero e = absurd (cc)
take_whole (x ∷ xs) (suc i) e = ap (λ l. x ∷ l) (take_whole xs i e)

-- ---- definitions

-- so many definitions have been checked, and these are left
pub record AreLeft (defs : List DefTree) (i : ℕ) (rest : List DefTree) : Type 0 where
  pub checked : checked_defs defs [] defs ≡ checked_defs defs (take i defs) rest
  pub left : drop i defs ≡ rest

pub all_left : (defs rest : List DefTree) → rest ≡ defs → AreLeft defs 0 rest
all_left defs rest all = record { checked = ap (checked_defs defs []) (sym all); left = sym all }

module _ {defs : List DefTree} {i : ℕ} {rest : List DefTree} (at : AreLeft defs i rest) where
  module _ (d : DefTree) (more : List DefTree) (here : rest ≡ d ∷ more) where
    next : checked_defs defs [] defs ≡ (checked_def defs (take i defs) d >>= λ _. checked_defs defs (take i defs ++ d ∷ []) more)
    next = at.checked ∙ ap (checked_defs defs (take i defs)) here

    pub one_within : i < length defs
    one_within = next_within defs i d more (at.left ∙ here)

    pub next_def : (s : ShapeTree) → checked_def defs (take i defs) d ≡ Ok s → AreLeft defs (i + 1) more
    next_def s is =
        let split = split_next defs i d more (at.left ∙ here) in
        let one : suc i ≡ i + 1 = sym (add-one i) in
        record {
          checked =
              next ∙ given (checked_def defs (take i defs) d) (λ _. checked_defs defs (take i defs ++ d ∷ []) more) s is
              ∙ ap (λ before. checked_defs defs before more) (sym split.0) ∙ ap (λ n. checked_defs defs (take n defs) more) one;
          left = ap (λ n. drop n defs) (sym one) ∙ split.1;
        }

    pub wrong_def : (fault : CheckFault) → IsFault fault (checked_def defs (take i defs) d) → IsFault fault (checked_defs defs [] defs)
    wrong_def fault h =
        subst (λ (o : OrFault (List DefTree)). IsFault fault o) (sym next)
        (fault_then fault (checked_def defs (take i defs) d) (λ _. checked_defs defs (take i defs ++ d ∷ []) more) h)

  pub no_defs : rest ≡ [] → checked_defs defs [] defs ≡ Ok defs
  no_defs none = at.checked ∙ ap (checked_defs defs (take i defs)) none ∙ ap (λ l. Ok l) (take_whole defs i (at.left ∙ none))

-- ---- a name among the first definitions

abbrev pub is_below : ℕ → Option ℕ → Bool
is_below n None = false
is_below n (Some i) = nat_lt i n

pub among : (f : List ℕ) (n : ℕ) (defs : List DefTree) → is_some (definition f (take n defs)) ≡ is_below n (place f defs)
among f zero [] = refl
among f (suc n) [] = refl
among f zero (d ∷ defs) = none (pointwise nat_eq d.name f) (place f defs)
  where
    none : (b : Bool) (o : Option ℕ) → false ≡ is_below 0 (cond b (Some 0) (option_map (λ i. suc i) o))
    none true o = refl
    none false None = refl
    none false (Some i) = let f : nat_lt (suc i) 0 ≡ false = grind (arith, nat_tests) in sym f
among f (suc n) (d ∷ defs) = more (pointwise nat_eq d.name f) (place f defs) (among f n defs)
  where
    more : (b : Bool) (o : Option ℕ) → is_some (definition f (take n defs)) ≡ is_below n o
        → is_some (cond b (Some d) (definition f (take n defs))) ≡ is_below (suc n) (cond b (Some 0) (option_map (λ i. suc i) o))
    more true o rest = let t : nat_lt 0 (suc n) ≡ true = grind (arith, nat_tests) in sym t
    more false None rest = rest
    more false (Some i) rest = let same : nat_lt i n ≡ nat_lt (suc i) (suc n) = grind (arith, nat_tests) in rest ∙ same
