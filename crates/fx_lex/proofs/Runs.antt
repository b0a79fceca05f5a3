-- The longest run of bytes that pass a test.
use Rattle.std.proofs.Common.{◌≡◌, ◌+◌, ◌<◌, ◌≤◌, Bool, true, List, [], ◌∷◌, ◌++◌, length, refl, ◌∙◌, arith}
use Rattle.std.specs.List.{list_all, prefix_len, take_while}
use Rattle.std.proofs.lemmas.Bool.{and_parts, and_from, cond_both, cond-true}
use Rattle.std.proofs.lemmas.List.Sums.{take_while-cons}

module _ {X : Type 0} (p : X → Bool) where
  -- whatever passes at the front is within the run
  pub run_longest : (other more : List X) → list_all p other ≡ true → length other ≤ prefix_len p (other ++ more)
  run_longest [] more h = omega arith
  run_longest (x ∷ xs) more h =
      let parts = and_parts (p x) (list_all p xs) h in
      let rest = run_longest xs more parts.1 in
      rw (cond-true (p x) (1 + prefix_len p (xs ++ more)) 0 parts.0) (omega (arith, rest))

  pub run_passes : (xs : List X) → list_all p (take_while p xs) ≡ true
  run_passes [] = refl
  run_passes (x ∷ xs) =
      rw (take_while-cons p x xs) (cond_both (p x) (x ∷ take_while p xs) [] (λ l. list_all p l ≡ true) (λ e. and_from (p x) _ e (run_passes xs)) (λ e. refl))

  pub run_starts : (x : X) (xs : List X) → p x ≡ true → take_while p (x ∷ xs) ≡ x ∷ take_while p xs
  run_starts x xs e = take_while-cons p x xs ∙ cond-true (p x) _ _ e

  pub run_some : (x : X) (xs : List X) → p x ≡ true → 0 < prefix_len p (x ∷ xs)
  run_some x xs e = rw (cond-true (p x) (1 + prefix_len p xs) 0 e) (omega arith)
