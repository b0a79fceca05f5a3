-- How many entries of an order are a shell's.
use Rattle.std.proofs.Common.{◌≡◌, ℕ, ◌+◌, Bool, true, false, cond, nat_eq, List, [], ◌∷◌, length, Some, None, refl, ◌∙◌, arith}
use Rattle.std.specs.List.{cons_option}
use Rattle.std.proofs.lemmas.List.Sums.{sum_by-cons}
use Rattle.fx_spec.specs.Plans.{Turn}
use Rattle.fx_spec.specs.Order.{numbers_of}
use Rattle.fx_turn.specs.Histories.{count}

-- the entries of a number are as many as the transactions of that shell
pub count_own : (n : ℕ) (o : List Turn) → count (λ (turn : Turn). turn.0) n o ≡ length (numbers_of n o)
count_own n [] = refl
count_own n (turn ∷ o) = sum_by-cons (λ (t : Turn). cond (nat_eq t.0 n) 1 0) turn o ∙ by (nat_eq turn.0 n) (count_own n o)
  where
    by : (b : Bool) → count (λ (turn : Turn). turn.0) n o ≡ length (numbers_of n o) → cond b 1 0 + count (λ (turn : Turn). turn.0) n o ≡ length (cons_option (cond b (Some turn.1) None) (numbers_of n o))
    by true e = omega arith
    by false e = omega arith
