-- Rules that consult nothing.
use Rattle.fx_steps.proofs.Prelude.{◌≡◌, ◌≤◌, Some, ap, arith, Known, Ask, Answer, Look, Tick, Found, follow, ticks, Store, told, costs}

pub told_found : {A : Type 0} (known own : Known) (rule : Ask A) (a : A) → told rule ≡ Some a → follow known own rule ≡ Found a
told_found known own (Answer b) a e = let same : b ≡ a = cc in ap (λ b. Found b) same
told_found known own (Look p next) a e = absurd (cc)
told_found known own (Tick rule) a e = told_found known own rule a e

pub costs_ticks : {A : Type 0} (S : Store) (rule : Ask A) → costs rule ≤ ticks S rule
costs_ticks S (Answer a) = omega arith
costs_ticks S (Look p next) = omega arith
costs_ticks S (Tick rule) = let rest = costs_ticks S rule in omega arith
