-- A rule behind some evaluations.
use Rattle.std.proofs.Common.{◌≡◌, ℕ, zero, suc, ◌+◌, refl, arith}
use Rattle.fx_store.specs.Rule.{Ask, answer, ticks}
use Rattle.fx_store.specs.Whole.{Store}
use Rattle.fx_spec.specs.Describe.{behind}

module _ {A : Type 0} (S : Store) where
  pub answer-behind : (n : ℕ) (rule : Ask A) → answer S (behind n rule) ≡ answer S rule
  answer-behind zero rule = refl
  answer-behind (suc n) rule = answer-behind n rule

  pub ticks-behind : (n : ℕ) (rule : Ask A) → ticks S (behind n rule) ≡ n + ticks S rule
  ticks-behind zero rule = omega arith
  ticks-behind (suc n) rule = let rest = ticks-behind n rule in omega (arith, rest)
