-- Tokens are read in one way at most, and reading goes wrong at one place.
use Rattle.std.specs.Prelude.{◌≡◌, ◌⊎◌, ℕ, true, List, ◌++◌}
use Rattle.fx_lex.specs.declared.token.Token.{Token}
use Rattle.fx_parse.specs.Readable.{Grammar, Stands, IsUnexpected, IsTooNested}

module _ {Tree : Type 0} (g : Grammar Tree) where
  -- the tokens of one tree never begin those of another, however deep the trees are nested
  abbrev pub OneReading : Type 0
  OneReading = (t u : Tree) (x y : List Token) → g.IsRight t ≡ true → g.IsRight u ≡ true → g.tokens t ++ x ≡ g.tokens u ++ y → (t ≡ u) × (x ≡ y)

  -- at most one tree stands at the front of tokens
  abbrev pub OneForm : Type 0
  OneForm = (depth : ℕ) (ts : List Token) (t u : Tree) (x y : List Token) → Stands g depth ts t x → Stands g depth ts u y → (t ≡ u) × (x ≡ y)

  -- At the front of tokens stands a tree, or they have a place with which they begin no tree, or one at which they nest too
  -- deep: one of the three alone, and at one place.
  pub record OnePlace (depth : ℕ) (ts : List Token) : Type 0 where
    pub some : ((t : Tree) × (rest : List Token) × Stands g depth ts t rest) ⊎ (((k : ℕ) × IsUnexpected g depth ts k) ⊎ ((k : ℕ) × IsTooNested g depth ts k))
    pub unexpected : (j k : ℕ) → IsUnexpected g depth ts j → IsUnexpected g depth ts k → j ≡ k
    pub too_nested : (j k : ℕ) → IsTooNested g depth ts j → IsTooNested g depth ts k → j ≡ k
    pub one_kind : (j k : ℕ) → IsUnexpected g depth ts j → IsTooNested g depth ts k → ⊥
    pub not_unexpected : (t : Tree) (rest : List Token) (k : ℕ) → Stands g depth ts t rest → IsUnexpected g depth ts k → ⊥
    pub not_too_nested : (t : Tree) (rest : List Token) (k : ℕ) → Stands g depth ts t rest → IsTooNested g depth ts k → ⊥
