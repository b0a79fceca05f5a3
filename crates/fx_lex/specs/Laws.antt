-- A text is read in one way at most.
use Rattle.std.specs.Prelude.{◌≡◌, ℕ, List}
use Rattle.fx_lex.specs.declared.token.Spanned.{Spanned}
use Rattle.fx_lex.specs.Reading.{AreTokensOf, IsBadAt}

abbrev pub TokensAreUnique : Type 0
TokensAreUnique = (text : List ℕ) (a b : List Spanned) → AreTokensOf text a → AreTokensOf text b → a ≡ b

abbrev pub BadPlaceIsUnique : Type 0
BadPlaceIsUnique = (text : List ℕ) (a b : ℕ) → IsBadAt text a → IsBadAt text b → a ≡ b

abbrev pub TokensExcludeBadPlace : Type 0
TokensExcludeBadPlace = (text : List ℕ) (tokens : List Spanned) (place : ℕ) → AreTokensOf text tokens → IsBadAt text place → ⊥
