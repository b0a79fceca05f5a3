-- The tokens of a text, and how long the text is.
use Rattle.std.specs.Prelude.{ℕ, List}
use Rattle.fx_lex.specs.declared.token.Spanned.{Spanned}

pub record TokenList : Type 0 where
  pub spanned : List Spanned
  pub text_len : ℕ
