-- Readers of tokens.
use Rattle.std.specs.Prelude.{List, Result}
use Rattle.fx_lex.specs.declared.token.Token.{Token}
use Rattle.fx_parse.specs.Stuck.{Stuck}

-- a reader of something at the front
abbrev pub Read : Type 0 → Type 0
Read X = List Token → Result (X × List Token) Stuck
