-- Tokens that stand for themselves in a form, and names.
use Rattle.std.specs.Prelude.{ℕ, Bool, true, false, List, [], ◌∷◌, Option, Some, None, Result, Ok, Err, bytes_eq, if◌then◌else◌}
use Rattle.fx_lex.specs.declared.token.Token.{Token}
use Rattle.fx_lex.specs.declared.token.Token.TheVariants as token
use Rattle.fx_lex.specs.declared.token.Mark.TheVariants as mark
use Rattle.fx_parse.specs.declared.keyword.Keyword.TheVariants as keyword
use Rattle.fx_parse.specs.declared.sign.Sign.{Sign}
use Rattle.fx_parse.specs.declared.sign.Sign.TheVariants as sign
use Rattle.fx_parse.specs.Keywords.{keyword_bytes, word}
use Rattle.fx_parse.specs.Grammars.{is_name}
use Rattle.fx_parse.specs.Stuck.{Stuck, Unexpected}
use Rattle.fx_parse.specs.Reader.{unexpected}

abbrev pub sign_token : Sign → Token
sign_token sign.LeftParen = token.Mark mark.LeftParen
sign_token sign.RightParen = token.Mark mark.RightParen
sign_token sign.LeftBrace = token.Mark mark.LeftBrace
sign_token sign.RightBrace = token.Mark mark.RightBrace
sign_token sign.RightAngle = token.Mark mark.RightAngle
sign_token sign.Comma = token.Mark mark.Comma
sign_token sign.Colon = token.Mark mark.Colon
sign_token sign.ColonColon = token.Mark mark.ColonColon
sign_token sign.Bar = token.Mark mark.Bar
sign_token sign.Equal = token.Mark mark.Equal
sign_token sign.In = word keyword.In
sign_token sign.Else = word keyword.Else
sign_token sign.Txn = word keyword.Txn
sign_token sign.Def = token.Def

abbrev pub is_word : List ℕ → Token → Bool
is_word wanted (token.Word w) = bytes_eq w wanted
is_word wanted (token.Number n) = false
is_word wanted (token.Str t) = false
is_word wanted (token.Mark m) = false
is_word wanted token.Def = false

abbrev pub is_sign : Sign → Token → Bool
is_sign sign.LeftParen (token.Mark mark.LeftParen) = true
is_sign sign.LeftParen _ = false
is_sign sign.RightParen (token.Mark mark.RightParen) = true
is_sign sign.RightParen _ = false
is_sign sign.LeftBrace (token.Mark mark.LeftBrace) = true
is_sign sign.LeftBrace _ = false
is_sign sign.RightBrace (token.Mark mark.RightBrace) = true
is_sign sign.RightBrace _ = false
is_sign sign.RightAngle (token.Mark mark.RightAngle) = true
is_sign sign.RightAngle _ = false
is_sign sign.Comma (token.Mark mark.Comma) = true
is_sign sign.Comma _ = false
is_sign sign.Colon (token.Mark mark.Colon) = true
is_sign sign.Colon _ = false
is_sign sign.ColonColon (token.Mark mark.ColonColon) = true
is_sign sign.ColonColon _ = false
is_sign sign.Bar (token.Mark mark.Bar) = true
is_sign sign.Bar _ = false
is_sign sign.Equal (token.Mark mark.Equal) = true
is_sign sign.Equal _ = false
is_sign sign.In t = is_word (keyword_bytes keyword.In) t
is_sign sign.Else t = is_word (keyword_bytes keyword.Else) t
is_sign sign.Txn t = is_word (keyword_bytes keyword.Txn) t
is_sign sign.Def token.Def = true
is_sign sign.Def _ = false

abbrev pub closed_by : Bool → List Token → Option (List Token)
closed_by true ts = Some ts
closed_by false ts = None

-- behind the sign, where the tokens begin with it
abbrev pub closed : Sign → List Token → Option (List Token)
closed s [] = None
closed s (x ∷ ts) = closed_by (is_sign s x) ts

-- a name, and what follows
abbrev pub name_at : List Token → Result (List ℕ × List Token) Stuck
name_at [] = Err (Unexpected 0)
name_at (token.Word w ∷ ts) = if is_name w then Ok (w, ts) else unexpected (token.Word w ∷ ts)
name_at (x ∷ ts) = unexpected (x ∷ ts)
