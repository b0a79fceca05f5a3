-- Tokens of a text that keeps the word `def` for itself: there it is no word any more.
use Rattle.std.specs.Prelude.{Bool, false, codes, bytes_eq, if◌then◌else◌}
use Rattle.fx_lex.specs.declared.token.Token.{Token}
use Rattle.fx_lex.specs.declared.token.Token.TheVariants as token
use Rattle.fx_lex.specs.declared.token.Spanned.{Spanned}

abbrev pub is_def : Token → Bool
is_def (token.Word w) = bytes_eq w (codes "def")
is_def _ = false

-- the token, and in place of the word `def` one of its own
abbrev pub kept : Token → Token
kept t = if is_def t then token.Def else t

-- the same with its bytes
abbrev pub kept_at : Spanned → Spanned
kept_at s = record { token = kept s.token; start = s.start; stop = s.stop }
