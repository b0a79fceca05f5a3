-- Signs are the tokens that they look like, and names are words.
use Rattle.std.proofs.Common.{◌≡◌, ℕ, Bool, true, false, cond, Result, Ok, Err, List, ◌∷◌, length, refl, sym, ap, ◌∙◌}
use Rattle.std.proofs.lemmas.Slice.Eq.{bytes_eq-Decides}
use Rattle.fx_lex.specs.declared.token.Token.{Token}
use Rattle.fx_lex.specs.declared.token.Token.TheVariants as token
use Rattle.fx_lex.specs.declared.token.Mark.TheVariants as mark
use Rattle.fx_parse.specs.declared.keyword.Keyword.{Keyword}
use Rattle.fx_parse.specs.declared.keyword.Keyword.TheVariants as keyword
use Rattle.fx_parse.specs.declared.sign.Sign.{Sign}
use Rattle.fx_parse.specs.declared.sign.Sign.TheVariants as sign
use Rattle.fx_parse.specs.Keywords.{keyword_bytes, word}
use Rattle.fx_parse.specs.Grammars.{is_name}
use Rattle.fx_parse.specs.Stuck.{Stuck, Unexpected, ◌>>=◌}
use Rattle.fx_parse.specs.Signs.{sign_token, is_word, is_sign, name_at}

word_is : (k : Keyword) (t : Token) → is_word (keyword_bytes k) t ≡ true → t ≡ word k
word_is k (token.Word w) is = ap token.Word ((bytes_eq-Decides w (keyword_bytes k)).0 is)
word_is k (token.Number n) is = cc
word_is k (token.Str t) is = cc
word_is k (token.Mark m) is = cc
word_is k token.Def is = cc

pub sign_is : (s : Sign) (t : Token) → is_sign s t ≡ true → t ≡ sign_token s
sign_is sign.LeftParen (token.Mark mark.LeftParen) is = refl
sign_is sign.LeftParen t is = cc
sign_is sign.RightParen (token.Mark mark.RightParen) is = refl
sign_is sign.RightParen t is = cc
sign_is sign.LeftBrace (token.Mark mark.LeftBrace) is = refl
sign_is sign.LeftBrace t is = cc
sign_is sign.RightBrace (token.Mark mark.RightBrace) is = refl
sign_is sign.RightBrace t is = cc
sign_is sign.RightAngle (token.Mark mark.RightAngle) is = refl
sign_is sign.RightAngle t is = cc
sign_is sign.Comma (token.Mark mark.Comma) is = refl
sign_is sign.Comma t is = cc
sign_is sign.Colon (token.Mark mark.Colon) is = refl
sign_is sign.Colon t is = cc
sign_is sign.ColonColon (token.Mark mark.ColonColon) is = refl
sign_is sign.ColonColon t is = cc
sign_is sign.Bar (token.Mark mark.Bar) is = refl
sign_is sign.Bar t is = cc
sign_is sign.Equal (token.Mark mark.Equal) is = refl
sign_is sign.Equal t is = cc
sign_is sign.In t is = word_is keyword.In t is
sign_is sign.Else t is = word_is keyword.Else t is
sign_is sign.Txn t is = word_is keyword.Txn t is
sign_is sign.Def token.Def is = refl
sign_is sign.Def t is = cc

pub sign_again : (s : Sign) → is_sign s (sign_token s) ≡ true
sign_again sign.LeftParen = refl
sign_again sign.RightParen = refl
sign_again sign.LeftBrace = refl
sign_again sign.RightBrace = refl
sign_again sign.RightAngle = refl
sign_again sign.Comma = refl
sign_again sign.Colon = refl
sign_again sign.ColonColon = refl
sign_again sign.Bar = refl
sign_again sign.Equal = refl
sign_again sign.In = refl
sign_again sign.Else = refl
sign_again sign.Txn = refl
sign_again sign.Def = refl

-- the token is a name
abbrev pub names : Token → Bool
names (token.Word w) = is_name w
names (token.Number n) = false
names (token.Str t) = false
names (token.Mark m) = false
names token.Def = false

pub name_is : (t : Token) → names t ≡ true → (w : List ℕ) × (is_name w ≡ true) × (t ≡ token.Word w)
name_is (token.Word w) is = (w, is, refl)
name_is (token.Number n) is = absurd cc
name_is (token.Str t) is = absurd cc
name_is (token.Mark m) is = absurd cc
name_is token.Def is = absurd cc

-- where a kept word stands, no name is read
pub no_name : (ts rest : List Token) (w : List ℕ) → ts ≡ token.Word w ∷ rest → is_name w ≡ false → name_at ts ≡ Err (Unexpected (length ts))
no_name ts rest w e kept =
    ap name_at e ∙ ap (λ b. cond b (Ok (w, rest)) (Err (Unexpected (length (token.Word w ∷ rest))))) kept ∙ ap (λ l. Err (Unexpected (length l))) (sym e)

-- a name that is read again, and then the others
pub name_then : {B : Type 0} (x : List ℕ) (ts : List Token) (k : List ℕ × List Token → Result B Stuck) → is_name x ≡ true → (name_at (token.Word x ∷ ts) >>= k) ≡ k (x, ts)
name_then x ts k h =
    ap (λ b. let r : Result (List ℕ × List Token) Stuck = cond b (Ok (x, ts)) (Err (Unexpected (length (token.Word x ∷ ts)))) in r >>= k) h
