-- Lists of tokens taken apart, and the numbers by which their first tokens are told apart.
use Rattle.std.proofs.Common.{◌≡◌, ℕ, Bool, true, false, ◌&&◌, List, [], ◌∷◌, ◌++◌, Option, Some, None, refl, sym, ap, ◌∙◌, append_assoc}
use Rattle.std.specs.Prelude.{is_none}
use Rattle.fx_lex.specs.declared.token.Mark.{Mark}
use Rattle.fx_lex.specs.declared.token.Token.{Token}
use Rattle.fx_lex.specs.declared.token.Token.TheVariants as token
use Rattle.fx_parse.specs.declared.keyword.Keyword.{Keyword}
use Rattle.fx_parse.specs.Keywords.{keyword_of, word}
use Rattle.fx_parse.specs.Grammars.{comma, is_name}
use Rattle.fx_parse.proofs.Finds.{is_no_keyword}
use Rattle.fx_parse.proofs.KeywordLaws.{keyword_again}
use Rattle.fx_grammar.specs.Tokens.{Tokens}

pub tail_of : (s t : Token) (x y : Tokens) → s ∷ x ≡ t ∷ y → x ≡ y
tail_of s t x y e = cc

pub word_of : (v w : List ℕ) (x y : Tokens) → token.Word v ∷ x ≡ token.Word w ∷ y → v ≡ w
word_of v w x y e = cc

-- the brackets moved to the right on both sides
pub behind_two : (a b x c d y : Tokens) → (a ++ b) ++ x ≡ (c ++ d) ++ y → a ++ (b ++ x) ≡ c ++ (d ++ y)
behind_two a b x c d y e = sym (append_assoc a b x) ∙ e ∙ append_assoc c d y

pub behind_three : (a b m x c d n y : Tokens) → ((a ++ b) ++ m) ++ x ≡ ((c ++ d) ++ n) ++ y → a ++ (b ++ (m ++ x)) ≡ c ++ (d ++ (n ++ y))
behind_three a b m x c d n y e = behind_two a b (m ++ x) c d (n ++ y) (behind_two (a ++ b) m x (c ++ d) n y e)

-- of three the first, and the other two
pub and_then : (a b c : Bool) → (a && b) && c ≡ true → (a ≡ true) × (b && c ≡ true)
and_then true b c is = (refl, is)
and_then false b c is = absurd (cc)

-- the first token, if there is one
abbrev pub first : Tokens → Token
first [] = comma
first (t ∷ ts) = t

abbrev by_word : (Keyword → ℕ) → Option Keyword → ℕ
by_word keys None = 0
by_word keys (Some k) = keys k

-- a number for each token: by kept words and by marks
abbrev pub number : (Keyword → ℕ) → (Mark → ℕ) → Token → ℕ
number keys marks (token.Word w) = by_word keys (keyword_of w)
number keys marks (token.Mark m) = marks m
number keys marks _ = 0

pub number_word : (keys : Keyword → ℕ) (marks : Mark → ℕ) (k : Keyword) → number keys marks (word k) ≡ keys k
number_word keys marks k = ap (by_word keys) (keyword_again k)

-- a name has none
pub number_name : (keys : Keyword → ℕ) (marks : Mark → ℕ) (w : List ℕ) → is_name w ≡ true → number keys marks (token.Word w) ≡ 0
number_name keys marks w is = none_of (keyword_of w) (sym (is_no_keyword w) ∙ is)
  where
    none_of : (o : Option Keyword) → is_none o ≡ true → by_word keys o ≡ 0
    none_of None is = refl
    none_of (Some k) is = absurd (cc)

-- equal tokens have equal first numbers
pub same_number : (keys : Keyword → ℕ) (marks : Mark → ℕ) (x y : Tokens) (m n : ℕ) → number keys marks (first x) ≡ m → number keys marks (first y) ≡ n → x ≡ y → m ≡ n
same_number keys marks x y m n p q e = sym p ∙ ap (λ ts. number keys marks (first ts)) e ∙ q
