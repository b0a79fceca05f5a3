-- Which tokens a text has, and where: the text is cut into gaps and tokens, at each place the longest token.
use Rattle.std.specs.Prelude.{◌≡◌, ◌≢◌, ℕ, ◌+◌, ◌≤◌, Bool, true, not, ◌||◌, ◌⊎◌, List, [], ◌∷◌, ◌++◌, length, flat_map, ◌==◌}
use Rattle.std.specs.List.{list_all}
use Rattle.fx_lex.specs.declared.token.Token.{Token}
use Rattle.fx_lex.specs.declared.token.Spanned.{Spanned}
use Rattle.fx_lex.specs.declared.token.LexFault.{LexFault}
use Rattle.fx_lex.specs.declared.token.LexFault.TheVariants as fault
use Rattle.fx_lex.specs.Spelling.{IsLexeme, Spells}

-- a space, a tab, a line feed or a carriage return
abbrev pub is_blank : ℕ → Bool
is_blank b = b == 32 || (b == 9 || (b == 10 || b == 13))

-- other than a line feed
abbrev pub is_within_line : ℕ → Bool
is_within_line b = not (b == 10)

-- a line feed comes next, or nothing
abbrev pub IsLineEnd : List ℕ → Type 0
IsLineEnd [] = Unit {0}
IsLineEnd (b ∷ rest) = b ≡ 10

-- what separates tokens: a blank, or a comment from `#` (35) to the end of its line
abbrev pub IsGap : List ℕ → List ℕ → Type 0
IsGap [] rest = ⊥
IsGap (b ∷ bytes) rest = ((is_blank b ≡ true) × (bytes ≡ [])) ⊎ ((b ≡ 35) × (list_all is_within_line bytes ≡ true) × IsLineEnd rest)

-- the bytes spell the token, and no longer lexeme stands at their place
pub record StandsAt (bytes rest : List ℕ) (token : Token) : Type 0 where
  pub spells : Spells bytes token
  pub longest : (other more : List ℕ) → other ++ more ≡ bytes ++ rest → IsLexeme other → length other ≤ length bytes

-- a piece of a text: a gap, or the bytes of a token
pub data Piece : Type 0 where
  Gap : List ℕ → Piece
  Lexeme : List ℕ → Token → Piece

abbrev pub piece_bytes : Piece → List ℕ
piece_bytes (Gap bytes) = bytes
piece_bytes (Lexeme bytes _) = bytes

-- the piece stands before the rest
abbrev pub IsPiece : Piece → List ℕ → Type 0
IsPiece (Gap bytes) rest = IsGap bytes rest
IsPiece (Lexeme bytes token) rest = StandsAt bytes rest token

-- the pieces stand in a row before the rest
abbrev pub ArePieces : List Piece → List ℕ → Type 0
ArePieces [] rest = Unit {0}
ArePieces (piece ∷ pieces) rest = IsPiece piece (flat_map piece_bytes pieces ++ rest) × ArePieces pieces rest

-- the tokens among the pieces with their spans, where the first piece begins at a place
abbrev pub spans : ℕ → List Piece → List Spanned
spans place [] = []
spans place (Gap bytes ∷ pieces) = spans (place + length bytes) pieces
spans place (Lexeme bytes token ∷ pieces) = record { token = token; start = place; stop = place + length bytes } ∷ spans (place + length bytes) pieces

-- the text up to a place is pieces with these tokens, and the rest follows
pub record Reads (text : List ℕ) (place : ℕ) (rest : List ℕ) (tokens : List Spanned) : Type 0 where
  pub pieces : List Piece
  pub right : ArePieces pieces rest
  pub whole : text ≡ flat_map piece_bytes pieces ++ rest
  pub reached : place ≡ length (flat_map piece_bytes pieces)
  pub found : tokens ≡ spans 0 pieces

-- no piece begins here
abbrev pub HasNoPiece : List ℕ → Type 0
HasNoPiece rest = (piece : Piece) (more : List ℕ) → rest ≡ piece_bytes piece ++ more → IsPiece piece more → ⊥

-- these are the tokens of the text, each with its span
abbrev pub AreTokensOf : List ℕ → List Spanned → Type 0
AreTokensOf text tokens = Reads text (length text) [] tokens

-- the first place of the text that begins neither a gap nor a token
abbrev pub IsBadAt : List ℕ → ℕ → Type 0
IsBadAt text place = (rest : List ℕ) × (tokens : List Spanned) × Reads text place rest tokens × (rest ≢ []) × HasNoPiece rest

-- a refusal names that place, unless memory ran out
abbrev pub IsFaultOf : List ℕ → LexFault → Type 0
IsFaultOf text (fault.BadToken place) = IsBadAt text place
IsFaultOf text fault.NoMemory = Unit {0}
