-- Why a text is not one whole tree, and where.
use Rattle.std.specs.Prelude.{◌≡◌, ◌-◌, ◌<◌, ◌≤◌, ◌⊎◌, ℕ, true, List, [], ◌∷◌, ◌++◌, length, map, slice_get}
use Rattle.std.specs.Option.{option_map_or}
use Rattle.fx_base.specs.Limits.{source_limit}
use Rattle.fx_lex.specs.declared.token.Token.{Token}
use Rattle.fx_lex.specs.declared.token.Spanned.{Spanned}
use Rattle.fx_lex.specs.Kept.{kept}
use Rattle.fx_lex.specs.Reading.{AreTokensOf, IsBadAt}
use Rattle.fx_parse.specs.declared.fault.ParseFault.{ParseFault}
use Rattle.fx_parse.specs.declared.fault.ParseFault.TheVariants as fault
use Rattle.fx_parse.specs.Readable.{Grammar, Stands, Begins, IsShallow, IsTooNested}
use Rattle.fx_parse.specs.Reader.{kinds}
use Rattle.fx_grammar.specs.Grammars.{descriptions}

module _ {Tree : Type 0} (g : Grammar Tree) where
  -- With k tokens left, the first of them is the first with which the tokens so far begin no tree, or the tokens end too
  -- early: they are those of no tree.
  pub record IsMisplaced (ts : List Token) (k : ℕ) : Type 0 where
    pub front : List Token
    pub rest : List Token
    pub parts : ts ≡ front ++ rest
    pub place : k ≡ length rest
    pub begins : Begins g front
    pub ends : (x : Token) (more : List Token) → rest ≡ x ∷ more → Begins g (front ++ x ∷ []) → ⊥
    pub none : (t : Tree) → g.IsRight t ≡ true → ts ≡ g.tokens t → ⊥
    pub shallow : IsShallow g 1 front

  -- Tokens are those of a tree that is nested at most 64 deep, or have a place with which they are none, or one at which
  -- they nest too deep: one of the three alone, and at one place.
  pub record HasOnePlace (ts : List Token) : Type 0 where
    pub some : ((t : Tree) × Stands g 1 ts t []) ⊎ (((k : ℕ) × IsMisplaced ts k) ⊎ ((k : ℕ) × IsTooNested g 1 ts k))
    pub misplaced : (j k : ℕ) → IsMisplaced ts j → IsMisplaced ts k → j ≡ k
    pub too_nested : (j k : ℕ) → IsTooNested g 1 ts j → IsTooNested g 1 ts k → j ≡ k
    pub one_kind : (j k : ℕ) → IsMisplaced ts j → IsTooNested g 1 ts k → ⊥
    pub not_misplaced : (t : Tree) (k : ℕ) → Stands g 1 ts t [] → IsMisplaced ts k → ⊥
    pub not_too_nested : (t : Tree) (k : ℕ) → Stands g 1 ts t [] → IsTooNested g 1 ts k → ⊥

  -- the tokens of the text go wrong in this way with so many left, the first of which stands at the place
  pub record GoesWrong (Wrong : List Token → ℕ → Type 0) (text : List ℕ) (place : ℕ) : Type 0 where
    pub short : length text ≤ source_limit
    pub spanned : List Spanned
    pub tokens : AreTokensOf text spanned
    pub left : ℕ
    pub wrong : Wrong (kinds spanned) left
    pub stands : place ≡ option_map_or (λ s. s.start) (slice_get spanned (length spanned - left)) (length text)

  -- A refusal of a text that is to be one tree and nothing else, and whose tokens are read so: it is longer than 65,536
  -- bytes; or it has no tokens, and this is the first place where none begins; or this is the place where its tokens go
  -- wrong first. Or memory ran out.
  abbrev pub IsRefusedAs : (List Token → List Token) → List ℕ → ParseFault → Type 0
  IsRefusedAs read text fault.TooLarge = source_limit < length text
  IsRefusedAs read text (fault.BadToken place) = (length text ≤ source_limit) × IsBadAt text place
  IsRefusedAs read text (fault.Unexpected place) = GoesWrong (λ ts. IsMisplaced (read ts)) text place
  IsRefusedAs read text (fault.TooNested place) = GoesWrong (λ ts. IsTooNested g 1 (read ts)) text place
  IsRefusedAs read text fault.NoMemory = Unit {0}

  -- the tokens are read as they are
  abbrev pub IsRefused : List ℕ → ParseFault → Type 0
  IsRefused text fault = IsRefusedAs (λ ts. ts) text fault

-- a refusal of a text that is to be a description: it keeps the word `def`
abbrev pub IsRefusedDescription : List ℕ → ParseFault → Type 0
IsRefusedDescription text fault = IsRefusedAs descriptions (λ ts. map kept ts) text fault
