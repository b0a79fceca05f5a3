-- What the text of a description and of a script stands for.
use Rattle.std.specs.Prelude.{◌≡◌, ℕ, ◌≤◌, true, nat_le, List, length, map}
use Rattle.std.specs.List.{list_all}
use Rattle.fx_base.specs.Limits.{source_limit}
use Rattle.fx_lex.specs.declared.token.Token.{Token}
use Rattle.fx_lex.specs.declared.token.Spanned.{Spanned}
use Rattle.fx_lex.specs.Kept.{kept}
use Rattle.fx_lex.specs.Reading.{AreTokensOf}
use Rattle.fx_parse.specs.Readable.{Grammar}
use Rattle.fx_parse.specs.Reader.{kinds}
use Rattle.fx_spec.specs.Written.{TextTree}
use Rattle.fx_spec.specs.CommandTree.{CommandTree}
use Rattle.fx_grammar.specs.Grammars.{descriptions, scripts}

-- the text has tokens that are these, one after another, once they are read so
abbrev pub HasTokens : (List Token → List Token) → List ℕ → List Token → Type 0
HasTokens read text tokens = (spanned : List Spanned) × AreTokensOf text spanned × (read (kinds spanned) ≡ tokens)

-- a text of at most 65,536 bytes stands for a tree: its tokens, read so, are those of the tree, which is nested at most 64 deep
-- and has no kept word for a name
pub record StandsFor {Tree : Type 0} (g : Grammar Tree) (read : List Token → List Token) (text : List ℕ) (tree : Tree) : Type 0 where
  pub short : length text ≤ source_limit
  pub tokens : HasTokens read text (g.tokens tree)
  pub names : g.IsRight tree ≡ true
  pub nested : list_all (λ level. nat_le level 64) (g.levels 1 tree) ≡ true

-- the tree is a description with its definitions, and the word `def` is kept
abbrev pub IsDescription : List ℕ → TextTree → Type 0
IsDescription text described = StandsFor descriptions (map kept) text described

-- the tree is a script, and its tokens are read as they are
abbrev pub IsScript : List ℕ → List (List CommandTree) → Type 0
IsScript text txns = StandsFor scripts (λ ts. ts) text txns
