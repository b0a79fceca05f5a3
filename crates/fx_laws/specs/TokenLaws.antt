-- Different trees have different tokens, and so different texts.
use Rattle.std.specs.Prelude.{◌≡◌, ℕ, Bool, true, List, ◌∷◌, ◌++◌}
use Rattle.std.specs.List.{list_all}
use Rattle.fx_lex.specs.declared.token.Token.TheVariants as token
use Rattle.fx_lex.specs.declared.token.Mark.TheVariants as mark
use Rattle.fx_spec.specs.Written.{TextTree}
use Rattle.fx_spec.specs.CommandTree.{CommandTree, Block}
use Rattle.fx_grammar.specs.Tokens.{Tokens, block_tokens, script_tokens, block_names, txn_names}
use Rattle.fx_grammar.specs.Texts.{IsDescription, IsScript}

module _ {Tree : Type 0} (tokens : Tree → Tokens) (is_right : Tree → Bool) where
  -- the tokens of one tree never begin those of another, however deep the trees are nested
  abbrev pub HasOneReading : Type 0
  HasOneReading = (t u : Tree) (x y : Tokens) → is_right t ≡ true → is_right u ≡ true → tokens t ++ x ≡ tokens u ++ y → (t ≡ u) × (x ≡ y)

-- up to their closing brace, commands one after another are read in one way
abbrev pub BlocksHaveOneReading : Type 0
BlocksHaveOneReading =
    (a b : Block) (x y : Tokens) → block_names a ≡ true → block_names b ≡ true
    → block_tokens a ++ token.Mark mark.RightBrace ∷ x ≡ block_tokens b ++ token.Mark mark.RightBrace ∷ y → (a ≡ b) × (x ≡ y)

-- different scripts have different tokens
abbrev pub ScriptsDiffer : Type 0
ScriptsDiffer =
    (a b : List (List CommandTree)) → list_all txn_names a ≡ true → list_all txn_names b ≡ true → script_tokens a ≡ script_tokens b → a ≡ b

-- a text stands for one description at most
abbrev pub TextsHaveOneDescription : Type 0
TextsHaveOneDescription = (text : List ℕ) (s t : TextTree) → IsDescription text s → IsDescription text t → s ≡ t

-- and for the transactions of one script at most
abbrev pub TextsHaveOneScript : Type 0
TextsHaveOneScript = (text : List ℕ) (a b : List (List CommandTree)) → IsScript text a → IsScript text b → a ≡ b
