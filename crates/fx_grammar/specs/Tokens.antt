-- The tokens of descriptions and scripts, form by form; those of expressions and shapes are the parser's.
use Rattle.std.specs.Prelude.{ℕ, Bool, true, ◌&&◌, List, [], ◌∷◌, ◌++◌, codes}
use Rattle.std.specs.List.{flat_map, list_all}
use Rattle.fx_lex.specs.declared.token.Token.{Token}
use Rattle.fx_lex.specs.declared.token.Token.TheVariants as token
use Rattle.fx_lex.specs.declared.token.Mark.TheVariants as mark
use Rattle.fx_parse.specs.Grammars.{opening, closing, comma, expr_tokens, shape_tokens, is_name, has_names}
use Rattle.fx_expr.specs.ShapeTree.{ShapeTree}
use Rattle.fx_spec.specs.Written.{WrittenTree, DefTree, TextTree}
use Rattle.fx_spec.specs.CommandTree.{ActTree, CommandTree, Block, block}

abbrev pub Tokens : Type 0
Tokens = List Token

-- a form in round brackets
abbrev pub bracketed : Tokens → Tokens
bracketed inside = opening ∷ inside ++ closing ∷ []

-- a form in braces
abbrev pub braced : Tokens → Tokens
braced inside = token.Mark mark.LeftBrace ∷ inside ++ token.Mark mark.RightBrace ∷ []

-- parts with commas between them, which may be none
abbrev pub listed : {Part : Type 0} → (Part → Tokens) → List Part → Tokens
listed tokens [] = []
listed tokens (p ∷ ps) = tokens p ++ flat_map (λ q. comma ∷ tokens q) ps

abbrev pub spec_tokens : WrittenTree → Tokens
spec_tokens WrittenTree.file = token.Word (codes "file") ∷ []
spec_tokens WrittenTree.dir = token.Word (codes "dir") ∷ []
spec_tokens WrittenTree.link = token.Word (codes "link") ∷ []
spec_tokens (WrittenTree.focus e s) = bracketed (expr_tokens e ++ token.Mark mark.ColonColon ∷ spec_tokens s)
spec_tokens (WrittenTree.pair x a b) =
    token.Mark mark.LeftAngle ∷ token.Word x ∷ token.Mark mark.Colon ∷ spec_tokens a ++ comma ∷ spec_tokens b ++ token.Mark mark.RightAngle ∷ []
spec_tokens (WrittenTree.comp s x e) = braced (spec_tokens s ++ token.Mark mark.Bar ∷ token.Word x ∷ token.Word (codes "in") ∷ expr_tokens e)
spec_tokens (WrittenTree.opt s) = token.Word (codes "opt") ∷ bracketed (spec_tokens s)
spec_tokens (WrittenTree.pred e) = token.Word (codes "pred") ∷ bracketed (expr_tokens e)
spec_tokens (WrittenTree.call f args) = token.Word f ∷ bracketed (listed expr_tokens args)

-- `NAME : shape`
abbrev pub param_tokens : List ℕ × ShapeTree → Tokens
param_tokens p = token.Word p.0 ∷ token.Mark mark.Colon ∷ shape_tokens p.1

-- `def NAME ( .. ) = spec`
abbrev pub def_tokens : DefTree → Tokens
def_tokens d = token.Def ∷ token.Word d.name ∷ bracketed (listed param_tokens d.params) ++ token.Mark mark.Equal ∷ spec_tokens d.body

-- the definitions one after another, and the root behind them
abbrev pub text_tokens : TextTree → Tokens
text_tokens t = flat_map def_tokens t.defs ++ spec_tokens t.root

abbrev pub act_tokens : ActTree → Tokens
act_tokens ActTree.into = token.Word (codes "into") ∷ []
act_tokens (ActTree.to e) = token.Word (codes "to") ∷ bracketed (expr_tokens e)
act_tokens ActTree.next = token.Word (codes "next") ∷ []
act_tokens ActTree.prev = token.Word (codes "prev") ∷ []
act_tokens ActTree.out = token.Word (codes "out") ∷ []
act_tokens ActTree.down = token.Word (codes "down") ∷ []
act_tokens ActTree.up = token.Word (codes "up") ∷ []
act_tokens ActTree.top = token.Word (codes "top") ∷ []
act_tokens (ActTree.store e) = token.Word (codes "store") ∷ bracketed (expr_tokens e)
act_tokens ActTree.create = token.Word (codes "create") ∷ []
act_tokens ActTree.remove = token.Word (codes "remove") ∷ []

abbrev mutual
  pub command_tokens : CommandTree → Tokens
  command_tokens (CommandTree.act a) = act_tokens a
  command_tokens (CommandTree.attempt x a) = token.Word (codes "try") ∷ token.Word x ∷ act_tokens a
  command_tokens (CommandTree.bind x e) = token.Word (codes "let") ∷ token.Word x ∷ token.Mark mark.Equal ∷ expr_tokens e
  command_tokens (CommandTree.assign x e) = token.Word (codes "set") ∷ token.Word x ∷ token.Mark mark.Equal ∷ expr_tokens e
  command_tokens (CommandTree.fetch x s) = token.Word (codes "fetch") ∷ token.Word x ∷ token.Mark mark.Colon ∷ shape_tokens s
  command_tokens (CommandTree.whole x s) = token.Word (codes "value") ∷ token.Word x ∷ token.Mark mark.Colon ∷ shape_tokens s
  command_tokens (CommandTree.validate x) = token.Word (codes "validate") ∷ token.Word x ∷ []
  command_tokens (CommandTree.print e) = token.Word (codes "print") ∷ bracketed (expr_tokens e)
  command_tokens (CommandTree.branch e a b) =
      token.Word (codes "if") ∷ bracketed (expr_tokens e) ++ braced (block_tokens a) ++ token.Word (codes "else") ∷ braced (block_tokens b)
  command_tokens (CommandTree.each x e a) =
      token.Word (codes "each") ∷ token.Word x ∷ token.Word (codes "in") ∷ bracketed (expr_tokens e) ++ braced (block_tokens a)
  command_tokens CommandTree.abort = token.Word (codes "abort") ∷ []

  -- commands one after another
  pub block_tokens : Block → Tokens
  block_tokens Block.none = []
  block_tokens (Block.then c cs) = command_tokens c ++ block_tokens cs

-- `txn { .. }`
abbrev pub txn_tokens : List CommandTree → Tokens
txn_tokens commands = token.Word (codes "txn") ∷ braced (block_tokens (block commands))

abbrev pub script_tokens : List (List CommandTree) → Tokens
script_tokens txns = flat_map txn_tokens txns

-- no name of the description is a kept word
abbrev pub spec_names : WrittenTree → Bool
spec_names (WrittenTree.focus e s) = has_names e && spec_names s
spec_names (WrittenTree.pair x a b) = is_name x && (spec_names a && spec_names b)
spec_names (WrittenTree.comp s x e) = spec_names s && (is_name x && has_names e)
spec_names (WrittenTree.opt s) = spec_names s
spec_names (WrittenTree.pred e) = has_names e
spec_names (WrittenTree.call f args) = is_name f && list_all has_names args
spec_names _ = true

abbrev pub param_names : List ℕ × ShapeTree → Bool
param_names p = is_name p.0

abbrev pub def_names : DefTree → Bool
def_names d = is_name d.name && (list_all param_names d.params && spec_names d.body)

abbrev pub text_names : TextTree → Bool
text_names t = list_all def_names t.defs && spec_names t.root

abbrev pub act_names : ActTree → Bool
act_names (ActTree.to e) = has_names e
act_names (ActTree.store e) = has_names e
act_names _ = true

-- the same of a command, and of a block
abbrev mutual
  pub command_names : CommandTree → Bool
  command_names (CommandTree.act a) = act_names a
  command_names (CommandTree.attempt x a) = is_name x && act_names a
  command_names (CommandTree.bind x e) = is_name x && has_names e
  command_names (CommandTree.assign x e) = is_name x && has_names e
  command_names (CommandTree.fetch x s) = is_name x
  command_names (CommandTree.whole x s) = is_name x
  command_names (CommandTree.validate x) = is_name x
  command_names (CommandTree.print e) = has_names e
  command_names (CommandTree.branch e a b) = has_names e && (block_names a && block_names b)
  command_names (CommandTree.each x e a) = is_name x && (has_names e && block_names a)
  command_names CommandTree.abort = true

  pub block_names : Block → Bool
  block_names Block.none = true
  block_names (Block.then c cs) = command_names c && block_names cs

abbrev pub txn_names : List CommandTree → Bool
txn_names commands = block_names (block commands)

abbrev pub script_names : List (List CommandTree) → Bool
script_names txns = list_all txn_names txns
