-- The grammars of descriptions, of transactions and of scripts.
use Rattle.std.specs.Prelude.{List}
use Rattle.fx_spec.specs.Written.{TextTree}
use Rattle.fx_spec.specs.CommandTree.{CommandTree}
use Rattle.fx_parse.specs.Readable.{Grammar}
use Rattle.fx_grammar.specs.Tokens.{text_tokens, text_names, txn_tokens, txn_names, script_tokens, script_names}
use Rattle.fx_grammar.specs.TokenLevels.{text_token_levels, txn_token_levels, script_token_levels}

abbrev pub descriptions : Grammar TextTree
descriptions = record { tokens = text_tokens; levels = text_token_levels; IsRight = text_names }

abbrev pub transactions : Grammar (List CommandTree)
transactions = record { tokens = txn_tokens; levels = txn_token_levels; IsRight = txn_names }

abbrev pub scripts : Grammar (List (List CommandTree))
scripts = record { tokens = script_tokens; levels = script_token_levels; IsRight = script_names }
