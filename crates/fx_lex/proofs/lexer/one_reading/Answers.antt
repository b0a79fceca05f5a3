use Rattle.fx_lex.proofs.Unique.{tokens_unique, place_unique, tokens_exclude}
use Rattle.fx_lex.proofs.lexer.one_reading.Goals as goal

pub returns-clause-tokens : goal.returns-clause-tokens
returns-clause-tokens c = tokens_unique

pub returns-clause-place : goal.returns-clause-place
returns-clause-place c = place_unique

pub returns-clause-apart : goal.returns-clause-apart
returns-clause-apart c = tokens_exclude
