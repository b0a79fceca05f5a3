-- A text without tokens is refused.
use Rattle.std.proofs.Common.{ℕ, ◌≤◌, List, length}
use Rattle.fx_base.specs.Limits.{source_limit}
use Rattle.fx_lex.specs.declared.token.LexFault.{LexFault}
use Rattle.fx_lex.specs.declared.token.Token.{Token}
use Rattle.fx_lex.specs.declared.token.LexFault.TheVariants as lexed
use Rattle.fx_lex.specs.Reading.{IsFaultOf}
use Rattle.fx_parse.specs.Faults.{of_lex}
use Rattle.fx_parse.specs.Readable.{Grammar}
use Rattle.fx_grammar.specs.Refused.{IsRefusedAs, IsRefused}

pub unlexed_as : {Tree : Type 0} (g : Grammar Tree) (read : List Token → List Token) (text : List ℕ) (fault : LexFault) → length text ≤ source_limit → IsFaultOf text fault → IsRefusedAs g read text (of_lex fault)
unlexed_as g read text (lexed.BadToken place) short bad = (short, bad)
unlexed_as g read text lexed.NoMemory short bad = tt

pub unlexed : {Tree : Type 0} (g : Grammar Tree) (text : List ℕ) (fault : LexFault) → length text ≤ source_limit → IsFaultOf text fault → IsRefused g text (of_lex fault)
unlexed g text fault short bad = unlexed_as g (λ ts. ts) text fault short bad
