-- What faults are printed as, and what the fault of a text without tokens is told as.
use Rattle.std.specs.Prelude.{ℕ, List, ◌++◌, codes}
use Rattle.std.specs.Fmt.{decimal}
use Rattle.fx_lex.specs.declared.token.LexFault.{LexFault}
use Rattle.fx_lex.specs.declared.token.LexFault.TheVariants as lex
use Rattle.fx_parse.specs.declared.fault.ParseFault.{ParseFault}
use Rattle.fx_parse.specs.declared.fault.ParseFault.TheVariants.{TooLarge, BadToken, Unexpected, TooNested, NoMemory}

abbrev pub fault_text : ParseFault → List ℕ
fault_text TooLarge = codes "the text is too large"
fault_text (BadToken place) = codes "no token begins at byte " ++ decimal place
fault_text (Unexpected place) = codes "unexpected token at byte " ++ decimal place
fault_text (TooNested place) = codes "nested too deep at byte " ++ decimal place
fault_text NoMemory = codes "out of memory"

abbrev pub of_lex : LexFault → ParseFault
of_lex (lex.BadToken place) = BadToken place
of_lex lex.NoMemory = NoMemory
