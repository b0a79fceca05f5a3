-- What faults are printed as.
use Rattle.std.specs.Prelude.{ℕ, List, ◌++◌, codes}
use Rattle.std.specs.Fmt.{decimal}
use Rattle.fx_lex.specs.declared.token.LexFault.{LexFault}
use Rattle.fx_lex.specs.declared.token.LexFault.TheVariants.{BadToken, NoMemory}

abbrev pub fault_text : LexFault → List ℕ
fault_text (BadToken place) = codes "no token begins at byte " ++ decimal place
fault_text NoMemory = codes "out of memory"
