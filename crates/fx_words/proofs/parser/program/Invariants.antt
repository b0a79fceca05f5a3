use Rattle.std.proofs.Common.{◌≡◌, take}
use Rattle.clap.specs.Words.{app_of}
use Rattle.fx_words.specs.Parser.{with_commands}
use Rattle.fx_words.proofs.parser.program.Given as goal

abbrev pub invariant-loop-name : goal.invariant-loop-name
invariant-loop-name l = app_of l.program ≡ with_commands (take l.name-index l.name-items)
