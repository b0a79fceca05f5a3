use Rattle.fx_large_commands.specs.Case.{case_in}
use Rattle.fx_large_commands.proofs.Writings.{IsWriting}
use Rattle.fx_large_commands.proofs.writing.write_texts.Given as goal

abbrev pub invariant-scripts : goal.invariant-scripts
invariant-scripts g l = IsWriting (g.H.Host.view l.fn.host) (g.H.Host.view l.host) l.folder (case_in l.case) l.number
