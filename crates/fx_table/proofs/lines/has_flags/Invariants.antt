use Rattle.fx_table.proofs.Prelude.{◌≡◌, false, take, lines_in, has_flags}
use Rattle.fx_table.proofs.lines.has_flags.Given as goal

abbrev pub invariant-loop-line : goal.invariant-loop-line
invariant-loop-line l = has_flags (lines_in (take l.line-index l.lines)) ≡ false
