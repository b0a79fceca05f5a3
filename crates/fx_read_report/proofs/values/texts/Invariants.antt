use Rattle.fx_read_report.specs.Limits.{strict}
use Rattle.fx_read_report.specs.Values.{text_at}
use Rattle.fx_read_report.proofs.ValueLoops.{Going}
use Rattle.fx_read_report.proofs.values.texts.Given as goal

abbrev pub invariant-loop-i : goal.invariant-loop-i
invariant-loop-i l = Going (text_at strict) 125 l.most l.bytes l.i l.texts.items l.rest
