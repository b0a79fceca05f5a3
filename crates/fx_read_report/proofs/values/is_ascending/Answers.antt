use Rattle.std.proofs.Common.{sym, ◌∙◌}
use Rattle.fx_read_report.proofs.ValueLoops.{ascends_short}
use Rattle.fx_read_report.proofs.values.is_ascending.Goals as goal

pub returns : goal.returns
returns c = ascends_short c.rising.rest.now c.in_default.len_below ∙ sym c.rising.invariant
