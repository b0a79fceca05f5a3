use Rattle.std.proofs.Common.{sym, ap, ◌∙◌}
use Rattle.fx_read_report.specs.Limits.{ascends}
use Rattle.fx_read_report.proofs.ValueLoops.{ascends_is}
use Rattle.fx_read_report.proofs.values.names_value.Goals as goal

pub from_ascending-requires : goal.from_ascending-requires
from_ascending-requires c = ascends_is c.in-Some-2.texts.items (ap ascends (sym c.deref.ensures.value) ∙ sym c.is_ascending.ensures ∙ c.if-not-is_ascending.false)
