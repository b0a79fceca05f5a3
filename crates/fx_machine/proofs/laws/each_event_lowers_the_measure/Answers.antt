use Rattle.fx_machine.proofs.Lowering.{looks_are_few, events_lower}
use Rattle.fx_machine.proofs.laws.each_event_lowers_the_measure.Goals as goal

pub returns : goal.returns
returns c = record { few = looks_are_few; lower = events_lower }
