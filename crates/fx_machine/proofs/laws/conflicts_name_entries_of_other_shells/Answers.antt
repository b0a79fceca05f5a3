use Rattle.fx_machine.proofs.Others.{conflicts_are_others}
use Rattle.fx_machine.proofs.laws.conflicts_name_entries_of_other_shells.Goals as goal

pub returns : goal.returns
returns c = conflicts_are_others
