use Rattle.fx_machine.proofs.Settling.{settles_to_next}
use Rattle.fx_machine.proofs.laws.a_settle_leads_to_the_next_state.Goals as goal

pub returns : goal.returns
returns c = settles_to_next
