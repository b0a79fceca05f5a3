use Rattle.fx_laws.proofs.Serial.{settled_saw_the_state}
use Rattle.fx_laws.proofs.orders.a_settled_shell_saw_the_state.Goals as goal

pub returns : goal.returns
returns c = settled_saw_the_state
