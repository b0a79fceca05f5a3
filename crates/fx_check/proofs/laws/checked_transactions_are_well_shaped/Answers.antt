use Rattle.fx_check.proofs.Checking.{txns_are, are_txns}
use Rattle.fx_check.proofs.laws.checked_transactions_are_well_shaped.Goals as goal

pub returns : goal.returns
returns c = λ txns. (λ h. (txns_are txns txns h).1, are_txns txns)
