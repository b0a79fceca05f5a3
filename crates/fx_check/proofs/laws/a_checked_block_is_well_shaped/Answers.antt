use Rattle.fx_check.proofs.Checking.{block_is, is_block}
use Rattle.fx_check.proofs.laws.a_checked_block_is_well_shaped.Goals as goal

pub returns : goal.returns
returns c = λ scope b. (λ h. block_is scope b h.0 h.1, is_block scope b)
