use Rattle.fx_laws.proofs.Valid.{valid_is_valued}
use Rattle.fx_laws.proofs.values.what_is_valid_has_a_value.Goals as goal

pub returns : goal.returns
returns c = valid_is_valued
