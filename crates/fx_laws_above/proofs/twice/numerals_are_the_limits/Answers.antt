use Rattle.fx_laws_above.proofs.Agreeing.{numerals_are_limits}
use Rattle.fx_laws_above.proofs.twice.numerals_are_the_limits.Goals as goal

pub returns : goal.returns
returns c = numerals_are_limits
