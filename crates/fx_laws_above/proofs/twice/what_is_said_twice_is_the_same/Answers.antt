use Rattle.fx_laws_above.proofs.Agreeing.{said_twice}
use Rattle.fx_laws_above.proofs.twice.what_is_said_twice_is_the_same.Goals as goal

pub returns : goal.returns
returns c = said_twice
