use Rattle.fx_gen.proofs.Described.{description_stands}
use Rattle.fx_gen.proofs.laws.description_stands.Goals as goal

pub returns : goal.returns
returns c = description_stands
