use Rattle.fx_gen.proofs.Scripted.{scripts_stand}
use Rattle.fx_gen.proofs.laws.scripts_stand.Goals as goal

pub returns : goal.returns
returns c = scripts_stand
