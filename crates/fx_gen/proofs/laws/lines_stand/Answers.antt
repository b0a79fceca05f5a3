use Rattle.fx_gen.proofs.Scripted.{lines_stand}
use Rattle.fx_gen.proofs.laws.lines_stand.Goals as goal

pub returns : goal.returns
returns c = lines_stand
