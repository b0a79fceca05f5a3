use Rattle.fx_zip.proofs.Worked.{walks_in_five}
use Rattle.fx_zip.proofs.laws.a_worked_walk.Goals as goal

pub returns : goal.returns
returns c = walks_in_five
