use Rattle.fx_laws.proofs.Scripted.{drops_subtree}
use Rattle.fx_laws.proofs.scripts.storing_other_names.Goals as goal

pub returns : goal.returns
returns c = drops_subtree
