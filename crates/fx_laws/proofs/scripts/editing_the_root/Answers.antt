use Rattle.fx_laws.proofs.Scripted.{refused_at_root}
use Rattle.fx_laws.proofs.scripts.editing_the_root.Goals as goal

pub returns : goal.returns
returns c = refused_at_root
