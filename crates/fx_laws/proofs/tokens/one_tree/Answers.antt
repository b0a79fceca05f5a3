use Rattle.fx_laws.proofs.Texted.{one_description, one_script}
use Rattle.fx_laws.proofs.tokens.one_tree.Goals as goal

pub returns-clause-description : goal.returns-clause-description
returns-clause-description c = one_description

pub returns-clause-script : goal.returns-clause-script
returns-clause-script c = one_script
