use Rattle.fx_laws.proofs.Standing.{directories_list_all, all_is_listed}
use Rattle.fx_laws.proofs.filestores.directories_list_what_stands.Goals as goal

pub returns-clause-all : goal.returns-clause-all
returns-clause-all c = directories_list_all

pub returns-clause-listed : goal.returns-clause-listed
returns-clause-listed c = all_is_listed
