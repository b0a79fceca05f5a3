use Rattle.fx_folder.proofs.Answering.{is_loaded, is_not_loaded}
use Rattle.fx_folder.proofs.loading.load.Goals as goal

pub returns-clause-loaded : goal.returns-clause-loaded
returns-clause-loaded g c = is_loaded _ c.args.folder.now _ c.load_folder.ensures.answer c.load_folder.ensures.missing

pub returns-clause-fault : goal.returns-clause-fault
returns-clause-fault g c = is_not_loaded (g.H.Host.view c.args.host.now) (g.H.Host.view c.load_folder.new.host) c.args.folder.now _ c.load_folder.ensures.answer c.load_folder.ensures.missing c.load_folder.ensures.fault
