use Rattle.fx_folder.proofs.Prelude.{sym, subst, ◌∙◌, parts, AreShaped}
use Rattle.fx_folder.proofs.Gathering.{lists_told, found_shaped, bare_told}
use Rattle.fx_folder.proofs.loading.find_all.Goals as goal

pub returns-in-None-clause-shaped : goal.returns-in-None-clause-shaped
returns-in-None-clause-shaped g c = subst AreShaped (sym c.all_of.ensures) (found_shaped c.in_ok-walked.walked.found.items c.in_ok-walked.ensures.found)

pub returns-in-None-clause-answer : goal.returns-in-None-clause-answer
returns-in-None-clause-answer g c = bare_told (g.H.Host.view c.args.host.now).told (parts c.args.folder.now) c.in_ok-walked.walked c.args.names.now c.all_of.result.items c.in_ok-walked.ensures.found (lists_told (g.H.Host.view c.args.host.now).told c.args.folder.now c.args.names.now c.requires.told) c.in_ok-walked.ensures.answer (sym c.in-None.is ∙ c.in_ok-table.ensures) c.all_of.ensures
