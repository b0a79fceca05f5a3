use Rattle.fx_folder.proofs.Prelude.{table_name, path_below}
use Rattle.fx_folder.proofs.Gathering.{table_file, text_of_file}
use Rattle.fx_folder.proofs.Texts.{lets_table}
use Rattle.fx_folder.proofs.joining.read_text.Goals as goal

pub read_table_file-requires-clause-file : goal.read_table_file-requires-clause-file
read_table_file-requires-clause-file g c = table_file (g.H.Host.view c.args.host.now).told c.args.folder.now c.args.kind c.requires.folder c.requires.table c.in-File.is

pub returns-in-File-clause-answer : goal.returns-in-File-clause-answer
returns-in-File-clause-answer g c = text_of_file (g.H.Host.view c.args.host.now).told (path_below c.args.folder.now table_name) c.args.kind _ c.in-File.is c.read_table_file.ensures.answer

pub returns-in-File-clause-fit : goal.returns-in-File-clause-fit
returns-in-File-clause-fit g c = λ fit. c.read_table_file.ensures.fit (lets_table (g.H.Host.view c.args.host.now).guard.may_read c.args.folder.now fit)
