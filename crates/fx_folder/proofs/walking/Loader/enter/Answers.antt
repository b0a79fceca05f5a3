use Rattle.fx_folder.proofs.Prelude.{length, refl, on_ok_weaker, path_below, is_file_kind, is_folder_kind}
use Rattle.fx_folder.proofs.Growing.{file_found, folder_found}
use Rattle.fx_outside.specs.declared.kind.HostKind.TheVariants as kinds
use Rattle.fx_folder.proofs.Places.{passed_of, on_ok, kind_there, file_told, folder_result, entered_file, entered_folder, lets_text, text_is}
use Rattle.fx_folder.proofs.walking.Loader.enter.Goals as goal

pub enter_file-requires-clause-file : goal.enter_file-requires-clause-file
enter_file-requires-clause-file g c = kind_there is_file_kind (g.H.Host.view c.args.host.now).told c.args.folder.now c.in_ok-text.text c.in_ok-path.path c.args.item.now kinds.File c.requires.there (passed_of c.args.folder.now c.in_ok-text.text c.in_ok-path.path c.args.item.now c.in_ok-text.ensures c.in_ok-path.ensures.path.1 c.in_ok-path.ensures.names) c.in-File.is

pub returns-in-File-clause-answer : goal.returns-in-File-clause-answer
returns-in-File-clause-answer g c = file_told (g.H.Host.view c.args.host.now).told c.args.folder.now c.in_ok-text.text c.in_ok-path.path (length c.args.self.now.found.items) c.args.self.now.left c.args.item.now c.enter_file.result c.requires.there c.in_ok-path.ensures.path.0 (passed_of c.args.folder.now c.in_ok-text.text c.in_ok-path.path c.args.item.now c.in_ok-text.ensures c.in_ok-path.ensures.path.1 c.in_ok-path.ensures.names) c.in-File.is c.enter_file.ensures.answer

pub returns-in-File-clause-entered : goal.returns-in-File-clause-entered
returns-in-File-clause-entered g c = on_ok c.enter_file.result _ (entered_file (g.H.Host.view c.args.host.now).told (g.met.H.Host.whole c.args.host.now) c.args.folder.now c.args.item.now c.args.todo.now.items c.args.todo.now.items c.requires.there c.in-File.is refl)

pub returns-in-File-clause-fit : goal.returns-in-File-clause-fit
returns-in-File-clause-fit g c = λ fit. c.enter_file.ensures.fit (lets_text (g.H.Host.view c.args.host.now).guard.may_read c.args.folder.now c.in_ok-text.text c.in_ok-path.path c.in_ok-path.ensures.names (text_is c.in_ok-text.text c.in_ok-path.path _ c.in_ok-text.ensures c.in_ok-path.ensures.path.1) fit)

pub enter_folder-requires-clause-folder : goal.enter_folder-requires-clause-folder
enter_folder-requires-clause-folder g c = kind_there is_folder_kind (g.H.Host.view c.args.host.now).told c.args.folder.now c.in_ok-text.text c.in_ok-path.path c.args.item.now kinds.Folder c.requires.there (passed_of c.args.folder.now c.in_ok-text.text c.in_ok-path.path c.args.item.now c.in_ok-text.ensures c.in_ok-path.ensures.path.1 c.in_ok-path.ensures.names) c.in-Folder.is

pub returns-in-Folder-clause-answer : goal.returns-in-Folder-clause-answer
returns-in-Folder-clause-answer g c = folder_result (g.H.Host.view c.args.host.now).told (g.met.H.Host.whole c.args.host.now) c.args.folder.now c.in_ok-text.text c.in_ok-path.path (length c.args.self.now.found.items) c.args.self.now.left c.args.item.now c.enter_folder.result c.requires.there c.in_ok-path.ensures.path.0 (passed_of c.args.folder.now c.in_ok-text.text c.in_ok-path.path c.args.item.now c.in_ok-text.ensures c.in_ok-path.ensures.path.1 c.in_ok-path.ensures.names) c.in-Folder.is c.enter_folder.ensures.change c.enter_folder.ensures.cause

pub returns-in-Folder-clause-entered : goal.returns-in-Folder-clause-entered
returns-in-Folder-clause-entered g c = on_ok_weaker c.enter_folder.result (λ a. entered_folder (g.H.Host.view c.args.host.now).told (g.met.H.Host.whole c.args.host.now) c.args.folder.now c.in_ok-text.text c.in_ok-path.path c.args.item.now a.0 c.args.todo.now.items _ (passed_of c.args.folder.now c.in_ok-text.text c.in_ok-path.path c.args.item.now c.in_ok-text.ensures c.in_ok-path.ensures.path.1 c.in_ok-path.ensures.names) a.1 a.2) c.enter_folder.ensures.todo

pub returns-in-Folder-clause-fit : goal.returns-in-Folder-clause-fit
returns-in-Folder-clause-fit g c = λ fit. c.enter_folder.ensures.fit (lets_text (g.H.Host.view c.args.host.now).guard.may_read c.args.folder.now c.in_ok-text.text c.in_ok-path.path c.in_ok-path.ensures.names (text_is c.in_ok-text.text c.in_ok-path.path _ c.in_ok-text.ensures c.in_ok-path.ensures.path.1) fit)

pub returns-in-File-clause-found : goal.returns-in-File-clause-found
returns-in-File-clause-found g c = file_found c.args.item.now c.args.todo.now.items c.in_ok-path.path c.enter_file.result c.in_ok-path.ensures.names c.in_ok-path.ensures.path.1 c.enter_file.ensures.found

pub returns-in-Folder-clause-found : goal.returns-in-Folder-clause-found
returns-in-Folder-clause-found g c = folder_found (g.H.Host.view c.args.host.now).told (path_below c.args.folder.now c.in_ok-text.text) c.args.item.now c.args.todo.now.items c.enter_folder.new.todo.items c.in_ok-path.path c.enter_folder.result c.in_ok-path.ensures.names c.in_ok-path.ensures.path.1 c.enter_folder.ensures.change c.enter_folder.ensures.todo
