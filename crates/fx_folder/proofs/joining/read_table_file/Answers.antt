use Rattle.fx_folder.proofs.Prelude.{sym, ◌∙◌, arith, err_of, table_name, path_below}
use Rattle.fx_table.specs.Faults.{load_fault}
use Rattle.fx_folder.proofs.Gathering.{text_read, text_large}
use Rattle.fx_folder.proofs.Reading.{file_fault}
use Rattle.fx_folder.proofs.joining.read_table_file.Goals as goal

pub returns-in_err-text-clause-fault : goal.returns-in_err-text-clause-fault
returns-in_err-text-clause-fault g c = λ failed.
    file_fault c.args.folder.now table_name c.in_ok-path.path (g.H.Host.view c.args.host.now) (g.H.Host.view c.read_whole.new.host) c.in_err-text.field-0.0 c.in_ok-path.ensures c.requires.file c.in_err-text.ensures.failed
    (sym (err_of c.from_residual-in_err-text.result (load_fault c.in_err-text.field-0.0) c.from_residual-in_err-text.ensures.1) ∙ failed)

pub returns-then-len-gt-MAX_TABLE-clause-answer : goal.returns-then-len-gt-MAX_TABLE-clause-answer
returns-then-len-gt-MAX_TABLE-clause-answer g c =
    rw c.in_ok-table_place.ensures
    (text_large (g.H.Host.view c.args.host.now).told (path_below c.args.folder.now table_name) c.in_ok-path.path c.in_ok-text.text.items c.in_ok-path.ensures (omega (arith, c.if-len-gt-MAX_TABLE.true)) c.in_ok-text.ensures.read)

pub returns-clause-answer : goal.returns-clause-answer
returns-clause-answer g c = text_read (g.H.Host.view c.args.host.now).told (path_below c.args.folder.now table_name) c.in_ok-path.path c.in_ok-text.text.items c.in_ok-path.ensures (omega (arith, c.if-len-gt-MAX_TABLE.false)) c.in_ok-text.ensures.read
