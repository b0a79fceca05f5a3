use Rattle.fx_folder.proofs.Prelude.{sym, ◌∙◌, err_of}
use Rattle.fx_table.specs.Faults.{load_fault}
use Rattle.fx_folder.proofs.Reading.{file_fault}
use Rattle.fx_folder.proofs.loading.read_file.Goals as goal

pub returns-in_err-bytes-clause-fault : goal.returns-in_err-bytes-clause-fault
returns-in_err-bytes-clause-fault g c = λ failed.
    file_fault c.args.folder.now c.args.name.now c.in_ok-path.path (g.H.Host.view c.args.host.now) (g.H.Host.view c.read_whole.new.host) c.in_err-bytes.field-0.0 c.in_ok-path.ensures c.requires.file c.in_err-bytes.ensures.failed
    (sym (err_of c.from_residual-in_err-bytes.result (load_fault c.in_err-bytes.field-0.0) c.from_residual-in_err-bytes.ensures.1) ∙ failed)
