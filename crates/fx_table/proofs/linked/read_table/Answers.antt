use Rattle.fx_table.proofs.Prelude.{refl, err_of}
use Rattle.fx_table.proofs.Reaching.{table_caused, table_made}
use Rattle.fx_table.proofs.linked.read_table.Goals as goal

pub returns-clause-read : goal.returns-clause-read
returns-clause-read c = table_made c.args.store.now.nodes c.args.text.now _ c.in_ok-lines.lines c.in_ok-changes_by.field-0 c.in_ok-lines.ensures.read c.in_ok-changes_by.ensures

pub returns-in_err-lines-clause-cause : goal.returns-in_err-lines-clause-cause
returns-in_err-lines-clause-cause c =
    rw (err_of c.from_residual.result c.in_err-lines.field-0.0 c.from_residual.ensures.1)
    (table_caused c.args.store.now.nodes c.args.text.now _ c.in_err-lines.field-0.0 refl refl c.in_err-lines.ensures.cause)
