use Rattle.std.proofs.Common.{List, sym, subst, ◌∙◌}
use Rattle.fx_base.proofs.Errors.{err_of}
use Rattle.fx_machine.specs.declared.entry.Pair.{Pair}
use Rattle.fx_durable.specs.Journal.{ReadsOrder, HasJournalFault}
use Rattle.fx_durable.specs.declared.journal_fault.JournalFault.TheVariants as fault
use Rattle.fx_durable.proofs.Continuing.{not_opened}
use Rattle.fx_durable.proofs.Spelling.{reads_told, reads_chosen, reads_calm}
use Rattle.fx_durable.proofs.reading.read_journal.Goals as goal

pub returns-clause-reads : goal.returns-clause-reads
returns-clause-reads g c =
    reads_told (g.D.Disk.view c.args.disk.now) (g.D.Disk.view c.choose.new.self) c.in_ok-bytes.bytes.items c.read_pairs.result c.choose.ensures.same c.in_ok-bytes.ensures.read (subst (λ b. ReadsOrder b c.read_pairs.result) c.deref.ensures.value c.read_pairs.ensures.reads)

pub returns-clause-cause : goal.returns-clause-cause
returns-clause-cause g c =
    reads_chosen c.args.path.now c.in_ok-choose.field-0 (g.D.Disk.view c.args.disk.now) (g.D.Disk.view c.read_bytes.new.disk) c.read_pairs.result c.in_ok-choose.ensures.answer c.read_pairs.ensures.failed

pub returns-clause-calm : goal.returns-clause-calm
returns-clause-calm g c =
    reads_calm (g.D.Disk.view c.args.disk.now) (g.D.Disk.view c.read_bytes.new.disk) c.read_pairs.result (c.in_ok-bytes.ensures.calm ∙ c.in_ok-choose.ensures.cause.calm)

pub returns-in_err-choose-clause-cause : goal.returns-in_err-choose-clause-cause
returns-in_err-choose-clause-cause g c =
    let old = g.D.Disk.view c.args.disk.now in
    let new = g.D.Disk.view c.choose.new.self in
    subst (λ r. HasJournalFault {A = List Pair} c.args.path.now old new r) (sym (err_of c.from_residual.result fault.Failed c.from_residual.ensures.1)) (not_opened c.args.path.now old new c.in_err-choose.field-0.0 c.in_err-choose.ensures.cause)
