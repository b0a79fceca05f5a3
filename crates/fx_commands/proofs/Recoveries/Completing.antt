-- With all that `recover` reads in order, and no fault of host, sink or disk, it is done, or memory runs out.
use Rattle.std.proofs.Common.{◌≡◌, ◌⊎◌, inl, inr, ℕ, subst, Some, IfSome, IsSomeAnd}
use Rattle.fx_base.specs.Causes.{Rose}
use Rattle.fx_outside.specs.Host.{HostView}
use Rattle.fx_outside.specs.Sink.{SinkView}
use Rattle.fx_outside.specs.Tree.{Tree}
use Rattle.fx_spec.specs.Order.{IsLegal}
use Rattle.fx_command.specs.declared.status.Status.{Status}
use Rattle.fx_command.specs.declared.status.Status.TheVariants as status
use Rattle.fx_command.proofs.Readings.{CannotBeRefused}
use Rattle.fx_command.proofs.Tables.{completes}
use Rattle.fx_inputs.specs.Reads.{IsProperRun}
use Rattle.fx_inputs.proofs.Readings.{inputs_all_read}
use Rattle.fx_words.specs.Job.{RecoverJob}
use Rattle.fx_durable.specs.Disk.{DiskView, TellsOther, FailsAt}
use Rattle.fx_commands.specs.Recoveries.Recovered.{IsBad}
use Rattle.fx_commands.specs.Recoveries.Rows.{journal_reading, recover_command, RecoverRow, HasJournal}
use Rattle.fx_commands.specs.Recoveries.Wrong.{GoesWrong}
use Rattle.fx_commands.proofs.Recoveries.Legal.{legal_images_are_good}

-- ---- a journal that spells a legal order

not_bad : (t : Tree) (j : RecoverJob) (disk : DiskView) (has : HasJournal t j disk) (place : ℕ) → IsBad t j disk place → ⊥
not_bad t j disk has place (base, begins, only, bad) =
    let wrong = subst (λ o. IfSome o (λ file. (file.path ≡ j.journal) × GoesWrong base file.seen place)) has.told bad in
    let legal = subst (λ b. IsLegal b has.order) (only has.base has.begins) has.legal in
    legal_images_are_good base has.order has.file.seen place (record { spells = has.spelled; legal = legal }) wrong.1

not_other : (t : Tree) (j : RecoverJob) (disk : DiskView) → HasJournal t j disk → TellsOther disk j.journal → ⊥
not_other t j disk has other = subst (λ o. IsSomeAnd o (λ file. file.path ≡ j.journal → ⊥)) has.told other has.path

-- ---- all together

module _ (j : RecoverJob) (t : Tree) (host host' : HostView) (disk disk' : DiskView) (is : host.told ≡ Some t) (proper : IsProperRun t j.inputs j.out) (journal : HasJournal t j disk) (none : Rose host.faults host'.faults → ⊥) (sound : Rose disk.faults disk'.faults → ⊥) where
  journal_read : (st : Status) → journal_reading j disk disk' host st → ⊥
  journal_read status.Done why = why
  journal_read status.Usage why = why
  journal_read (status.TextRefused word cause) why = why
  journal_read (status.FolderRefused cause) why = why
  journal_read status.ReadFault why = no_fault why.0
    where
      no_fault : FailsAt j.journal disk disk' → ⊥
      no_fault (inl rose) = sound rose
      no_fault (inr (other, _)) = not_other t j disk journal other
  journal_read status.NotEmpty why = why
  journal_read status.WriteFault why = why
  journal_read status.NoMemory why = why
  journal_read (status.BadJournal place) why = not_bad t j disk journal place (subst (λ o. IfSome o (λ t. IsBad t j disk place)) is why)

  all_read : CannotBeRefused (recover_command j disk disk').reads host host'
  all_read st (inl why) = inputs_all_read j.inputs t host host' is proper.inputs none st why
  all_read st (inr why) = journal_read st why

  pub recover_completes : (sink sink' : SinkView) (st : Status) → (Rose sink.faults sink'.faults → ⊥) → RecoverRow j host host' sink sink' disk disk' st → (st ≡ status.Done) ⊎ (st ≡ status.NoMemory)
  recover_completes sink sink' st quiet row = completes (recover_command j disk disk') t host host' sink sink' st is all_read proper.out none quiet row.3
