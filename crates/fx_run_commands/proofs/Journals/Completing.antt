-- With fit inputs, an empty journal and no fault of host, sink or disk `journal` is done, or memory runs out.
use Rattle.std.proofs.Common.{◌≡◌, ◌⊎◌, inl, inr, ℕ, false, ◌<◌, List, [], length, ap, subst, Option, Some, None, refl, arith}
use Rattle.std.specs.Prelude.{IfSome, IsSomeAnd}
use Rattle.fx_base.specs.Causes.{Rose}
use Rattle.fx_outside.specs.Path.{is_fit}
use Rattle.fx_outside.specs.Host.{HostView}
use Rattle.fx_outside.specs.Sink.{SinkView}
use Rattle.fx_outside.specs.Tree.{Tree}
use Rattle.fx_outside.proofs.Views.{reads_none}
use Rattle.fx_folder.specs.declared.readying.Out.{Out}
use Rattle.fx_folder.specs.Folder.{IsReady, IsTaken}
use Rattle.fx_command.specs.declared.status.Status.{Status}
use Rattle.fx_command.specs.declared.status.Status.TheVariants as status
use Rattle.fx_command.specs.Table.{CannotSave}
use Rattle.fx_command.proofs.Told.{same}
use Rattle.fx_command.proofs.Outs.{not_taken, can_write, not_unfit}
use Rattle.fx_inputs.specs.Inputs.{HasInputs}
use Rattle.fx_inputs.specs.Reads.{IsProperRun}
use Rattle.fx_inputs.proofs.Readings.{inputs_all_read}
use Rattle.fx_words.specs.Job.{JournalJob}
use Rattle.fx_run_commands.specs.Runs.Rows.{run_command}
use Rattle.fx_durable.specs.Disk.{File, DiskView}
use Rattle.fx_durable.proofs.Choices.{unasked}
use Rattle.fx_run_commands.specs.Journals.Rows.{JournalEnd, JournalRow, CannotLeave, CannotReach, CannotStart, HasBroken, HoldsBytes}

abbrev pub Ends : Status → Type 0
Ends st = (st ≡ status.Done) ⊎ (st ≡ status.NoMemory)

-- an empty journal at its path holds nothing, and is at no other
not_held : (path : List ℕ) (o : Option File) → IsSomeAnd o (λ file. (file.path ≡ path) × (file.seen ≡ [])) → IfSome o (λ file. 0 < length file.seen) → ⊥
not_held path None empty bytes = empty
not_held path (Some file) empty bytes = omega (arith, ap length empty.1, bytes)

not_other : (path : List ℕ) (o : Option File) → IsSomeAnd o (λ file. (file.path ≡ path) × (file.seen ≡ [])) → IsSomeAnd o (λ file. file.path ≡ path → ⊥) → ⊥
not_other path None empty other = other
not_other path (Some file) empty other = other empty.0

abbrev HasEmpty : JournalJob → DiskView → Type 0
HasEmpty j disk = IsSomeAnd disk.told (λ file. (file.path ≡ j.journal) × (file.seen ≡ []))

module _ (j : JournalJob) (t : Tree) (host host' : HostView) (sink sink' : SinkView) (disk disk' : DiskView) (is : host.told ≡ Some t) (proper : IsProperRun t j.run.inputs j.run.out) (empty : HasEmpty j disk) (none : Rose host.faults host'.faults → ⊥) (quiet : Rose sink.faults sink'.faults → ⊥) (calm : Rose disk.faults disk'.faults → ⊥) where
  not_left : CannotLeave j.run host host' → ⊥
  not_left (inl fault) = none fault.rose
  not_left (inr cannot) = can_write t j.run.out proper.out (subst (λ o. IsSomeAnd o (CannotSave (run_command j.run))) is cannot).1

  not_reached : CannotReach j.run host host' → ⊥
  not_reached (inl fault) = none fault.rose
  not_reached (inr unfit) = not_unfit t j.run.out proper.out (subst (λ o. IsSomeAnd o (λ _. is_fit j.run.out ≡ false)) is unfit)

  not_unbegun : (CannotReach j.run host host' × (disk' ≡ disk)) ⊎ CannotStart j host disk disk' → ⊥
  not_unbegun (inl (cannot, same)) = not_reached cannot
  not_unbegun (inr (inl rose, free)) = calm rose
  not_unbegun (inr (inr (other, stays), free)) = not_other j.journal disk.told empty other

  not_broken : HasBroken j.run host host' sink sink' disk disk' → ⊥
  not_broken (inl (stays, inl cannot, left)) = not_left cannot
  not_broken (inl (stays, inr rose, left)) = quiet rose
  not_broken (inr (rose, left)) = calm rose

  not_full : IsTaken t j.run.out ⊎ (((there : Out) × IsReady t j.run.out there) × HoldsBytes j.journal disk) → ⊥
  not_full (inl taken) = not_taken t j.run.out proper.out taken
  not_full (inr held) = not_held j.journal disk.told empty held.1.1

completes : (j : JournalJob) (t : Tree) (host host' : HostView) (sink sink' : SinkView) (disk disk' : DiskView) (st : Status) → host.told ≡ Some t → IsProperRun t j.run.inputs j.run.out → HasEmpty j disk → (Rose host.faults host'.faults → ⊥) → (Rose sink.faults sink'.faults → ⊥) → (Rose disk.faults disk'.faults → ⊥) → JournalEnd j host host' sink sink' disk disk' st → Ends st
completes j t host host' sink sink' disk disk' status.Done is proper empty none quiet calm row = inl refl
completes j t host host' sink sink' disk disk' status.Usage is proper empty none quiet calm row = absurd row.1.1
completes j t host host' sink sink' disk disk' (status.TextRefused word cause) is proper empty none quiet calm row = absurd (inputs_all_read j.run.inputs t host host' is proper.inputs none (status.TextRefused word cause) row.1.1)
completes j t host host' sink sink' disk disk' (status.FolderRefused cause) is proper empty none quiet calm row = absurd (inputs_all_read j.run.inputs t host host' is proper.inputs none (status.FolderRefused cause) row.1.1)
completes j t host host' sink sink' disk disk' status.ReadFault is proper empty none quiet calm row = absurd (inputs_all_read j.run.inputs t host host' is proper.inputs none status.ReadFault row.1.1)
completes j t host host' sink sink' disk disk' status.NotEmpty is proper empty none quiet calm row =
    absurd (not_full j t host host' sink sink' disk disk' is proper empty none quiet calm (subst (λ o. IfSome o (λ t. HasInputs t j.run.inputs × (IsTaken t j.run.out ⊎ (((there : Out) × IsReady t j.run.out there) × HoldsBytes j.journal disk)))) is row.3).1)
completes j t host host' sink sink' disk disk' status.WriteFault is proper empty none quiet calm (inl row) = absurd (not_unbegun j t host host' sink sink' disk disk' is proper empty none quiet calm row.cause)
completes j t host host' sink sink' disk disk' status.WriteFault is proper empty none quiet calm (inr row) = absurd (not_broken j t host host' sink sink' disk disk' is proper empty none quiet calm row.1)
completes j t host host' sink sink' disk disk' status.NoMemory is proper empty none quiet calm row = inr refl
completes j t host host' sink sink' disk disk' (status.BadJournal place) is proper empty none quiet calm row = absurd row.1.1

pub journal_completes : (j : JournalJob) (t : Tree) (host host' : HostView) (sink sink' : SinkView) (disk disk' : DiskView) (st : Status) → host.told ≡ Some t → IsProperRun t j.run.inputs j.run.out → HasEmpty j disk → (Rose host.faults host'.faults → ⊥) → (Rose sink.faults sink'.faults → ⊥) → (Rose disk.faults disk'.faults → ⊥) → JournalRow j host host' sink sink' disk disk' st → Ends st
journal_completes j t host host' sink sink' disk disk' st is proper empty none quiet calm row = completes j t host host' sink sink' disk disk' st is proper empty none quiet calm row.1

-- ---- words that want of memory keeps from being read

pub journal_no_memory : (j : JournalJob) (host : HostView) (sink : SinkView) (disk : DiskView) → JournalRow j host host sink sink disk disk status.NoMemory
journal_no_memory j host sink disk = (unasked j.journal disk, inl (same host host sink (reads_none host), refl))
