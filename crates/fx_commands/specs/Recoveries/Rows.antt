-- What each status of `recover` says: where it comes, and what is then left at the host, at the sink and at the disk.
use Rattle.std.specs.Prelude.{◌≡◌, ◌⊎◌, ℕ, List, Some, IfSome}
use Rattle.fx_store.specs.Whole.{Nodes}
use Rattle.fx_outside.specs.Host.{HostView}
use Rattle.fx_outside.specs.Sink.{SinkView}
use Rattle.fx_outside.specs.Tree.{Tree}
use Rattle.fx_words.specs.Job.{RecoverJob}
use Rattle.fx_command.specs.declared.status.Status.{Status}
use Rattle.fx_command.specs.declared.status.Status.TheVariants as status
use Rattle.fx_command.specs.Table.{Command, CommandRow, leaving_folder}
use Rattle.fx_inputs.specs.Inputs.{HasBase, HasInputs}
use Rattle.fx_inputs.specs.Reads.{LetsRun}
use Rattle.fx_inputs.specs.Readings.{inputs_reading}
use Rattle.fx_spec.specs.Plans.{Turn}
use Rattle.fx_spec.specs.Order.{BaseTree, IsLegal}
use Rattle.fx_durable.specs.Disk.{DiskView, File, IsAsTold, FailsAt, ChoosesFirst}
use Rattle.fx_durable.specs.Journal.{Spells}
use Rattle.fx_commands.specs.Recoveries.Recovered.{HasSomeOrder, IsRecoveryOutcome, IsBad}

-- a refusal of the journal, where all inputs are read: a fault of the disk, or none where it tells a file at another path; or a
-- bad record
abbrev pub journal_reading : RecoverJob → DiskView → DiskView → HostView → Status → Type 0
journal_reading j disk disk' host status.ReadFault = FailsAt j.journal disk disk' × IfSome host.told (λ t. HasInputs t j.inputs)
journal_reading j disk disk' host (status.BadJournal place) = IfSome host.told (λ t. IsBad t j disk place)
journal_reading j disk disk' host _ = ⊥

-- `recover` reads what a run does, and then the journal; it leaves the filestore after the journal's order at OUT, and prints the
-- order's length
abbrev pub recover_command : RecoverJob → DiskView → DiskView → Command (Nodes × List ℕ)
recover_command j disk disk' = record {
  reads = λ host host' st. inputs_reading j.inputs host host' st ⊎ journal_reading j disk disk' host st;
  all = λ t. HasSomeOrder t j disk;
  makes = leaving_folder j.out (λ t nodes output. IsRecoveryOutcome t j disk nodes output);
}

-- the count of the disk's faults is as before; but at a read fault and for want of memory
abbrev pub StaysCalm : DiskView → DiskView → Status → Type 0
StaysCalm disk disk' st = (disk'.faults ≡ disk.faults) ⊎ ((st ≡ status.ReadFault) ⊎ (st ≡ status.NoMemory))

-- how `recover` ends
abbrev pub RecoverEnd : RecoverJob → HostView → HostView → SinkView → SinkView → DiskView → DiskView → Status → Type 0
RecoverEnd j host host' sink sink' disk disk' = CommandRow (recover_command j disk disk') host host' sink sink'

-- the table for `recover`: however it ends, the file of the disk is as it was; a file is chosen before anything is asked of the
-- disk, and no path but JOURNAL on a disk whose told file is there
abbrev pub RecoverRow : RecoverJob → HostView → HostView → SinkView → SinkView → DiskView → DiskView → Status → Type 0
RecoverRow j host host' sink sink' disk disk' st = IsAsTold disk disk' × ChoosesFirst j.journal disk disk' × StaysCalm disk disk' st × RecoverEnd j host host' sink sink' disk disk' st

-- nothing is asked of the host but at the texts, in the folder and in OUT
abbrev pub RecoverAsks : RecoverJob → HostView → HostView → Type 0
RecoverAsks j host host' = LetsRun host.guard j.inputs j.out → host'.guard ≡ host.guard

-- the disk tells JOURNAL's path and a file that spells an order, which is legal of what the texts and the folder stand for
pub record HasJournal (t : Tree) (j : RecoverJob) (disk : DiskView) : Type 0 where
  pub file : File
  pub told : disk.told ≡ Some file
  pub path : file.path ≡ j.journal
  pub order : List Turn
  pub spelled : Spells order file.seen
  pub base : BaseTree
  pub begins : HasBase t j.inputs base
  pub legal : IsLegal base order
