-- What each status of `journal` says: where it comes, and what is then left at the host, at the sink and on the disk.
use Rattle.std.specs.Prelude.{◌≡◌, ◌⊎◌, ◌<◌, ℕ, List, [], ◌∷◌, ◌++◌, length, Option, Some, IfSome, IsSomeAnd}
use Rattle.fx_base.specs.Causes.{Rose}
use Rattle.fx_store.specs.Whole.{Nodes}
use Rattle.fx_outside.specs.Host.{HostView, FaultIn, HasFailed}
use Rattle.fx_outside.specs.Path.{parts, is_fit}
use Rattle.fx_outside.specs.Sink.{SinkView}
use Rattle.fx_outside.specs.Tree.{Tree}
use Rattle.fx_folder.specs.declared.readying.Out.{Out}
use Rattle.fx_folder.specs.Folder.{IfTold, IsReady, IsTaken, IsSaved, IsPartlySaved}
use Rattle.fx_spec.specs.Order.{BaseTree, state}
use Rattle.fx_machine.specs.Machine.{Machine}
use Rattle.fx_words.specs.Job.{RunJob, JournalJob, shells_of}
use Rattle.fx_command.specs.declared.status.Status.{Status}
use Rattle.fx_command.specs.declared.status.Status.TheVariants as status
use Rattle.fx_command.specs.Left.{IsSame}
use Rattle.fx_command.specs.Table.{CannotSave, CommandRow}
use Rattle.fx_inputs.specs.Inputs.{HasInputs, HasBase}
use Rattle.fx_run_commands.specs.Runs.Rows.{run_command, RunAsks}
use Rattle.fx_durable.specs.Disk.{File, DiskView, LeftSince, GoesOn, IsUnstarted, IsAsTold, TellsLength, FailsAt, TellsAt, ChoosesFirst, moment}
use Rattle.fx_journaling.specs.Kept.{IfFile}
use Rattle.fx_journaling.specs.Recorded.{KeepsRun}
use Rattle.fx_journaling.specs.Written.{HasWritten, events_written, HasWrittenEvents, HasWrittenReport, IsBeforeSettled, IsFrontOfOutput}

-- some of a run's events are written, which is a front of the output of a whole run, and OUT is as before
pub record IsStoppedRun (t t' : Tree) (j : RunJob) (before after : Option (List ℕ)) : Type 0 where
  pub base : BaseTree
  pub there : Out
  pub begins : HasBase t j.inputs base
  pub free : IsReady t j.out there
  pub machine : Machine
  pub bytes : List ℕ
  pub events : HasWrittenEvents base (shells_of j) machine bytes
  pub front : IsFrontOfOutput base (shells_of j) bytes
  pub written : IfSome before (λ w. after ≡ Some (w ++ bytes))
  pub same : t' ≡ t

-- the same, and what is written ends before the line of an attempt that was settled
pub record IsStoppedAtDisk (t t' : Tree) (j : RunJob) (before after : Option (List ℕ)) : Type 0 where
  pub stopped : IsStoppedRun t t' j before after
  pub settled : IsBeforeSettled stopped.base (shells_of j) stopped.events.events stopped.machine stopped.events.rest

-- all events of a run are written, and a front of its report of this length; and so much of the last filestore's folder is at OUT
pub record HasWrittenAll (t : Tree) (j : RunJob) (report_length : ℕ) (IsAtOut : Nodes → Type 0) (before after : Option (List ℕ)) : Type 0 where
  pub base : BaseTree
  pub nodes : Nodes
  pub there : Out
  pub begins : HasBase t j.inputs base
  pub free : IsReady t j.out there
  pub machine : Machine
  pub bytes : List ℕ
  pub report : HasWrittenReport base (shells_of j) machine bytes
  pub front : report.count ≡ report_length
  pub last : nodes ≡ state base report.order (length report.order)
  pub left : IsAtOut nodes
  pub written : IfSome before (λ w. after ≡ Some (w ++ bytes))

-- what is left of a run that ends before a byte of its report is written: it was stopped, or OUT holds a part of the last
-- filestore's folder at most
abbrev pub IsLeft : RunJob → Option (List ℕ) → Option (List ℕ) → Tree → Tree → Type 0
IsLeft j before after t t' = IsStoppedRun t t' j before after ⊎ HasWrittenAll t j 0 (IsPartlySaved t t' (parts j.out)) before after

-- the same, or OUT is whole and a front of the report is written
abbrev pub IsLeftOrWhole : RunJob → Option (List ℕ) → Option (List ℕ) → Tree → Tree → Type 0
IsLeftOrWhole j before after t t' = IsLeft j before after t t' ⊎ ((count : ℕ) × HasWrittenAll t j count (IsSaved t t' (parts j.out)) before after)

-- a call at OUT failed, OUT is unfit, or nothing stands there and no folder above
abbrev pub CannotLeave : RunJob → HostView → HostView → Type 0
CannotLeave j host host' = FaultIn j.out host host' ⊎ IsSomeAnd host.told (CannotSave (run_command j))

-- the journal is not started, and OUT is free
abbrev pub CannotStart : JournalJob → HostView → DiskView → DiskView → Type 0
CannotStart j host disk disk' = FailsAt j.journal disk disk' × IfSome host.told (λ t. (there : Out) × IsReady t j.run.out there)

-- a call at OUT failed, or OUT is unfit
abbrev pub CannotReach : RunJob → HostView → HostView → Type 0
CannotReach j host host' = HasFailed (FaultIn j.out) (λ _. is_fit j.out) host host'

-- the inputs are read and no run was begun: OUT and the output are as before, and so is the disk if OUT cannot be reached
pub record IsUnbegun (j : JournalJob) (host host' : HostView) (sink sink' : SinkView) (disk disk' : DiskView) : Type 0 where
  pub inputs : IfSome host.told (λ t. HasInputs t j.run.inputs)
  pub cause : (CannotReach j.run host host' × (disk' ≡ disk)) ⊎ CannotStart j host disk disk'
  pub same : IsSame host host' sink sink'

-- the file that the disk tells is the journal's, and is empty
abbrev pub HasEmptyJournal : JournalJob → DiskView → Type 0
HasEmptyJournal j disk = TellsLength disk j.journal 0

-- OUT or the output is not written, and the disk has not failed; or it failed where an attempt was settled, and all before that
-- is written
abbrev pub HasBroken : RunJob → HostView → HostView → SinkView → SinkView → DiskView → DiskView → Type 0
HasBroken j host host' sink sink' disk disk' =
    ((disk'.faults ≡ disk.faults) × (CannotLeave j host host' ⊎ Rose sink.faults sink'.faults) × IfTold host.told host'.told (IsLeftOrWhole j sink.written sink'.written))
    ⊎ (Rose disk.faults disk'.faults × IfTold host.told host'.told (λ t t'. IsStoppedAtDisk t t' j sink.written sink'.written))

-- the file that the disk tells is at this path, and holds something already
abbrev pub HoldsBytes : List ℕ → DiskView → Type 0
HoldsBytes path disk = TellsAt disk path × IfSome disk.told (λ file. 0 < length file.seen)

-- How `journal` ends. OUT, the output or the journal is not written: no run was begun; or one was on an empty journal. Memory runs
-- out before a byte of the report is written: before the journal was begun, or after, on an empty one.
abbrev pub JournalEnd : JournalJob → HostView → HostView → SinkView → SinkView → DiskView → DiskView → Status → Type 0
JournalEnd j host host' sink sink' disk disk' status.Done = HasEmptyJournal j disk × (disk'.faults ≡ disk.faults) × CommandRow (run_command j.run) host host' sink sink' status.Done
JournalEnd j host host' sink sink' disk disk' status.NotEmpty =
    IsSame host host' sink sink' × IsAsTold disk disk' × (disk'.faults ≡ disk.faults) × IfSome host.told (λ t. HasInputs t j.run.inputs × (IsTaken t j.run.out ⊎ (((there : Out) × IsReady t j.run.out there) × HoldsBytes j.journal disk)))
JournalEnd j host host' sink sink' disk disk' status.WriteFault =
    IsUnbegun j host host' sink sink' disk disk' ⊎ (HasEmptyJournal j disk × HasBroken j.run host host' sink sink' disk disk')
JournalEnd j host host' sink sink' disk disk' status.NoMemory =
    (IsSame host host' sink sink' × (disk' ≡ disk)) ⊎ (HasEmptyJournal j disk × (disk'.faults ≡ disk.faults) × IfTold host.told host'.told (IsLeft j.run sink.written sink'.written))
JournalEnd j host host' sink sink' disk disk' st = (disk' ≡ disk) × CommandRow (run_command j.run) host host' sink sink' st

-- the table for `journal`: however it ends, a file is chosen before anything is asked of the disk, and no path but JOURNAL on a
-- disk whose told file is there
abbrev pub JournalRow : JournalJob → HostView → HostView → SinkView → SinkView → DiskView → DiskView → Status → Type 0
JournalRow j host host' sink sink' disk disk' st = ChoosesFirst j.journal disk disk' × JournalEnd j host host' sink sink' disk disk' st

-- The file was at JOURNAL and empty. The journal was started in it at a moment of this call, and from then on keeps the order of
-- the settled lines that were written, maybe with the entry of the event that comes next.
pub record IsKeptRun (j : JournalJob) (host : HostView) (sink sink' : SinkView) (old new : File) : Type 0 where
  pub base : BaseTree
  pub begins : IfSome host.told (λ t. HasBase t j.run.inputs base)
  pub at_path : old.path ≡ j.journal
  pub empty : old.seen ≡ []
  pub started : File
  pub later : GoesOn old started
  pub gate : LeftSince (moment started) new.steps (0 ∷ [])
  pub machine : Machine
  pub bytes : List ℕ
  pub written : HasWritten base (shells_of j.run) machine bytes
  pub printed : IfSome sink.written (λ w. sink'.written ≡ Some (w ++ bytes))
  pub keeps : KeepsRun base (shells_of j.run) (events_written base (shells_of j.run) machine bytes written) machine started new

-- the journal was not started, and nothing is written
pub record HasNothing (j : JournalJob) (sink sink' : SinkView) (old new : File) : Type 0 where
  pub unstarted : IsUnstarted j.journal old new
  pub unwritten : sink'.written ≡ sink.written

-- once it was started the journal keeps the order of what was written, whatever the status
abbrev pub KeepsJournal : JournalJob → HostView → SinkView → SinkView → DiskView → DiskView → Type 0
KeepsJournal j host sink sink' disk disk' =
    IfFile (λ old new. GoesOn old new × (HasNothing j sink sink' old new ⊎ IsKeptRun j host sink sink' old new)) disk.told disk'.told

-- nothing is asked of the host but at the texts, in the folder and in OUT
abbrev pub JournalAsks : JournalJob → HostView → HostView → Type 0
JournalAsks j host host' = RunAsks j.run host host'
