-- How the stages of `journal` that reach the disk end.
use Rattle.std.specs.Prelude.{◌≡◌, ℕ, List, [], ◌∷◌, IfSome}
use Rattle.fx_outside.specs.Sink.{SinkView}
use Rattle.fx_spec.specs.Order.{BaseTree}
use Rattle.fx_command.specs.declared.status.Status.{Status}
use Rattle.fx_command.specs.declared.status.Status.TheVariants as status
use Rattle.fx_durable.specs.Disk.{DiskView, MayLeave, IsAsTold, FailsAt}
use Rattle.fx_journaling.specs.declared.fault.RecordFault.{RecordFault}
use Rattle.fx_journaling.specs.declared.fault.RecordFault.TheVariants as fault
use Rattle.fx_journaling.specs.declared.recording.Recorded.{Recorded}
use Rattle.fx_journaling.specs.Recorded.{HasBrokenOff}
use Rattle.fx_report.specs.Entries.{report}
use Rattle.fx_run_commands.specs.Journals.Rows.{HoldsBytes}

-- a crash now may leave one closed gate
abbrev pub MayLeaveGate : DiskView → Type 0
MayLeaveGate disk = IfSome disk.told (λ file. MayLeave file.steps (0 ∷ []))

-- the journal is not started: the file at the path holds something, or the disk failed, or tells a file at another path and has not failed
pub data StartCause (path : List ℕ) (disk disk' : DiskView) : Status → Type 0 where
  holds : IsAsTold disk disk' → disk'.faults ≡ disk.faults → HoldsBytes path disk → StartCause path disk disk' status.NotEmpty
  fails : FailsAt path disk disk' → StartCause path disk disk' status.WriteFault

abbrev pub status_in : RecordFault → Status
status_in fault.NoMemory = status.NoMemory
status_in fault.DiskFailed = status.WriteFault
status_in fault.SinkFailed = status.WriteFault

-- the run has ended before its end, or its schedule was not read
pub record RecordCause (base : BaseTree) (schedule : List ℕ) (disk disk' : DiskView) (sink sink' : SinkView) (st : Status) : Type 0 where
  pub stop : RecordFault
  pub is : st ≡ status_in stop
  pub broken : HasBrokenOff base schedule disk disk' sink sink' stop

-- the report of a run that has come to its end
abbrev pub run_report : Recorded → List ℕ
run_report run = report run.board.base run.board.order run.retries
