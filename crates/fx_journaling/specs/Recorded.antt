-- What a run whose commits a journal keeps has left on the disk and at the sink.
use Rattle.std.specs.Prelude.{◌≡◌, ◌⊎◌, ◌≤◌, ℕ, true, List, [], ◌∷◌, ◌++◌, IfSome}
use Rattle.fx_outside.specs.Sink.{SinkView}
use Rattle.fx_spec.specs.Plans.{Turn}
use Rattle.fx_spec.specs.Order.{BaseTree}
use Rattle.fx_machine.specs.declared.event.Event.{Event}
use Rattle.fx_machine.specs.declared.retry.Retry.{Retry}
use Rattle.fx_machine.specs.Machine.{Machine, Step, resting}
use Rattle.fx_machine.specs.Turns.{BeginsTurns}
use Rattle.fx_board.specs.Log.{Log}
use Rattle.fx_durable.specs.Disk.{File, DiskView, AsksChosen}
use Rattle.fx_durable.specs.Journal.{JournalView, RestsAt}
use Rattle.fx_report.specs.Events.{lines}
use Rattle.fx_sched.specs.Traced.{IsTraced}
use Rattle.fx_sched.specs.declared.taking.Ended.{Ended}
use Rattle.fx_sched.specs.declared.taking.Ended.TheVariants as ended
use Rattle.fx_journaling.specs.declared.fault.RecordFault.{RecordFault}
use Rattle.fx_journaling.specs.declared.fault.RecordFault.TheVariants as fault
use Rattle.fx_journaling.specs.declared.recording.Recorded.{Recorded}
use Rattle.fx_journaling.specs.Kept.{IfFile, KeepsOrder}
use Rattle.fx_journaling.specs.Taken.{HasGrown, FaultCause}
use Rattle.fx_journaling.specs.Written.{HasWrittenEvents, IsBeforeSettled}

-- the order is that of the state to which the event leads that comes next by the schedule's turns
pub record IsNextOrder (base : BaseTree) (schedule : List ℕ) (events : List Event) (m : Machine) (order : List Turn) : Type 0 where
  pub next : Event
  pub after : Machine
  pub step : Step base m next after
  pub turns : BeginsTurns base [] schedule (events ++ next ∷ [])
  pub is : order ≡ after.order

-- from the old moment on the journal in the file has kept the order of this state, to which these events have led, maybe with the
-- entry of the event that comes next
pub record KeepsRun (base : BaseTree) (schedule : List ℕ) (events : List Event) (m : Machine) (old new : File) : Type 0 where
  pub keeps : KeepsOrder base m.order old new
  pub next : (keeps.longer ≡ m.order) ⊎ IsNextOrder base schedule events m keeps.longer

-- a journal that was just started
pub record IsStarted (journal : JournalView) (disk : DiskView) : Type 0 where
  pub count : journal.count ≡ 0
  pub good : journal.good ≡ true
  pub rests : IfSome disk.told (RestsAt 0 [])

-- the run has come to its end, and the lines of all its events are written; the disk has not failed, no path was chosen, and
-- no call was early
pub record HasRecorded (base : BaseTree) (schedule : List ℕ) (disk disk' : DiskView) (sink sink' : SinkView) (board : Log) (retries : List Retry) : Type 0 where
  pub events : List Event
  pub traced : IsTraced base schedule (record { board = board; retries = retries; events = events })
  pub printed : HasGrown (lines events) sink sink'
  pub later : sink.faults ≤ sink'.faults
  pub calm : disk'.faults ≡ disk.faults
  pub others : disk'.others ≡ disk.others
  pub asks : AsksChosen disk disk'
  pub keeps : IfFile (KeepsRun base schedule events (resting base board.order)) disk.told disk'.told

-- the run has come to its end so
abbrev pub EndsRecorded : BaseTree → List ℕ → DiskView → DiskView → SinkView → SinkView → Recorded → Type 0
EndsRecorded base schedule disk disk' sink sink' run = HasRecorded base schedule disk disk' sink sink' run.board run.retries

-- The run has ended before, and the journal keeps the order of the settled lines that are written, maybe with the next entry. At a disk fault all events up
-- to the attempt that was settled are written, and no more; elsewhere the disk has not failed. No path was chosen, and no call was early.
pub record HasBrokenOff (base : BaseTree) (schedule : List ℕ) (disk disk' : DiskView) (sink sink' : SinkView) (stop : RecordFault) : Type 0 where
  pub machine : Machine
  pub bytes : List ℕ
  pub written : HasWrittenEvents base schedule machine bytes
  pub printed : HasGrown bytes sink sink'
  pub keeps : IfFile (KeepsRun base schedule written.events machine) disk.told disk'.told
  pub cause : FaultCause stop disk disk' sink sink'
  pub others : disk'.others ≡ disk.others
  pub asks : AsksChosen disk disk'
  pub calm : (stop ≡ fault.DiskFailed → ⊥) → disk'.faults ≡ disk.faults
  pub at_disk : stop ≡ fault.DiskFailed → IsBeforeSettled base schedule written.events machine written.rest

-- why a run has ended
abbrev pub fault_in : Ended RecordFault → RecordFault
fault_in ended.NoMemory = fault.NoMemory
fault_in (ended.Stopped stop) = stop
