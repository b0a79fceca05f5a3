-- What has been taken of a run whose commits a journal keeps, event by event.
use Rattle.std.specs.Prelude.{◌≡◌, ◌⊎◌, ◌≤◌, ℕ, List, [], ◌∷◌, ◌++◌, take, None, Some, IfSome, Option}
use Rattle.std.specs.FinMap.{empty}
use Rattle.fx_base.specs.Causes.{Rose}
use Rattle.fx_outside.specs.Sink.{SinkView}
use Rattle.fx_spec.specs.Plans.{Turn}
use Rattle.fx_spec.specs.SpecTree.{file}
use Rattle.fx_spec.specs.Order.{BaseTree}
use Rattle.fx_machine.specs.declared.event.Event.{Event}
use Rattle.fx_machine.specs.declared.event.Event.TheVariants as event
use Rattle.fx_machine.specs.Machine.{Machine, Step, Run, resting}
use Rattle.fx_durable.specs.Disk.{DiskView, AsksChosen, unchosen}
use Rattle.fx_durable.specs.Journal.{JournalView}
use Rattle.fx_report.specs.Events.{event_line, lines}
use Rattle.fx_sched.specs.Running.{Running}
use Rattle.fx_journaling.specs.declared.fault.RecordFault.{RecordFault}
use Rattle.fx_journaling.specs.declared.fault.RecordFault.TheVariants as fault
use Rattle.fx_journaling.specs.Kept.{IfFile, HoldsOrder, LeavesEither, IsHeld, MayJoinOrder}

-- where a recording begins: the base of its run, and the disk and the sink, as they are then and by the names of their loans
pub record Beginning : Type 0 where
  pub base : BaseTree
  pub disk : DiskView
  pub sink : SinkView
  pub disk_name : ℕ
  pub sink_name : ℕ

abbrev pub beginning : BaseTree → DiskView → SinkView → ℕ → ℕ → Beginning
beginning base disk sink disk_name sink_name = record { base = base; disk = disk; sink = sink; disk_name = disk_name; sink_name = sink_name }

-- one that stands for none
abbrev pub no_beginning : Beginning
no_beginning = record {
  base = record { description = file; plan = []; loaded = empty };
  disk = record { told = None; faults = 0; others = 0; choice = unchosen };
  sink = record { written = None; faults = 0 };
  disk_name = 0;
  sink_name = 0;
}

-- the order after an event: with its entry, if it has one
abbrev pub Extends : BaseTree → List Turn → Option Turn → List Turn → Type 0
Extends base order None order' = order' ≡ order
Extends base order (Some turn) order' = (order' ≡ order ++ turn ∷ []) × MayJoinOrder base order turn

-- a sink that tells what was written to it has these bytes more
abbrev pub HasGrown : List ℕ → SinkView → SinkView → Type 0
HasGrown bytes old new = IfSome old.written (λ w. new.written ≡ Some (w ++ bytes))

-- what a fault comes of
abbrev pub FaultCause : RecordFault → DiskView → DiskView → SinkView → SinkView → Type 0
FaultCause fault.NoMemory disk disk' sink sink' = Unit {0}
FaultCause fault.DiskFailed disk disk' sink sink' = Rose disk.faults disk'.faults
FaultCause fault.SinkFailed disk disk' sink sink' = Rose sink.faults sink'.faults

-- the lines of these events are written, and the journal has the order to which they have led
pub record HasTaken (began : Beginning) (events : List Event) (running : Running) (journal : JournalView) (disk : DiskView) (sink : SinkView) : Type 0 where
  pub base : running.base ≡ began.base
  pub run : Run began.base (resting began.base []) events running.machine
  pub held : IsHeld began.base running.machine.order began.disk journal disk
  pub printed : HasGrown (lines events) began.sink sink
  pub later : began.sink.faults ≤ sink.faults

-- the event has settled an attempt
abbrev pub IsSettledEvent : Event → Type 0
IsSettledEvent e = (shell : ℕ) × (entry : ℕ) × (e ≡ event.Settled shell entry)

-- the disk failed, so that the entry of an attempt that was settled is not surely kept, and no byte of its line is written
pub record IsUnkept (began : Beginning) (stop : RecordFault) (e : Event) (order longer : List Turn) (count : ℕ) (disk : DiskView) : Type 0 where
  pub at_disk : stop ≡ fault.DiskFailed
  pub settled : IsSettledEvent e
  pub none : count ≡ 0
  pub leaves : IfFile (LeavesEither began.base order longer) began.disk.told disk.told

-- what ends the run is not the disk, which has kept the order and has not failed
pub record IsUntold (began : Beginning) (stop : RecordFault) (order : List Turn) (disk : DiskView) : Type 0 where
  pub not_at_disk : stop ≡ fault.DiskFailed → ⊥
  pub calm : disk.faults ≡ began.disk.faults
  pub holds : IfFile (HoldsOrder began.base order) began.disk.told disk.told

-- one event more has come, of whose line so many bytes are written: none, where its entry is not surely kept; no path was
-- chosen, and no call was early
pub record HasRefused (began : Beginning) (stop : RecordFault) (events : List Event) (event : Event) (running : Running) (disk : DiskView) (sink : SinkView) : Type 0 where
  pub before : Machine
  pub run : Run began.base (resting began.base []) events before
  pub step : Step began.base before event running.machine
  pub count : ℕ
  pub printed : HasGrown (lines events ++ take count (event_line event)) began.sink sink
  pub told : IsUnkept began stop event before.order running.machine.order count disk ⊎ IsUntold began stop running.machine.order disk
  pub others : disk.others ≡ began.disk.others
  pub asks : AsksChosen began.disk disk
  pub cause : FaultCause stop began.disk disk began.sink sink

-- what keeps a line from being written
abbrev pub TellCause : RecordFault → SinkView → SinkView → Type 0
TellCause fault.NoMemory sink sink' = Unit {0}
TellCause fault.DiskFailed sink sink' = ⊥
TellCause fault.SinkFailed sink sink' = Rose sink.faults sink'.faults
