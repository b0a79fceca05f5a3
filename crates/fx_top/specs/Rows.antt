-- What each status of a command says: where it comes, and what is then left at the host, at the sink and on the disk.
use Rattle.std.specs.Prelude.{◌≡◌, ◌⊎◌, ◌≤◌, true, [], length, IfSome, IsSomeAnd}
use Rattle.fx_base.specs.Causes.{Rose}
use Rattle.fx_outside.specs.Host.{HostView, Guard}
use Rattle.fx_outside.specs.Sink.{SinkView}
use Rattle.fx_outside.specs.Tree.{Tree, is_file_at, bytes_at}
use Rattle.fx_words.specs.Job.{Job, Run, Show, Gen, Large, Audit, Journal, Recover, Views}
use Rattle.fx_commands.specs.Audits.Rows.{audit_query}
use Rattle.fx_commands.specs.declared.auditing.reading.TheConstants.{REPORT_LIMIT}
use Rattle.fx_command.specs.declared.status.Status.{Status}
use Rattle.fx_command.specs.declared.status.Status.TheVariants as status
use Rattle.fx_durable.specs.Disk.{DiskView}
use Rattle.fx_large_commands.specs.GenRows.{gen_making}
use Rattle.fx_run_commands.specs.Journals.Rows.{JournalRow, KeepsJournal}
use Rattle.fx_large_commands.specs.LargeRows.{large_making}
use Rattle.fx_command.specs.Out.{IsProperOut, LetsOut}
use Rattle.fx_command.specs.Query.{QueryRow}
use Rattle.fx_command.specs.Table.{CommandRow, making_only}
use Rattle.fx_commands.specs.Recoveries.Rows.{RecoverRow, HasJournal}
use Rattle.fx_inputs.specs.Inputs.{HasInputs}
use Rattle.fx_inputs.specs.Reads.{LetsInputs, LetsRun, IsProperRun}
use Rattle.fx_inputs.specs.Views.{HasViewsInputs}
use Rattle.fx_run_commands.specs.Runs.Rows.{run_command}
use Rattle.fx_commands.specs.Shows.Rows.{show_query}
use Rattle.fx_views_command.specs.Rows.{views_command}

-- the table, by the command
abbrev pub Row : Job → HostView → HostView → SinkView → SinkView → DiskView → DiskView → Status → Type 0
Row (Run j) host host' sink sink' disk disk' st = CommandRow (run_command j) host host' sink sink' st
Row (Show inputs) host host' sink sink' disk disk' st = QueryRow (show_query inputs) host host' sink sink' st
Row (Gen j) host host' sink sink' disk disk' st = CommandRow (making_only (gen_making j.number j.out)) host host' sink sink' st
Row (Large j) host host' sink sink' disk disk' st = CommandRow (making_only (large_making j.number j.out)) host host' sink sink' st
Row (Audit j) host host' sink sink' disk disk' st = QueryRow (audit_query j) host host' sink sink' st
Row (Journal j) host host' sink sink' disk disk' st = JournalRow j host host' sink sink' disk disk' st
Row (Recover j) host host' sink sink' disk disk' st = RecoverRow j host host' sink sink' disk disk' st
Row (Views j) host host' sink sink' disk disk' st = CommandRow (views_command j) host host' sink sink' st

-- a command that neither keeps nor reads a journal leaves the disk as it was
abbrev pub LeavesDisk : Job → DiskView → DiskView → Type 0
LeavesDisk (Journal j) disk disk' = Unit {0}
LeavesDisk (Recover j) disk disk' = Unit {0}
LeavesDisk _ disk disk' = disk' ≡ disk

-- a command that keeps a journal leaves on the disk the order of what it wrote, however it ends
abbrev pub KeepsWrittenOrder : Job → HostView → SinkView → SinkView → DiskView → DiskView → Type 0
KeepsWrittenOrder (Journal j) host sink sink' disk disk' = KeepsJournal j host sink sink' disk disk'
KeepsWrittenOrder _ host sink sink' disk disk' = Unit {0}

-- the fences let the command's texts, its FOLDER and its OUT be asked for, and its OUT be written
abbrev pub LetsWords : Guard → Job → Type 0
LetsWords guard (Run j) = LetsRun guard j.inputs j.out
LetsWords guard (Show inputs) = LetsInputs guard.may_read inputs
LetsWords guard (Gen j) = LetsOut guard j.out
LetsWords guard (Large j) = LetsOut guard j.out
LetsWords guard (Audit j) = LetsInputs guard.may_read j.inputs × (guard.may_read j.report ≡ true)
LetsWords guard (Journal j) = LetsRun guard j.run.inputs j.run.out
LetsWords guard (Recover j) = LetsRun guard j.inputs j.out
LetsWords guard (Views j) = LetsRun guard j.inputs j.out × (guard.may_read j.views ≡ true)

-- a command asks nothing but at its texts, in its FOLDER and in its OUT, and writes nothing but in its OUT
abbrev pub AsksInside : Job → HostView → HostView → Type 0
AsksInside j host host' = LetsWords host.guard j → host'.guard ≡ host.guard

-- A host, and a disk where the command asks it, at which nothing keeps the command from being done. A report is within its limit.
-- A journal to be kept is empty, and one to be read spells a legal order.
abbrev pub IsProper : Tree → DiskView → Job → Type 0
IsProper t disk (Run j) = IsProperRun t j.inputs j.out
IsProper t disk (Show inputs) = HasInputs t inputs
IsProper t disk (Gen j) = IsProperOut t j.out
IsProper t disk (Large j) = IsProperOut t j.out
IsProper t disk (Audit j) = HasInputs t j.inputs × (is_file_at t j.report ≡ true) × (length (bytes_at t j.report) ≤ REPORT_LIMIT)
IsProper t disk (Journal j) = IsProperRun t j.run.inputs j.run.out × IsSomeAnd disk.told (λ file. (file.path ≡ j.journal) × (file.seen ≡ []))
IsProper t disk (Recover j) = IsProperRun t j.inputs j.out × HasJournal t j disk
IsProper t disk (Views j) = HasViewsInputs t j × IsProperOut t j.out

-- with fit inputs and no fault of the host, the sink or the disk all is done, or memory runs out
abbrev pub Completes : Job → HostView → HostView → SinkView → SinkView → DiskView → DiskView → Status → Type 0
Completes j host host' sink sink' disk disk' st =
    IfSome host.told (λ t. IsProper t disk j → (Rose host.faults host'.faults → ⊥) → (Rose sink.faults sink'.faults → ⊥) → (Rose disk.faults disk'.faults → ⊥) → (st ≡ status.Done) ⊎ (st ≡ status.NoMemory))
