-- With fit inputs and no fault of host, sink or disk a command is done, or memory runs out.
use Rattle.std.proofs.Common.{◌≡◌, inl, inr, Option, Some, None, IfSome, refl}
use Rattle.fx_base.specs.Causes.{Rose}
use Rattle.fx_outside.specs.Host.{HostView}
use Rattle.fx_outside.specs.Sink.{SinkView}
use Rattle.fx_outside.specs.Tree.{Tree}
use Rattle.fx_outside.proofs.Views.{reads_none}
use Rattle.fx_commands.proofs.Audits.Completing.{audit_completes}
use Rattle.fx_command.specs.declared.status.Status.{Status}
use Rattle.fx_command.specs.declared.status.Status.TheVariants as status
use Rattle.fx_command.proofs.Told.{if_some_map, same, some_unit}
use Rattle.fx_durable.specs.Disk.{DiskView}
use Rattle.fx_durable.proofs.Choices.{unasked}
use Rattle.fx_large_commands.specs.GenRows.{gen_making}
use Rattle.fx_run_commands.proofs.Journals.Completing.{journal_completes, journal_no_memory, Ends}
use Rattle.fx_run_commands.proofs.Journals.Keeping.{unbegun_keeps}
use Rattle.fx_large_commands.specs.LargeRows.{large_making}
use Rattle.fx_command.specs.Table.{making_only}
use Rattle.fx_command.proofs.Readings.{nothing_refused}
use Rattle.fx_command.proofs.Tables as tables
use Rattle.fx_commands.proofs.Recoveries.Completing.{recover_completes}
use Rattle.fx_commands.proofs.Recoveries.Ending as recovering
use Rattle.fx_run_commands.proofs.Runs.Completing.{run_completes}
use Rattle.fx_run_commands.proofs.Runs.Ending.{no_memory}
use Rattle.fx_commands.proofs.Shows.Completing.{show_completes}
use Rattle.fx_views_command.proofs.Completing.{views_completes}
use Rattle.fx_views_command.proofs.Ending as viewing
use Rattle.fx_top.specs.Rows.{AsksInside, Row, LeavesDisk, KeepsWrittenOrder, IsProper, Completes}
use Rattle.fx_words.specs.Job.{Job, Run, Show, Gen, Large, Audit, Journal, Recover, Views}

told : (j : Job) (t : Tree) (host host' : HostView) (sink sink' : SinkView) (disk disk' : DiskView) (st : Status) → host.told ≡ Some t → IsProper t disk j → (Rose host.faults host'.faults → ⊥) → (Rose sink.faults sink'.faults → ⊥) → (Rose disk.faults disk'.faults → ⊥) → Row j host host' sink sink' disk disk' st → Ends st
told (Run j) t host host' sink sink' disk disk' st is proper none quiet calm row = run_completes j t host host' sink sink' st is proper none quiet row
told (Show j) t host host' sink sink' disk disk' st is proper none quiet calm row = show_completes j t host host' sink sink' st is proper none quiet row
told (Gen j) t host host' sink sink' disk disk' st is proper none quiet calm row = tables.completes (making_only (gen_making j.number j.out)) t host host' sink sink' st is (nothing_refused host host') proper none quiet row
told (Large j) t host host' sink sink' disk disk' st is proper none quiet calm row = tables.completes (making_only (large_making j.number j.out)) t host host' sink sink' st is (nothing_refused host host') proper none quiet row
told (Audit j) t host host' sink sink' disk disk' st is proper none quiet calm row = audit_completes j t host host' is proper.0 proper.1 proper.2 none sink sink' st quiet row
told (Journal j) t host host' sink sink' disk disk' st is proper none quiet calm row = journal_completes j t host host' sink sink' disk disk' st is proper.0 proper.1 none quiet calm row
told (Recover j) t host host' sink sink' disk disk' st is proper none quiet calm row = recover_completes j t host host' disk disk' is proper.0 proper.1 none calm sink sink' st quiet row
told (Views j) t host host' sink sink' disk disk' st is proper none quiet calm row = views_completes j t host host' sink sink' st is proper.0 proper.1 none quiet row

pub completes : (j : Job) (host host' : HostView) (sink sink' : SinkView) (disk disk' : DiskView) (st : Status) → Row j host host' sink sink' disk disk' st → Completes j host host' sink sink' disk disk' st
completes j host host' sink sink' disk disk' st row = by host.told refl
  where
    by : (o : Option Tree) → host.told ≡ o → IfSome o (λ t. IsProper t disk j → (Rose host.faults host'.faults → ⊥) → (Rose sink.faults sink'.faults → ⊥) → (Rose disk.faults disk'.faults → ⊥) → Ends st)
    by None is = tt
    by (Some t) is = λ proper none quiet calm. told j t host host' sink sink' disk disk' st is proper none quiet calm row

-- ---- words that want of memory keeps from being read

pub unread_row : (j : Job) (host : HostView) (sink : SinkView) (disk : DiskView) → Row j host host sink sink disk disk status.NoMemory
unread_row (Run j) host sink disk = no_memory j host host (reads_none host) sink
unread_row (Show j) host sink disk = same host host sink (reads_none host)
unread_row (Gen j) host sink disk = tables.no_memory (making_only (gen_making j.number j.out)) host host (reads_none host) sink
unread_row (Large j) host sink disk = tables.no_memory (making_only (large_making j.number j.out)) host host (reads_none host) sink
unread_row (Audit j) host sink disk = same host host sink (reads_none host)
unread_row (Journal j) host sink disk = journal_no_memory j host sink disk
unread_row (Recover j) host sink disk = (refl, unasked j.journal disk, inl refl, recovering.no_memory j disk disk host host (reads_none host) sink)
unread_row (Views j) host sink disk = viewing.no_memory j host host (reads_none host) sink

pub unread_fit : (j : Job) (host : HostView) → AsksInside j host host
unread_fit j host = λ fit. refl

pub unread_disk : (j : Job) (disk : DiskView) → LeavesDisk j disk disk
unread_disk (Run j) disk = refl
unread_disk (Show j) disk = refl
unread_disk (Gen j) disk = refl
unread_disk (Large j) disk = refl
unread_disk (Audit j) disk = refl
unread_disk (Journal j) disk = tt
unread_disk (Recover j) disk = tt
unread_disk (Views j) disk = refl

pub unread_order : (j : Job) (host : HostView) (sink : SinkView) (disk : DiskView) → KeepsWrittenOrder j host sink sink disk disk
unread_order (Run j) host sink disk = tt
unread_order (Show j) host sink disk = tt
unread_order (Gen j) host sink disk = tt
unread_order (Large j) host sink disk = tt
unread_order (Audit j) host sink disk = tt
unread_order (Journal j) host sink disk = unbegun_keeps j host sink disk
unread_order (Recover j) host sink disk = tt
unread_order (Views j) host sink disk = tt

pub unread_completes : (j : Job) (host : HostView) (sink : SinkView) (disk : DiskView) → Completes j host host sink sink disk disk status.NoMemory
unread_completes j host sink disk = if_some_map (λ _. Unit {0}) _ host.told (λ t _ proper none quiet calm. inr refl) (some_unit host.told)

pub whatever : {A : Type 0} (P : A → Type 0) (o : Option A) → ((x : A) → P x) → IfSome o P
whatever P None each = tt
whatever P (Some x) each = each x
