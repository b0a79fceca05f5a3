-- The rows of the table of statuses, from what the stages ensure.
use Rattle.std.proofs.Common.{◌≡◌, ◌⊎◌, inl, inr, ℕ, List, ◌++◌, length, take, Option, Some, None, refl, sym, ◌∙◌, subst, arith}
use Rattle.std.specs.Prelude.{IfSome}
use Rattle.fx_base.specs.Causes.{Rose}
use Rattle.std.specs.FinMap.{get}
use Rattle.fx_store.specs.Whole.{Nodes, IsWhole}
use Rattle.fx_outside.specs.Host.{HostView, ReadsOnly, FaultIn}
use Rattle.fx_outside.specs.Path.{parts, is_fit}
use Rattle.fx_outside.specs.Sink.{SinkView}
use Rattle.fx_outside.specs.Tree.{Tree}
use Rattle.fx_outside.proofs.Views.{reads_none, fault_in_back, failed_in_back}
use Rattle.fx_folder.specs.declared.readying.Out.{Out}
use Rattle.fx_folder.specs.Folder.{IfTold, IsReady, IsTaken, IsSaved, IsPartlySaved, Saves, SavesPart, SaveCause, LacksFolder}
use Rattle.fx_folder.specs.declared.fault.SaveFault.TheVariants as save
use Rattle.fx_spec.specs.Order.{BaseTree, state}
use Rattle.fx_machine.specs.declared.retry.Retry.{Retry}
use Rattle.fx_machine.specs.Machine.{resting}
use Rattle.fx_board.specs.Board.{last_state}
use Rattle.fx_board.specs.Log.{Log}
use Rattle.fx_report.specs.Entries.{report}
use Rattle.fx_report.specs.Events.{lines}
use Rattle.fx_command.specs.declared.status.Status.{Status}
use Rattle.fx_command.specs.declared.status.Status.TheVariants as status
use Rattle.fx_command.specs.Saved.{Prints, SaveEnd, done, unmade, unsaved, unprinted}
use Rattle.fx_command.specs.Table.{IsMade, CannotSave}
use Rattle.fx_command.proofs.Told.{if_some_map, if_some_both, some_and, if_told_same, if_told_map, same, grows_all, cause_back, told_back, some_back, same_back}
use Rattle.fx_inputs.specs.Inputs.{HasInputs, HasBase}
use Rattle.fx_inputs.specs.Reads.{ReadRow}
use Rattle.fx_inputs.proofs.ReadRows.{inputs_steady}
use Rattle.fx_inputs.proofs.Stages.{has_inputs, has_inputs_told}
use Rattle.fx_command.specs.Out.{IsUnready}
use Rattle.fx_words.specs.Job.{RunJob, JournalJob, Scheduled, shells_of}
use Rattle.fx_report.specs.Traced.{IsTracedAs}
use Rattle.fx_run_commands.specs.Runs.Outcome.{IsPrintedAs}
use Rattle.fx_run_commands.specs.Runs.Rows.{run_making, run_command}
use Rattle.fx_durable.specs.Disk.{DiskView}
use Rattle.fx_journaling.specs.declared.fault.RecordFault.{RecordFault}
use Rattle.fx_journaling.specs.declared.fault.RecordFault.TheVariants as fault
use Rattle.fx_journaling.specs.Recorded.{HasRecorded, HasBrokenOff}
use Rattle.fx_journaling.specs.Taken.{HasGrown}
use Rattle.fx_journaling.proofs.Fronts.{written_is_front}
use Rattle.fx_journaling.proofs.Taking.{grown_as, grown_more}
use Rattle.fx_journaling.proofs.Ending.{not_disk}
use Rattle.fx_run_commands.specs.Journals.Rows.{HasWrittenAll, IsStoppedRun, IsStoppedAtDisk, IsLeft, IsLeftOrWhole, CannotLeave, CannotReach, CannotStart, HasEmptyJournal, IsUnbegun, HasBroken, JournalEnd}
use Rattle.fx_run_commands.specs.Journals.Stages.{StartCause, holds, fails, status_in, RecordCause}
use Rattle.fx_run_commands.proofs.Journals.Keeping.{nothing_more, front_of, bytes_of, report_of, grown_by}

-- what a run has left that is cut before its report
part_at_most : (j : RunJob) (sink sink' : SinkView) (told told' : Option Tree) → IfTold told told' (IsLeft j sink.written sink'.written) → IfTold told told' (IsLeftOrWhole j sink.written sink'.written)
part_at_most j sink sink' None told' left = left
part_at_most j sink sink' (Some t) None left = left
part_at_most j sink sink' (Some t) (Some t') left = inl left

-- ---- before the journal is started

-- the inputs are not read
pub inputs_unread : (j : JournalJob) (host host' : HostView) (sink : SinkView) (disk : DiskView) (st : Status) → ReadsOnly host host' → ReadRow j.run.inputs host host' st → JournalEnd j host host' sink sink disk disk st
inputs_unread j host host' sink disk status.Done reads row = absurd row
inputs_unread j host host' sink disk status.Usage reads row = absurd row
inputs_unread j host host' sink disk (status.TextRefused word cause) reads row = (refl, (same host host' sink reads, row))
inputs_unread j host host' sink disk (status.FolderRefused cause) reads row = (refl, (same host host' sink reads, row))
inputs_unread j host host' sink disk status.ReadFault reads row = (refl, (same host host' sink reads, row))
inputs_unread j host host' sink disk status.NotEmpty reads row = absurd row
inputs_unread j host host' sink disk status.WriteFault reads row = absurd row
inputs_unread j host host' sink disk status.NoMemory reads row = inl (same host host' sink reads, refl)
inputs_unread j host host' sink disk (status.BadJournal place) reads row = absurd row

-- OUT cannot be written
pub out_unready : (j : JournalJob) (host host' : HostView) (sink : SinkView) (disk : DiskView) (st : Status) → ReadsOnly host host' → IfSome host.told (λ t. HasInputs t j.run.inputs) → IsUnready j.run.out host host' st → JournalEnd j host host' sink sink disk disk st
out_unready j host host' sink disk status.Done reads inputs cause = absurd cause
out_unready j host host' sink disk status.Usage reads inputs cause = absurd cause
out_unready j host host' sink disk (status.TextRefused word why) reads inputs cause = absurd cause
out_unready j host host' sink disk (status.FolderRefused why) reads inputs cause = absurd cause
out_unready j host host' sink disk status.ReadFault reads inputs cause = absurd cause
out_unready j host host' sink disk status.NotEmpty reads inputs taken = (
  same host host' sink reads,
  refl,
  refl,
  if_some_both (λ t. HasInputs t j.run.inputs) (λ t. IsTaken t j.run.out) _ host.told (λ t has taken. (has, inl taken)) inputs taken,
)
out_unready j host host' sink disk status.WriteFault reads inputs failed =
    inl (record { inputs = inputs; cause = inl (failed, refl); same = same host host' sink reads })
out_unready j host host' sink disk status.NoMemory reads inputs cause = inl (same host host' sink reads, refl)
out_unready j host host' sink disk (status.BadJournal place) reads inputs cause = absurd cause

-- ---- a journal that is not started

pub not_started : (j : JournalJob) (base : BaseTree) (there : Out) (host : HostView) (sink : SinkView) (disk disk' : DiskView) (st : Status) → IfSome host.told (λ t. HasBase t j.run.inputs base) → IfSome host.told (λ t. IsReady t j.run.out there) → StartCause j.journal disk disk' st → JournalEnd j host host sink sink disk disk' st
not_started j base there host sink disk disk' st begins free (holds told calm bytes) = (
  same host host sink (reads_none host),
  told,
  calm,
  if_some_both (λ t. HasBase t j.run.inputs base) (λ t. IsReady t j.run.out there) _ host.told (λ t is free. (has_inputs t j.run.inputs base is, inr ((there, free), bytes))) begins free,
)
not_started j base there host sink disk disk' st begins free (fails cause) = inl (record {
  inputs = has_inputs_told j.run.inputs base host.told begins;
  cause = inr (cause, if_some_map (λ t. IsReady t j.run.out there) (λ t. (there : Out) × IsReady t j.run.out there) host.told (λ t free. (there, free)) free);
  same = same host host sink (reads_none host);
})

-- ---- a run that ends before its end

sink_there : fault.SinkFailed ≡ fault.DiskFailed → ⊥
sink_there is = cc

module _ (j : JournalJob) (base : BaseTree) (whole : IsWhole (get base.loaded)) (there : Out) (host : HostView) (sink sink' : SinkView) (disk mid disk' : DiskView) (begins : IfSome host.told (λ t. HasBase t j.run.inputs base)) (free : IfSome host.told (λ t. IsReady t j.run.out there)) (empty : HasEmptyJournal j disk) (calm : mid.faults ≡ disk.faults) where
  module _ (stop : RecordFault) (broken : HasBrokenOff base (shells_of j.run) mid disk' sink sink' stop) where
    abbrev stopped_at : (t : Tree) → HasBase t j.run.inputs base → IsReady t j.run.out there → IsStoppedRun t t j.run sink.written sink'.written
    stopped_at t is free = record {
      base = base;
      there = there;
      begins = is;
      free = free;
      machine = broken.machine;
      bytes = broken.bytes;
      events = broken.written;
      front = written_is_front base (shells_of j.run) broken.machine broken.bytes whole (inl broken.written);
      written = broken.printed;
      same = refl;
    }

    -- what is so of each tree at which the run has stopped
    each_stopped : (P : Tree → Tree → Type 0) → ((t : Tree) → HasBase t j.run.inputs base → IsReady t j.run.out there → P t t) → IfTold host.told host.told P
    each_stopped P at = if_told_same P host.told host.told refl (if_some_both (λ t. HasBase t j.run.inputs base) (λ t. IsReady t j.run.out there) (λ t. P t t) host.told (λ t is free. at t is free) begins free)

    stopped : IfTold host.told host.told (IsLeft j.run sink.written sink'.written)
    stopped = each_stopped (IsLeft j.run sink.written sink'.written) (λ t is free. inl (stopped_at t is free))

    left : IfTold host.told host.told (IsLeftOrWhole j.run sink.written sink'.written)
    left = part_at_most j.run sink sink' host.told host.told stopped

    at_disk : stop ≡ fault.DiskFailed → IfTold host.told host.told (λ t t'. IsStoppedAtDisk t t' j.run sink.written sink'.written)
    at_disk failed = each_stopped (λ t t'. IsStoppedAtDisk t t' j.run sink.written sink'.written) (λ t is free. record { stopped = stopped_at t is free; settled = broken.at_disk failed })

  broken_row : (stop : RecordFault) → HasBrokenOff base (shells_of j.run) mid disk' sink sink' stop → JournalEnd j host host sink sink' disk disk' (status_in stop)
  broken_row fault.NoMemory broken = inr (empty, broken.calm not_disk ∙ calm, stopped fault.NoMemory broken)
  broken_row fault.DiskFailed broken =
      let rose : Rose mid.faults disk'.faults = broken.cause in
      let all : Rose disk.faults disk'.faults = omega (arith, calm, rose) in
      inr (empty, inr (all, at_disk fault.DiskFailed broken refl))
  broken_row fault.SinkFailed broken = inr (empty, inl (broken.calm sink_there ∙ calm, inr broken.cause, left fault.SinkFailed broken))

  pub not_recorded : (st : Status) → RecordCause base (shells_of j.run) mid disk' sink sink' st → JournalEnd j host host sink sink' disk disk' st
  not_recorded st cause = subst (λ st. JournalEnd j host host sink sink' disk disk' st) (sym cause.is) (broken_row cause.stop cause.broken)

-- ---- a whole run

module _ (j : JournalJob) (base : BaseTree) (there : Out) (host host' : HostView) (sink mid sink' : SinkView) (disk started disk' : DiskView) (board : Log) (retries : List Retry) (scheduled : j.run.mode ≡ Scheduled (shells_of j.run)) (empty : HasEmptyJournal j disk) (calm : started.faults ≡ disk.faults) (begins : IfSome host.told (λ t. HasBase t j.run.inputs base)) (free : IfSome host.told (λ t. IsReady t j.run.out there)) (had : HasRecorded base (shells_of j.run) started disk' sink mid board retries) where
  abbrev pub text : List ℕ
  text = report board.base board.order retries

  abbrev pub nodes : Nodes
  nodes = last_state board

  abbrev bytes : ℕ → List ℕ
  bytes n = bytes_of base (shells_of j.run) started disk' sink mid board retries had n

  abbrev Begins : Tree → Type 0
  Begins t = HasBase t j.run.inputs base × IsReady t j.run.out there

  both : IfSome host.told Begins
  both = if_some_both (λ t. HasBase t j.run.inputs base) (λ t. IsReady t j.run.out there) Begins host.told (λ t is free. (is, free)) begins free

  last : nodes ≡ state base board.order (length board.order)
  last = λ i. state (had.traced.begun i) board.order (length board.order)

  all_written : (t : Tree) (n : ℕ) (IsAtOut : Nodes → Type 0) → Begins t → HasGrown (bytes n) sink sink' → IsAtOut nodes → HasWrittenAll t j.run n IsAtOut sink.written sink'.written
  all_written t n IsAtOut is grown left = record {
    base = base;
    nodes = nodes;
    there = there;
    begins = is.0;
    free = is.1;
    machine = resting base board.order;
    bytes = bytes n;
    report = report_of base (shells_of j.run) started disk' sink mid board retries had n;
    front = refl;
    last = last;
    left = left;
    written = grown;
  }

  grown_with : (n : ℕ) → HasGrown (take n text) mid sink' → HasGrown (bytes n) sink sink'
  grown_with n grown = grown_by base (shells_of j.run) started disk' sink mid board retries had n sink' grown

  -- OUT is not saved
  partly : SavesPart j.run.out nodes host host' → sink' ≡ mid → IfTold host.told host'.told (IsLeft j.run sink.written sink'.written)
  partly part none =
      let grown = grown_with 0 (nothing_more text mid sink' none) in
      if_told_map (λ t t'. IsPartlySaved t t' (parts j.run.out) nodes) (IsLeft j.run sink.written sink'.written) Begins host.told host'.told
      (λ t t' is part. inr (all_written t 0 (IsPartlySaved t t' (parts j.run.out)) is grown part)) both part

  no_folder : (t : Tree) → Begins t → LacksFolder t j.run.out there → CannotSave (run_command j.run) t
  no_folder t is lacks = (has_inputs t j.run.inputs base is.0, inr (subst (λ b. IsReady t j.run.out b) lacks.0 is.1, lacks.1))

  unsaved_cause : SaveCause j.run.out there host host' save.WriteFault → CannotLeave j.run host host'
  unsaved_cause (inl fault) = inl fault
  unsaved_cause (inr lacks) = inr (some_and Begins (λ t. LacksFolder t j.run.out there) (CannotSave (run_command j.run)) host.told no_folder both lacks)

  -- the report is not written whole
  whole : (n : ℕ) → Saves j.run.out nodes host host' → HasGrown (take n text) mid sink' → IfTold host.told host'.told (IsLeftOrWhole j.run sink.written sink'.written)
  whole n saved grown =
      if_told_map (λ t t'. IsSaved t t' (parts j.run.out) nodes) (IsLeftOrWhole j.run sink.written sink'.written) Begins host.told host'.told
      (λ t t' is saved. inr (n, all_written t n (IsSaved t t' (parts j.run.out)) is (grown_with n grown) saved)) both saved

  -- all is done
  abbrev output : List ℕ
  output = lines had.events ++ report base board.order retries

  traced : IsTracedAs base (shells_of j.run) board.order retries output
  traced = record { events = had.events; run = had.traced.run; turns = had.traced.turns; named = had.traced.named; conflicts = had.traced.conflicts; printed = refl }

  printed : IsPrintedAs j.run.mode base board.order retries output
  printed = subst (λ m. IsPrintedAs m base board.order retries output) (sym scheduled) traced

  text_as : text ≡ report base board.order retries
  text_as = λ i. report (had.traced.begun i) board.order retries

  all_grown : HasGrown text mid sink' → HasGrown output sink sink'
  all_grown grown = grown_more (lines had.events) (report base board.order retries) sink mid sink' had.printed (grown_as text (report base board.order retries) mid sink' text_as grown)

  abbrev Done : Tree → Tree → Type 0
  Done = IsMade (run_making j.run) (run_making j.run).stands (λ output. Prints output sink sink')

  is_done : (t t' : Tree) → HasGrown output sink sink' → Begins t → IsSaved t t' (parts j.run.out) nodes → Done t t'
  is_done t t' grown is saved = record {
    end = (nodes, output);
    there = there;
    comes = record { base = base; order = board.order; retries = retries; begins = is.0; complete = had.traced.complete; tried = had.traced.tried; printed = printed; last = last };
    free = is.1;
    left = saved;
    written = grown;
  }

  all_calm : disk'.faults ≡ disk.faults
  all_calm = had.calm ∙ calm

  pub finished : (st : Status) → SaveEnd j.run.out there nodes text host host' mid sink' st → JournalEnd j host host' sink sink' disk disk' st
  finished st (done saves grown) =
      let grows = all_grown grown in (
        empty,
        all_calm,
        (
          grows_all sink sink' output grows,
          if_told_map (λ t t'. IsSaved t t' (parts j.run.out) nodes) Done Begins host.told host'.told (λ t t' is saved. is_done t t' grows is saved) both saves,
        ),
      )
  finished st (unmade part none) = inr (empty, all_calm, partly part none)
  finished st (unsaved part cause none) = inr (empty, inl (all_calm, inl (unsaved_cause cause), part_at_most j.run sink sink' host.told host'.told (partly part none)))
  finished st (unprinted saves front rose) =
      let count = front_of text mid sink' front in
      let all : Rose sink.faults sink'.faults = omega (arith, had.later, rose) in
      inr (empty, inl (all_calm, inr all, whole count.0 saves count.1))

-- ---- a row from a later moment on is one from an earlier moment on, where only reads lie between

leave_back : (j : RunJob) (a b c : HostView) → ReadsOnly a b → CannotLeave j b c → CannotLeave j a c
leave_back j a b c reads cannot = cause_back (FaultIn j.out) (CannotSave (run_command j)) a b c reads (fault_in_back j.out a b c reads.later) cannot

unbegun_back : (j : JournalJob) (a b c : HostView) (sink sink' : SinkView) (disk disk' : DiskView) → ReadsOnly a b → IsUnbegun j b c sink sink' disk disk' → IsUnbegun j a c sink sink' disk disk'
unbegun_back j a b c sink sink' disk disk' reads is = record {
  inputs = some_back (λ t. HasInputs t j.run.inputs) a b reads is.inputs;
  cause = back is.cause;
  same = same_back a b c sink sink' reads is.same;
}
  where
    back : (CannotReach j.run b c × (disk' ≡ disk)) ⊎ CannotStart j b disk disk' → (CannotReach j.run a c × (disk' ≡ disk)) ⊎ CannotStart j a disk disk'
    back (inl (cannot, same)) = inl (failed_in_back j.run.out (λ _. is_fit j.run.out) a b c reads cannot, same)
    back (inr (fault, free)) = inr (fault, some_back (λ t. (there : Out) × IsReady t j.run.out there) a b reads free)

broken_back : (j : RunJob) (a b c : HostView) (sink sink' : SinkView) (disk disk' : DiskView) → ReadsOnly a b → HasBroken j b c sink sink' disk disk' → HasBroken j a c sink sink' disk disk'
broken_back j a b c sink sink' disk disk' reads (inl (calm, why, left)) = inl (calm, cause why, told_back _ a b c reads left)
  where
    cause : CannotLeave j b c ⊎ Rose sink.faults sink'.faults → CannotLeave j a c ⊎ Rose sink.faults sink'.faults
    cause (inl cannot) = inl (leave_back j a b c reads cannot)
    cause (inr rose) = inr rose
broken_back j a b c sink sink' disk disk' reads (inr (rose, left)) = inr (rose, told_back _ a b c reads left)

pub end_back : (j : JournalJob) (a b c : HostView) (sink sink' : SinkView) (disk disk' : DiskView) (st : Status) → ReadsOnly a b → JournalEnd j b c sink sink' disk disk' st → JournalEnd j a c sink sink' disk disk' st
end_back j a b c sink sink' disk disk' status.Done reads row = (row.0, row.1, (row.2.0, told_back _ a b c reads row.2.1))
end_back j a b c sink sink' disk disk' status.Usage reads row = absurd row.1.1
end_back j a b c sink sink' disk disk' (status.TextRefused word cause) reads row = (row.0, (same_back a b c sink sink' reads row.1.0, inputs_steady j.run.inputs a b c (status.TextRefused word cause) reads row.1.1))
end_back j a b c sink sink' disk disk' (status.FolderRefused cause) reads row = (row.0, (same_back a b c sink sink' reads row.1.0, inputs_steady j.run.inputs a b c (status.FolderRefused cause) reads row.1.1))
end_back j a b c sink sink' disk disk' status.ReadFault reads row = (row.0, (same_back a b c sink sink' reads row.1.0, inputs_steady j.run.inputs a b c status.ReadFault reads row.1.1))
end_back j a b c sink sink' disk disk' status.NotEmpty reads row = (same_back a b c sink sink' reads row.0, row.1, row.2, some_back _ a b reads row.3)
end_back j a b c sink sink' disk disk' status.WriteFault reads (inl row) = inl (unbegun_back j a b c sink sink' disk disk' reads row)
end_back j a b c sink sink' disk disk' status.WriteFault reads (inr row) = inr (row.0, broken_back j.run a b c sink sink' disk disk' reads row.1)
end_back j a b c sink sink' disk disk' status.NoMemory reads (inl row) = inl (same_back a b c sink sink' reads row.0, row.1)
end_back j a b c sink sink' disk disk' status.NoMemory reads (inr row) = inr (row.0, row.1, told_back _ a b c reads row.2)
end_back j a b c sink sink' disk disk' (status.BadJournal place) reads row = absurd row.1.1
