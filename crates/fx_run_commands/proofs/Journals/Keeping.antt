-- What the journal keeps, from what the stages ensure.
use Rattle.std.proofs.Common.{◌≡◌, ◌⊎◌, inl, inr, ℕ, List, [], ◌∷◌, ◌++◌, length, take, Option, Some, None, refl, sym, ap, subst, arith}
use Rattle.std.specs.Prelude.{IfSome}
use Rattle.std.proofs.lemmas.List.{take_all}
use Rattle.fx_base.proofs.Results.{IsSomeAnd-weaker}
use Rattle.fx_outside.specs.Host.{HostView, ReadsOnly}
use Rattle.fx_outside.specs.Sink.{SinkView}
use Rattle.fx_spec.specs.Order.{BaseTree}
use Rattle.fx_machine.specs.declared.retry.Retry.{Retry}
use Rattle.fx_machine.specs.Machine.{Machine, resting}
use Rattle.fx_machine.specs.Tried.{retries_of}
use Rattle.fx_machine.specs.Turns.{stops}
use Rattle.fx_store.specs.Whole.{Nodes}
use Rattle.fx_board.specs.Board.{last_state}
use Rattle.fx_board.specs.Log.{Log}
use Rattle.fx_folder.specs.declared.readying.Out.{Out}
use Rattle.fx_report.specs.Entries.{report}
use Rattle.fx_report.specs.Events.{lines}
use Rattle.fx_command.specs.declared.status.Status.{Status}
use Rattle.fx_command.specs.declared.status.Status.TheVariants as status
use Rattle.fx_command.proofs.Told.{some_back}
use Rattle.fx_inputs.specs.Inputs.{HasBase}
use Rattle.fx_words.specs.Job.{JournalJob, shells_of}
use Rattle.fx_durable.specs.Disk.{Step, wrote, File, DiskView, MayLeave, GoesOn, IsSameFile, HasFront, IsUnstarted, StaysTold, StaysUnstarted, Continues, moment}
use Rattle.fx_durable.specs.Journal.{JournalView}
use Rattle.fx_durable.proofs.Moments.{goes_over, stays}
use Rattle.fx_sched.specs.World as World
use Rattle.fx_diaries.proofs.Named.{names_none}
use Rattle.fx_journaling.specs.declared.fault.RecordFault.TheVariants as fault
use Rattle.fx_journaling.specs.Kept.{IfFile}
use Rattle.fx_journaling.specs.Recorded.{IsStarted, KeepsRun, HasRecorded}
use Rattle.fx_journaling.specs.Taken.{HasGrown}
use Rattle.fx_journaling.specs.Written.{HasWritten, events_written, HasWrittenReport}
use Rattle.fx_journaling.proofs.Ending.{begun, paused}
use Rattle.fx_journaling.proofs.Holding.{at_present, if_file_map}
use Rattle.fx_journaling.proofs.Taking.{grown_none, grown_as, grown_more, count_of}
use Rattle.fx_run_commands.specs.Journals.Rows.{HasEmptyJournal, KeepsJournal, HasNothing, IsKeptRun}
use Rattle.fx_command.specs.Saved.{SaveEnd, done, unmade, unsaved, unprinted}
use Rattle.fx_run_commands.specs.Journals.Stages.{MayLeaveGate, RecordCause}

-- ---- before the first byte

goes_none : (file : File) → GoesOn file file
goes_none file = record { path = refl; steps = ([], refl) }

told_untouched : (P : File → File → Type 0) → ((file : File) → P file file) → (o : Option File) → IfFile P o o
told_untouched P each None = refl
told_untouched P each (Some file) = each file

nothing_at : (j : JournalJob) (sink : SinkView) (old new : File) → IsUnstarted j.journal old new → HasNothing j sink sink old new
nothing_at j sink old new unstarted = record { unstarted = unstarted; unwritten = refl }

pub unbegun_keeps : (j : JournalJob) (host : HostView) (sink : SinkView) (disk : DiskView) → KeepsJournal j host sink sink disk disk
unbegun_keeps j host sink disk =
    told_untouched (λ old new. GoesOn old new × (HasNothing j sink sink old new ⊎ IsKeptRun j host sink sink old new)) (λ file. (goes_none file, inl (nothing_at j sink file file (record { path = refl; done = inl (record { seen = refl; steps = refl }) })))) disk.told

goes_unstarted : (path : List ℕ) (old new : File) → IsUnstarted path old new → GoesOn old new
goes_unstarted path old new unstarted = record { path = unstarted.path; steps = by unstarted.done }
  where
    by : IsSameFile old new ⊎ HasFront path old new → (later : List Step) × (new.steps ≡ later ++ old.steps)
    by (inl same) = ([], same.steps)
    by (inr begun) = (wrote 0 1 ∷ [], begun.steps)

told_unstarted : (path : List ℕ) (P : File → File → Type 0) → ((old new : File) → IsUnstarted path old new → P old new) → (o o' : Option File) → StaysUnstarted path o o' → IfFile P o o'
told_unstarted path P each None o' stays = stays
told_unstarted path P each (Some file) o' stays = IsSomeAnd-weaker o' (IsUnstarted path file) (P file) (each file) stays

pub unstarted_keeps : (j : JournalJob) (host : HostView) (sink : SinkView) (disk disk' : DiskView) → StaysUnstarted j.journal disk.told disk'.told → KeepsJournal j host sink sink disk disk'
unstarted_keeps j host sink disk disk' stays =
    told_unstarted j.journal (λ old new. GoesOn old new × (HasNothing j sink sink old new ⊎ IsKeptRun j host sink sink old new)) (λ old new unstarted. (goes_unstarted j.journal old new unstarted, inl (nothing_at j sink old new unstarted))) disk.told disk'.told stays

-- ---- once it was started

none_long : (bytes : List ℕ) → 0 ≡ length bytes → bytes ≡ []
none_long [] none = refl
none_long (x ∷ bytes) none = absurd (omega (arith, none))

module _ (j : JournalJob) (base : BaseTree) (host : HostView) (sink sink' : SinkView) (begins : IfSome host.told (λ t. HasBase t j.run.inputs base)) (machine : Machine) (bytes : List ℕ) (written : HasWritten base (shells_of j.run) machine bytes) (printed : HasGrown bytes sink sink') where
  abbrev pub Keeps : File → File → Type 0
  Keeps = KeepsRun base (shells_of j.run) (events_written base (shells_of j.run) machine bytes written) machine

  kept_at : (old started new : File) → (old.path ≡ j.journal) × (0 ≡ length old.seen) → GoesOn old started → MayLeave started.steps (0 ∷ []) → Keeps started new → IsKeptRun j host sink sink' old new
  kept_at old started new empty later gate keeps = record {
    base = base;
    begins = begins;
    at_path = empty.0;
    empty = none_long old.seen empty.1;
    started = started;
    later = later;
    gate = stays started new (moment started) (0 ∷ []) keeps.keeps.leaves.goes_on (omega arith) (at_present (moment started) started.steps (0 ∷ []) gate);
    machine = machine;
    bytes = bytes;
    written = written;
    printed = printed;
    keeps = keeps;
  }

  abbrev pub Kept : File → File → Type 0
  Kept old new = GoesOn old new × (HasNothing j sink sink' old new ⊎ IsKeptRun j host sink sink' old new)

  pub told_kept : (a b c : Option File) → IfSome a (λ file. (file.path ≡ j.journal) × (0 ≡ length file.seen)) → StaysTold a b → IfSome b (λ file. MayLeave file.steps (0 ∷ [])) → IfFile Keeps b c → IfFile Kept a c
  told_kept None b c empty told gate keeps = subst (λ o. IfFile Keeps o c) told keeps
  told_kept (Some old) None c empty told gate keeps = absurd told
  told_kept (Some old) (Some started) c empty told gate keeps =
      IsSomeAnd-weaker c (Keeps started) (Kept old) (λ new keeps. (goes_over old started new told keeps.keeps.leaves.goes_on, inr (kept_at old started new empty told gate keeps))) keeps

pub broken_keeps : (j : JournalJob) (base : BaseTree) (host : HostView) (sink sink' : SinkView) (disk mid disk' : DiskView) (st : Status) → IfSome host.told (λ t. HasBase t j.run.inputs base) → HasEmptyJournal j disk → Continues disk mid → MayLeaveGate mid → RecordCause base (shells_of j.run) mid disk' sink sink' st → KeepsJournal j host sink sink' disk disk'
broken_keeps j base host sink sink' disk mid disk' st begins empty continues gate cause =
    let broken = cause.broken in
    told_kept j base host sink sink' begins broken.machine broken.bytes (inl broken.written) broken.printed disk.told mid.told disk'.told empty continues gate broken.keeps

-- a run that has not begun, as its schedule was not read
pub unread : (base : BaseTree) (schedule : List ℕ) (disk : DiskView) (sink : SinkView) (journal : JournalView) → IsStarted journal disk → RecordCause base schedule disk disk sink sink status.NoMemory
unread base schedule disk sink journal started =
    record { stop = fault.NoMemory; is = refl; broken = paused base schedule disk disk sink sink 0 0 [] (World.began base) journal (begun base disk sink 0 0 journal started) stops (names_none base (resting base [])) }

-- ---- a whole run

none_taken : (text : List ℕ) → [] ≡ take 0 text
none_taken [] = refl
none_taken (x ∷ text) = refl

pub nothing_more : (text : List ℕ) (sink sink' : SinkView) → sink' ≡ sink → HasGrown (take 0 text) sink sink'
nothing_more text sink sink' same = subst (λ s. HasGrown (take 0 text) sink s) (sym same) (grown_as [] (take 0 text) sink sink (none_taken text) (grown_none sink))

pub front_of : (text : List ℕ) (sink sink' : SinkView) → IfSome sink.written (λ w. (n : ℕ) × (sink'.written ≡ Some (w ++ take n text))) → (n : ℕ) × HasGrown (take n text) sink sink'
front_of text sink sink' front = count_of sink.written (λ w n. sink'.written ≡ Some (w ++ take n text)) front

-- how much of the report is written
pub front_left : (out : List ℕ) (there : Out) (nodes : Nodes) (text : List ℕ) (host host' : HostView) (sink sink' : SinkView) (st : Status) → SaveEnd out there nodes text host host' sink sink' st → (n : ℕ) × HasGrown (take n text) sink sink'
front_left out there nodes text host host' sink sink' st (done saves grown) = (length text, grown_as text (take (length text) text) sink sink' (sym (take_all (length text) text (omega arith))) grown)
front_left out there nodes text host host' sink sink' st (unmade part same) = (0, nothing_more text sink sink' same)
front_left out there nodes text host host' sink sink' st (unsaved part cause same) = (0, nothing_more text sink sink' same)
front_left out there nodes text host host' sink sink' st (unprinted saves front rose) = front_of text sink sink' front

module _ (base : BaseTree) (schedule : List ℕ) (disk disk' : DiskView) (sink mid : SinkView) (board : Log) (retries : List Retry) (had : HasRecorded base schedule disk disk' sink mid board retries) where
  abbrev pub text : List ℕ
  text = report board.base board.order retries

  abbrev pub text_by_events : List ℕ
  text_by_events = report base board.order (retries_of base had.events)

  abbrev pub bytes_of : ℕ → List ℕ
  bytes_of n = lines had.events ++ take n text_by_events

  text_same : text ≡ text_by_events
  text_same = λ i. report (had.traced.begun i) board.order (had.traced.conflicts i)

  abbrev pub report_of : (n : ℕ) → HasWrittenReport base schedule (resting base board.order) (bytes_of n)
  report_of n = record { events = had.events; order = board.order; over = refl; run = had.traced.run; complete = had.traced.complete; turns = had.traced.turns; named = had.traced.named; count = n; printed = refl }

  pub grown_by : (n : ℕ) (sink' : SinkView) → HasGrown (take n text) mid sink' → HasGrown (bytes_of n) sink sink'
  grown_by n sink' grown = grown_more (lines had.events) (take n text_by_events) sink mid sink' had.printed (grown_as (take n text) (take n text_by_events) mid sink' (ap (λ l. take n l) text_same) grown)

pub finished_keeps : (j : JournalJob) (base : BaseTree) (there : Out) (host host' : HostView) (sink mid sink' : SinkView) (disk started disk' : DiskView) (board : Log) (retries : List Retry) (st : Status) → IfSome host.told (λ t. HasBase t j.run.inputs base) → HasEmptyJournal j disk → Continues disk started → MayLeaveGate started → HasRecorded base (shells_of j.run) started disk' sink mid board retries
    → SaveEnd j.run.out there (last_state board) (report board.base board.order retries) host host' mid sink' st → KeepsJournal j host sink sink' disk disk'
finished_keeps j base there host host' sink mid sink' disk started disk' board retries st begins empty continues gate had end =
    let front = front_left j.run.out there (last_state board) (report board.base board.order retries) host host' mid sink' st end in
    told_kept j base host sink sink' begins (resting base board.order) (bytes_of base (shells_of j.run) started disk' sink mid board retries had front.0) (inr (report_of base (shells_of j.run) started disk' sink mid board retries had front.0))
    (grown_by base (shells_of j.run) started disk' sink mid board retries had front.0 sink' front.1) disk.told started.told disk'.told empty continues gate had.keeps

-- ---- what is kept from a later moment on is kept from an earlier one on, where only reads lie between

pub keeps_back : (j : JournalJob) (a b : HostView) (sink sink' : SinkView) (disk disk' : DiskView) → ReadsOnly a b → KeepsJournal j b sink sink' disk disk' → KeepsJournal j a sink sink' disk disk'
keeps_back j a b sink sink' disk disk' reads keeps =
    if_file_map (λ old new. GoesOn old new × (HasNothing j sink sink' old new ⊎ IsKeptRun j b sink sink' old new)) (λ old new. GoesOn old new × (HasNothing j sink sink' old new ⊎ IsKeptRun j a sink sink' old new))
    (λ old new is. (is.0, back old new is.1)) disk.told disk'.told keeps
  where
    back : (old new : File) → HasNothing j sink sink' old new ⊎ IsKeptRun j b sink sink' old new → HasNothing j sink sink' old new ⊎ IsKeptRun j a sink sink' old new
    back old new (inl none) = inl none
    back old new (inr kept) = inr (record { base = kept.base; begins = some_back (λ t. HasBase t j.run.inputs kept.base) a b reads kept.begins; at_path = kept.at_path; empty = kept.empty; started = kept.started; later = kept.later; gate = kept.gate; machine = kept.machine; bytes = kept.bytes; written = kept.written; printed = kept.printed; keeps = kept.keeps })
