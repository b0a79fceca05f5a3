-- What the program's own commands stand for.
use Rattle.std.specs.Prelude.{◌≡◌, ℕ, ◌+◌, ◌≤◌, ◌<◌, Bool, true, false, List, [], drop, length, Some, is_some, slice_get}
use Rattle.std.specs.Option.{option_map_or, unwrap_or}
use Rattle.fx_base.specs.Limits.{shell_limit}
use Rattle.fx_words.specs.declared.job.Job as every
use Rattle.fx_words.specs.declared.job.Job.TheVariants as any
use Rattle.fx_words.specs.declared.job.Inputs as code_inputs
use Rattle.fx_words.specs.declared.job.RunJob as code
use Rattle.fx_words.specs.declared.job.RunMode as code_mode
use Rattle.fx_words.specs.declared.job.RunMode.TheVariants as by
use Rattle.fx_words.specs.declared.job.AuditJob as code_audit
use Rattle.fx_words.specs.declared.job.JournalJob as code_journal
use Rattle.fx_words.specs.declared.job.RecoverJob as code_recover
use Rattle.fx_words.specs.declared.job.ViewsJob as code_views
use Rattle.fx_words.specs.declared.job.ShowJob as code_show
use Rattle.fx_words.specs.declared.job.GenJob as code_gen
use Rattle.fx_words.specs.Job.{Job, Run, Show, Gen, Large, Audit, Journal, Recover, Views, Inputs, RunJob, GenJob, AuditJob, JournalJob, RecoverJob, ViewsJob, Mode, Plain, Scheduled, Watched, schedule_of, shells_of}

abbrev pub scripts_in : code_inputs.Inputs → List (List ℕ)
scripts_in i = drop i.first i.words.now

abbrev pub asked_inputs : code_inputs.Inputs → Inputs
asked_inputs i = record { spec = i.spec.now; folder = i.folder.now; scripts = scripts_in i; first = i.first }

-- the scripts are 1 to 64, and are the words from their place on, before which there are few
pub record AreInputs (i : code_inputs.Inputs) : Type 0 where
  pub early : i.first ≤ 6
  pub some : 1 ≤ length (scripts_in i)
  pub few : length (scripts_in i) ≤ shell_limit

-- they are SPEC, FOLDER, and the words from a place on
pub record BeginAt (words : List (List ℕ)) (first : ℕ) (i : code_inputs.Inputs) : Type 0 where
  pub spec : slice_get words 1 ≡ Some i.spec.now
  pub folder : slice_get words 2 ≡ Some i.folder.now
  pub words_are : i.words.now ≡ words
  pub first_is : i.first ≡ first

-- the word at a place is a schedule of as many shells as words follow
abbrev pub has_schedule : List (List ℕ) → ℕ → Bool
has_schedule words place = option_map_or (λ schedule. is_some (schedule_of (length (drop (place + 1) words)) schedule)) (slice_get words place) false

-- the shells that a schedule of so many shells names
abbrev pub shells_read : ℕ → List ℕ → List ℕ
shells_read count schedule = unwrap_or (schedule_of count schedule) []

abbrev pub mode_of : ℕ → code_mode.RunMode → Mode
mode_of count by.Plain = Plain
mode_of count (by.Scheduled schedule) = Scheduled (shells_read count schedule.now)
mode_of count (by.Watched schedule) = Watched (shells_read count schedule.now)

abbrev pub asked : code.RunJob → RunJob
asked j = record { inputs = asked_inputs j.inputs; out = j.out.now; mode = mode_of (length (scripts_in j.inputs)) j.mode }

-- a schedule of the mode is one of so many shells
abbrev pub IsModeOf : ℕ → code_mode.RunMode → Type 0
IsModeOf count by.Plain = Unit {0}
IsModeOf count (by.Scheduled schedule) = is_some (schedule_of count schedule.now) ≡ true
IsModeOf count (by.Watched schedule) = is_some (schedule_of count schedule.now) ≡ true

-- the inputs are such; the schedule can be read
pub record IsJob (j : code.RunJob) : Type 0 where
  pub inputs : AreInputs j.inputs
  pub mode : IsModeOf (length (scripts_in j.inputs)) j.mode

abbrev pub asked_show : code_show.ShowJob → Inputs
asked_show j = record { spec = j.spec.now; folder = j.folder.now; scripts = []; first = 3 }

abbrev pub asked_gen : code_gen.GenJob → GenJob
asked_gen j = record { number = j.number; out = j.out.now }

abbrev pub asked_audit : code_audit.AuditJob → AuditJob
asked_audit j = record { inputs = asked_inputs j.inputs; report = j.report.now }

abbrev pub asked_journal : code_journal.JournalJob → JournalJob
asked_journal j = record { run = asked j.run; journal = j.journal.now }

-- its run is by a schedule
pub record IsJournalJob (j : code_journal.JournalJob) : Type 0 where
  pub run : IsJob j.run
  pub scheduled : (asked j.run).mode ≡ Scheduled (shells_of (asked j.run))

abbrev pub asked_recover : code_recover.RecoverJob → RecoverJob
asked_recover j = record { inputs = asked_inputs j.inputs; journal = j.journal.now; out = j.out.now }

abbrev pub asked_views : code_views.ViewsJob → ViewsJob
asked_views j = record { inputs = asked_inputs j.inputs; out = j.out.now; views = j.views.now }

-- its scripts leave a place for the views
pub record IsViewsJob (j : code_views.ViewsJob) : Type 0 where
  pub inputs : AreInputs j.inputs
  pub beside : length (scripts_in j.inputs) < shell_limit

abbrev pub asked_job : every.Job → Job
asked_job (any.Run j) = Run (asked j)
asked_job (any.Show j) = Show (asked_show j)
asked_job (any.Gen j) = Gen (asked_gen j)
asked_job (any.Large j) = Large (asked_gen j)
asked_job (any.Audit j) = Audit (asked_audit j)
asked_job (any.Journal j) = Journal (asked_journal j)
asked_job (any.Recover j) = Recover (asked_recover j)
asked_job (any.Views j) = Views (asked_views j)

abbrev pub IsAnyJob : every.Job → Type 0
IsAnyJob (any.Run j) = IsJob j
IsAnyJob (any.Show j) = Unit {0}
IsAnyJob (any.Gen j) = Unit {0}
IsAnyJob (any.Large j) = Unit {0}
IsAnyJob (any.Audit j) = AreInputs j.inputs
IsAnyJob (any.Journal j) = IsJournalJob j
IsAnyJob (any.Recover j) = AreInputs j.inputs
IsAnyJob (any.Views j) = IsViewsJob j
