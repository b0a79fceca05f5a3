-- The words of the command line, without the program's name, and what they ask for.
use Rattle.std.specs.Prelude.{ℕ, ◌+◌, ◌-◌, ◌^◌, Bool, false, cond, not, ◌&&◌, ◌==◌, List, [], ◌∷◌, length, Option, Some, None, codes, find, nat_le, nat_lt}
use Rattle.std.specs.Fmt.{decimal}
use Rattle.std.specs.List.{list_all, slice_split}
use Rattle.std.specs.Option.{option_map, option_and_then}
use Rattle.std.specs.Str.{bytes_eq}
use Rattle.std.specs.Str.Parse.{digits_value}
use Rattle.fx_base.specs.Limits.{shell_limit}

-- a thread for each script, or by a schedule of shells, which says after each commit whether the tree has a value or not
pub data Mode : Type 0 where
  Plain : Mode
  Scheduled : List ℕ → Mode
  Watched : List ℕ → Mode

-- what a run reads: a description, a folder and scripts, and the place of the first script's word, the command being 0
pub record Inputs : Type 0 where
  pub spec : List ℕ
  pub folder : List ℕ
  pub scripts : List (List ℕ)
  pub first : ℕ

-- a run of these, and the folder that it leaves into `out`
pub record RunJob : Type 0 where
  pub inputs : Inputs
  pub out : List ℕ
  pub mode : Mode

-- whether the text at `report` is the report of a run of these
pub record AuditJob : Type 0 where
  pub inputs : Inputs
  pub report : List ℕ

-- a run by a schedule, whose order the file at `journal` keeps
pub record JournalJob : Type 0 where
  pub run : RunJob
  pub journal : List ℕ

-- the folder after the order that the file at `journal` keeps, into `out`
pub record RecoverJob : Type 0 where
  pub inputs : Inputs
  pub journal : List ℕ
  pub out : List ℕ

-- a run of these on threads while the transactions at `views` look on, and the folder that the run leaves into `out`
pub record ViewsJob : Type 0 where
  pub inputs : Inputs
  pub out : List ℕ
  pub views : List ℕ

-- what is generated from a number into `out`
pub record GenJob : Type 0 where
  pub number : ℕ
  pub out : List ℕ

-- what the words ask for; of a description and a folder without scripts, whether it has a value, and which
pub data Job : Type 0 where
  Run : RunJob → Job
  Show : Inputs → Job
  Gen : GenJob → Job
  Large : GenJob → Job
  Audit : AuditJob → Job
  Journal : JournalJob → Job
  Recover : RecoverJob → Job
  Views : ViewsJob → Job

-- the number below a limit whose decimal text this is
abbrev pub decimal_number : ℕ → List ℕ → Option ℕ
decimal_number limit text =
    let number = digits_value 10 text in
    cond (bytes_eq (decimal number) text && nat_lt number limit) (Some number) None

-- the shells that texts name, of so many shells
abbrev pub shells_named : ℕ → List (List ℕ) → Option (List ℕ)
shells_named count [] = Some []
shells_named count (text ∷ texts) = option_and_then (λ k. option_map (λ ks. k ∷ ks) (shells_named count texts)) (decimal_number count text)

abbrev pub is_comma : ℕ → Bool
is_comma b = b == 44

-- a schedule of so many shells: `none`, or their numbers with `,` between them
abbrev pub schedule_of : ℕ → List ℕ → Option (List ℕ)
schedule_of count text = cond (bytes_eq text (codes "none")) (Some []) (shells_named count (slice_split is_comma text))

-- a word may be an argument: it is not empty and does not begin with `-`
abbrev pub is_plain : List ℕ → Bool
is_plain [] = false
is_plain (b ∷ rest) = not (b == 45)

abbrev pub are_plain : List (List ℕ) → Bool
are_plain words = list_all is_plain words

abbrev pub is_within : ℕ → ℕ → ℕ → Bool
is_within least most n = nat_le least n && nat_le n most

-- SPEC FOLDER OUT SCRIPT...
abbrev pub run_job : List (List ℕ) → Option RunJob
run_job (spec ∷ folder ∷ out ∷ scripts) = cond (is_within 1 shell_limit (length scripts)) (Some (record { inputs = record { spec = spec; folder = folder; scripts = scripts; first = 4 }; out = out; mode = Plain })) None
run_job _ = None

-- SPEC FOLDER OUT SCHEDULE SCRIPT..., in the mode that a schedule gives
abbrev pub scheduled_job : (List ℕ → Mode) → List (List ℕ) → Option RunJob
scheduled_job mode (spec ∷ folder ∷ out ∷ schedule ∷ scripts) =
    let job : List ℕ → RunJob = λ shells. record { inputs = record { spec = spec; folder = folder; scripts = scripts; first = 5 }; out = out; mode = mode shells } in
    cond (is_within 1 shell_limit (length scripts)) (option_map job (schedule_of (length scripts) schedule)) None
scheduled_job mode _ = None

-- SPEC FOLDER REPORT SCRIPT...
abbrev pub audit_job : List (List ℕ) → Option AuditJob
audit_job (spec ∷ folder ∷ report ∷ scripts) = cond (is_within 1 shell_limit (length scripts)) (Some (record { inputs = record { spec = spec; folder = folder; scripts = scripts; first = 4 }; report = report })) None
audit_job _ = None

-- SPEC FOLDER OUT JOURNAL SCHEDULE SCRIPT...
abbrev pub journal_job : List (List ℕ) → Option JournalJob
journal_job (spec ∷ folder ∷ out ∷ journal ∷ schedule ∷ scripts) =
    let job : List ℕ → JournalJob = λ shells. record { run = record { inputs = record { spec = spec; folder = folder; scripts = scripts; first = 6 }; out = out; mode = Scheduled shells }; journal = journal } in
    cond (is_within 1 shell_limit (length scripts)) (option_map job (schedule_of (length scripts) schedule)) None
journal_job _ = None

-- SPEC FOLDER JOURNAL OUT SCRIPT...
abbrev pub recover_job : List (List ℕ) → Option RecoverJob
recover_job (spec ∷ folder ∷ journal ∷ out ∷ scripts) = cond (is_within 1 shell_limit (length scripts)) (Some (record { inputs = record { spec = spec; folder = folder; scripts = scripts; first = 5 }; journal = journal; out = out })) None
recover_job _ = None

-- SPEC FOLDER OUT VIEWS SCRIPT..., one script less, which leaves a place for the views
abbrev pub views_job : List (List ℕ) → Option ViewsJob
views_job (spec ∷ folder ∷ out ∷ views ∷ scripts) = cond (is_within 1 (shell_limit - 1) (length scripts)) (Some (record { inputs = record { spec = spec; folder = folder; scripts = scripts; first = 5 }; out = out; views = views })) None
views_job _ = None

-- SPEC FOLDER
abbrev pub show_job : List (List ℕ) → Option Inputs
show_job (spec ∷ folder ∷ []) = Some (record { spec = spec; folder = folder; scripts = []; first = 3 })
show_job _ = None

-- NUMBER OUT
abbrev pub gen_job : List (List ℕ) → Option GenJob
gen_job (number ∷ out ∷ []) =
    let job : ℕ → GenJob = λ n. record { number = n; out = out } in
    option_map job (decimal_number (2 ^ 32) number)
gen_job _ = None

-- the commands: the word of each, and what it asks for with its arguments
abbrev pub forms : List (List ℕ × (List (List ℕ) → Option Job))
forms =
    (codes "run", λ arguments. option_map Run (run_job arguments))
    ∷ (codes "trace", λ arguments. option_map Run (scheduled_job Scheduled arguments))
    ∷ (codes "show", λ arguments. option_map Show (show_job arguments))
    ∷ (codes "gen", λ arguments. option_map Gen (gen_job arguments))
    ∷ (codes "large", λ arguments. option_map Large (gen_job arguments))
    ∷ (codes "audit", λ arguments. option_map Audit (audit_job arguments))
    ∷ (codes "watch", λ arguments. option_map Run (scheduled_job Watched arguments))
    ∷ (codes "journal", λ arguments. option_map Journal (journal_job arguments))
    ∷ (codes "recover", λ arguments. option_map Recover (recover_job arguments))
    ∷ (codes "views", λ arguments. option_map Views (views_job arguments))
    ∷ []

-- the command that a word names, with its arguments
abbrev pub named_job : List ℕ → List (List ℕ) → Option Job
named_job word arguments = option_and_then (λ form. form.1 arguments) (find (λ form. bytes_eq form.0 word) forms)

-- the command that the words ask for, if they have a command's form
abbrev pub job_of : List (List ℕ) → Option Job
job_of [] = None
job_of (word ∷ arguments) = cond (are_plain arguments) (named_job word arguments) None

-- the place of a script's word among the words
abbrev pub script_place : Inputs → ℕ → ℕ
script_place inputs i = inputs.first + i

abbrev pub scheduled_shells : Mode → List ℕ
scheduled_shells Plain = []
scheduled_shells (Scheduled shells) = shells
scheduled_shells (Watched shells) = shells

abbrev pub shells_of : RunJob → List ℕ
shells_of job = scheduled_shells job.mode
