-- The words that ask for a job.
use Rattle.std.specs.Prelude.{◌≡◌, ℕ, List, [], ◌∷◌, map, codes, Some}
use Rattle.std.specs.Fmt.{decimal}
use Rattle.std.specs.List.{join_with_byte}
use Rattle.fx_words.specs.Job.{Mode, Plain, Scheduled, Watched, Inputs, Job, Run, Show, Gen, Large, Audit, Journal, Recover, Views, job_of, shells_of}

-- a schedule as a word: `none`, or the numbers of its shells with `,` between each two
abbrev pub schedule_word : List ℕ → List ℕ
schedule_word [] = codes "none"
schedule_word (k ∷ ks) = join_with_byte 44 (map decimal (k ∷ ks))

abbrev pub run_words : Mode → Inputs → List ℕ → List (List ℕ)
run_words Plain i out = codes "run" ∷ i.spec ∷ i.folder ∷ out ∷ i.scripts
run_words (Scheduled shells) i out = codes "trace" ∷ i.spec ∷ i.folder ∷ out ∷ schedule_word shells ∷ i.scripts
run_words (Watched shells) i out = codes "watch" ∷ i.spec ∷ i.folder ∷ out ∷ schedule_word shells ∷ i.scripts

-- a job as words: the command, and its arguments in their order
abbrev pub job_words : Job → List (List ℕ)
job_words (Run j) = run_words j.mode j.inputs j.out
job_words (Show j) = codes "show" ∷ j.spec ∷ j.folder ∷ []
job_words (Gen j) = codes "gen" ∷ decimal j.number ∷ j.out ∷ []
job_words (Large j) = codes "large" ∷ decimal j.number ∷ j.out ∷ []
job_words (Audit j) = codes "audit" ∷ j.inputs.spec ∷ j.inputs.folder ∷ j.report ∷ j.inputs.scripts
job_words (Journal j) = codes "journal" ∷ j.run.inputs.spec ∷ j.run.inputs.folder ∷ j.run.out ∷ j.journal ∷ schedule_word (shells_of j.run) ∷ j.run.inputs.scripts
job_words (Recover j) = codes "recover" ∷ j.inputs.spec ∷ j.inputs.folder ∷ j.journal ∷ j.out ∷ j.inputs.scripts
job_words (Views j) = codes "views" ∷ j.inputs.spec ∷ j.inputs.folder ∷ j.out ∷ j.views ∷ j.inputs.scripts

-- words that ask for a job are the job's
abbrev pub JobsTellTheirWords : Type 0
JobsTellTheirWords = (words : List (List ℕ)) (job : Job) → job_of words ≡ Some job → words ≡ job_words job
