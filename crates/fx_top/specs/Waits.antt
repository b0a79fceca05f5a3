-- Which commands run threads, and so may wait.
use Rattle.std.specs.Prelude.{Bool, true, false}
use Rattle.fx_words.specs.Job.{Mode, Plain, Scheduled, Watched, Job, Run, Show, Gen, Large, Audit, Journal, Recover, Views}

abbrev pub runs_threads : Mode → Bool
runs_threads Plain = true
runs_threads (Scheduled shells) = false
runs_threads (Watched shells) = false

-- `run`, `large` and `views`
abbrev pub may_wait : Job → Bool
may_wait (Run j) = runs_threads j.mode
may_wait (Show j) = false
may_wait (Gen j) = false
may_wait (Large j) = true
may_wait (Audit j) = false
may_wait (Journal j) = false
may_wait (Recover j) = false
may_wait (Views j) = true
