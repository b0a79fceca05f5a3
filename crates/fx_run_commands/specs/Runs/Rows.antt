-- What each status of a run says: the table of statuses, for what a run reads, comes to and prints.
use Rattle.std.specs.Prelude.{◌≡◌, ℕ, List}
use Rattle.fx_store.specs.Whole.{Nodes}
use Rattle.fx_outside.specs.Host.{HostView}
use Rattle.fx_outside.specs.Sink.{SinkView}
use Rattle.fx_words.specs.Job.{RunJob}
use Rattle.fx_command.specs.declared.status.Status.{Status}
use Rattle.fx_command.specs.Table.{Making, Command, CommandRow, leaving_folder}
use Rattle.fx_inputs.specs.Inputs.{HasInputs}
use Rattle.fx_inputs.specs.Reads.{LetsRun}
use Rattle.fx_inputs.specs.Readings.{inputs_reading}
use Rattle.fx_run_commands.specs.Runs.Outcome.{IsOutcome}

-- a run leaves the last filestore of a whole run at OUT, and prints its output
abbrev pub run_making : RunJob → Making (Nodes × List ℕ)
run_making j = leaving_folder j.out (λ t nodes output. IsOutcome t j nodes output)

-- before that it reads texts and a folder
abbrev pub run_command : RunJob → Command (Nodes × List ℕ)
run_command j = record { reads = inputs_reading j.inputs; all = λ t. HasInputs t j.inputs; makes = run_making j }

-- the table of the statuses, for a run
abbrev pub RunRow : RunJob → HostView → HostView → SinkView → SinkView → Status → Type 0
RunRow j = CommandRow (run_command j)

-- nothing is asked but at the texts, in the folder and in OUT
abbrev pub RunAsks : RunJob → HostView → HostView → Type 0
RunAsks j host host' = LetsRun host.guard j.inputs j.out → host'.guard ≡ host.guard
