-- What each status of `views` says: the table of statuses, for what it reads, comes to and prints.
use Rattle.std.specs.Prelude.{◌≡◌, ℕ, true, List}
use Rattle.fx_store.specs.Whole.{Nodes}
use Rattle.fx_outside.specs.Host.{HostView}
use Rattle.fx_outside.specs.Sink.{SinkView}
use Rattle.fx_words.specs.Job.{ViewsJob}
use Rattle.fx_command.specs.declared.status.Status.{Status}
use Rattle.fx_command.specs.Table.{Making, Command, CommandRow, leaving_folder}
use Rattle.fx_inputs.specs.Readings.{views_reading}
use Rattle.fx_inputs.specs.Reads.{LetsRun}
use Rattle.fx_inputs.specs.Views.{HasViewsInputs}
use Rattle.fx_views_command.specs.Outcome.{IsViewsOutcome}

-- `views` leaves the last filestore of a whole run at OUT, and prints its output
abbrev pub views_making : ViewsJob → Making (Nodes × List ℕ)
views_making j = leaving_folder j.out (λ t nodes output. IsViewsOutcome t j nodes output)

-- before that it reads texts and a folder
abbrev pub views_command : ViewsJob → Command (Nodes × List ℕ)
views_command j = record { reads = views_reading j; all = λ t. HasViewsInputs t j; makes = views_making j }

-- the table of the statuses, for `views`
abbrev pub ViewsRow : ViewsJob → HostView → HostView → SinkView → SinkView → Status → Type 0
ViewsRow j = CommandRow (views_command j)

-- nothing is asked but at the texts, in the folder and in OUT
abbrev pub ViewsAsk : ViewsJob → HostView → HostView → Type 0
ViewsAsk j host host' = LetsRun host.guard j.inputs j.out × (host.guard.may_read j.views ≡ true) → host'.guard ≡ host.guard
