-- What each status of `show` says: where it comes, and what is then left at the host and at the sink.
use Rattle.fx_outside.specs.Host.{HostView}
use Rattle.fx_outside.specs.Sink.{SinkView}
use Rattle.fx_command.specs.declared.status.Status.{Status}
use Rattle.fx_command.specs.Query.{Query, QueryRow}
use Rattle.fx_inputs.specs.Readings.{inputs_reading}
use Rattle.fx_commands.specs.Shows.Showing.{IsShowing}
use Rattle.fx_words.specs.Job.{Inputs}

-- `show` reads the description and the folder, and prints what is shown of the one by the other
abbrev pub show_query : Inputs → Query
show_query inputs = record { reads = inputs_reading inputs; prints = λ t output. IsShowing t inputs output }

-- the table for `show`
abbrev pub ShowRow : Inputs → HostView → HostView → SinkView → SinkView → Status → Type 0
ShowRow inputs = QueryRow (show_query inputs)

-- a stage that only reads ends the command so, whatever the sink
abbrev pub ShowEndsAs : Inputs → HostView → HostView → Status → Type 0
ShowEndsAs inputs host host' st = (sink : SinkView) → ShowRow inputs host host' sink sink st
