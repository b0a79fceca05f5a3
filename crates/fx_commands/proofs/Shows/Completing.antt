-- With a description and a folder that loads, and no fault of host or sink, `show` is done, or memory runs out.
use Rattle.std.proofs.Common.{◌≡◌, ◌⊎◌, Some}
use Rattle.fx_base.specs.Causes.{Rose}
use Rattle.fx_outside.specs.Host.{HostView}
use Rattle.fx_outside.specs.Sink.{SinkView}
use Rattle.fx_outside.specs.Tree.{Tree}
use Rattle.fx_command.specs.declared.status.Status.{Status}
use Rattle.fx_command.specs.declared.status.Status.TheVariants as status
use Rattle.fx_command.proofs.Queries.{completes}
use Rattle.fx_inputs.specs.Inputs.{HasInputs}
use Rattle.fx_inputs.proofs.Readings.{inputs_all_read}
use Rattle.fx_commands.specs.Shows.Rows.{show_query, ShowRow}
use Rattle.fx_words.specs.Job.{Inputs}

pub show_completes : (inputs : Inputs) (t : Tree) (host host' : HostView) (sink sink' : SinkView) (st : Status) → host.told ≡ Some t → HasInputs t inputs → (Rose host.faults host'.faults → ⊥) → (Rose sink.faults sink'.faults → ⊥) → ShowRow inputs host host' sink sink' st → (st ≡ status.Done) ⊎ (st ≡ status.NoMemory)
show_completes inputs t host host' sink sink' st is has none quiet row = completes (show_query inputs) host host' sink sink' st (inputs_all_read inputs t host host' is has none) quiet row
