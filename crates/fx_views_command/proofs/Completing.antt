-- With fit inputs and no fault of host or sink `views` is done, or memory runs out.
use Rattle.std.proofs.Common.{◌≡◌, ◌⊎◌, Some}
use Rattle.fx_base.specs.Causes.{Rose}
use Rattle.fx_outside.specs.Host.{HostView}
use Rattle.fx_outside.specs.Sink.{SinkView}
use Rattle.fx_outside.specs.Tree.{Tree}
use Rattle.fx_command.specs.declared.status.Status.{Status}
use Rattle.fx_command.specs.declared.status.Status.TheVariants as status
use Rattle.fx_command.proofs.Tables.{completes}
use Rattle.fx_command.specs.Out.{IsProperOut}
use Rattle.fx_inputs.specs.Views.{HasViewsInputs}
use Rattle.fx_inputs.proofs.Readings.{views_all_read}
use Rattle.fx_words.specs.Job.{ViewsJob}
use Rattle.fx_views_command.specs.Rows.{views_command, ViewsRow}

pub views_completes : (j : ViewsJob) (t : Tree) (host host' : HostView) (sink sink' : SinkView) (st : Status) → host.told ≡ Some t → HasViewsInputs t j → IsProperOut t j.out → (Rose host.faults host'.faults → ⊥) → (Rose sink.faults sink'.faults → ⊥) → ViewsRow j host host' sink sink' st → (st ≡ status.Done) ⊎ (st ≡ status.NoMemory)
views_completes j t host host' sink sink' st is has proper none quiet row =
    completes (views_command j) t host host' sink sink' st is (views_all_read j t host host' is has none) proper none quiet row
