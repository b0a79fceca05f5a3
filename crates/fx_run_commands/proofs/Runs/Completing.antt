-- With fit inputs and no fault of host or sink a run is done, or memory runs out.
use Rattle.std.proofs.Common.{◌≡◌, ◌⊎◌, Some}
use Rattle.fx_base.specs.Causes.{Rose}
use Rattle.fx_outside.specs.Host.{HostView}
use Rattle.fx_outside.specs.Sink.{SinkView}
use Rattle.fx_outside.specs.Tree.{Tree}
use Rattle.fx_command.specs.declared.status.Status.{Status}
use Rattle.fx_command.specs.declared.status.Status.TheVariants as status
use Rattle.fx_command.proofs.Tables.{completes}
use Rattle.fx_inputs.specs.Reads.{IsProperRun}
use Rattle.fx_inputs.proofs.Readings.{inputs_all_read}
use Rattle.fx_words.specs.Job.{RunJob}
use Rattle.fx_run_commands.specs.Runs.Rows.{run_command, RunRow}

pub run_completes : (j : RunJob) (t : Tree) (host host' : HostView) (sink sink' : SinkView) (st : Status) → host.told ≡ Some t → IsProperRun t j.inputs j.out → (Rose host.faults host'.faults → ⊥) → (Rose sink.faults sink'.faults → ⊥) → RunRow j host host' sink sink' st → (st ≡ status.Done) ⊎ (st ≡ status.NoMemory)
run_completes j t host host' sink sink' st is proper none quiet row =
    completes (run_command j) t host host' sink sink' st is (inputs_all_read j.inputs t host host' is proper.inputs none) proper.out none quiet row
