-- A run's part of the table of statuses: it comes to an end only where its inputs are read, and its ends are what its stages ensure.
use Rattle.std.proofs.Common.{ℕ, List, IfSome}
use Rattle.fx_store.specs.Whole.{Nodes}
use Rattle.fx_outside.specs.Host.{HostView, ReadsOnly}
use Rattle.fx_outside.specs.Sink.{SinkView}
use Rattle.fx_outside.specs.Tree.{Tree}
use Rattle.fx_folder.specs.declared.readying.Out.{Out}
use Rattle.fx_command.specs.declared.status.Status.{Status}
use Rattle.fx_command.specs.declared.status.Status.TheVariants as status
use Rattle.fx_command.specs.Out.{IsUnready}
use Rattle.fx_command.specs.Saved.{SaveEnd}
use Rattle.fx_command.specs.Table.{CommandEndsAs, IsComing}
use Rattle.fx_command.proofs.Tables as tables
use Rattle.fx_inputs.specs.Inputs.{HasInputs}
use Rattle.fx_inputs.specs.Reads.{ReadRow}
use Rattle.fx_inputs.proofs.ReadRows.{inputs_steady}
use Rattle.fx_inputs.proofs.Stages.{has_inputs}
use Rattle.fx_run_commands.specs.Runs.Outcome.{IsOutcome}
use Rattle.fx_run_commands.specs.Runs.Rows.{run_making, run_command, RunRow}
use Rattle.fx_words.specs.Job.{RunJob}

abbrev EndsAs : RunJob → HostView → HostView → Status → Type 0
EndsAs j = CommandEndsAs (run_command j)

pub no_memory : (j : RunJob) (host host' : HostView) → ReadsOnly host host' → EndsAs j host host' status.NoMemory
no_memory j = tables.no_memory (run_command j)

pub not_read : (j : RunJob) (host host' : HostView) (st : Status) → ReadsOnly host host' → ReadRow j.inputs host host' st → EndsAs j host host' st
not_read j host host' st reads row = tables.not_read (run_command j) host host' st reads row

pub not_ready : (j : RunJob) (a b c : HostView) (st : Status) → ReadsOnly a b → ReadsOnly b c → IfSome b.told (λ t. HasInputs t j.inputs) → IsUnready j.out b c st → EndsAs j a c st
not_ready j a b c st first then inputs why = tables.ends_back (run_command j) (inputs_steady j.inputs) a b c st first (tables.not_ready (run_command j) b c st then inputs why)

pub row_back : (j : RunJob) (a b c : HostView) (sink sink' : SinkView) (st : Status) → ReadsOnly a b → RunRow j b c sink sink' st → RunRow j a c sink sink' st
row_back j = tables.row_back (run_command j) (inputs_steady j.inputs)

inputs_of : (t : Tree) (j : RunJob) (nodes : Nodes) (output : List ℕ) → IsOutcome t j nodes output → HasInputs t j.inputs
inputs_of t j nodes output is = has_inputs t j.inputs is.base is.begins

pub left : (j : RunJob) (nodes : Nodes) (output : List ℕ) (there : Out) (host host' : HostView) (sink sink' : SinkView) (st : Status) → IfSome host.told (λ t. IsComing (run_making j) t (nodes, output) there) → SaveEnd j.out there nodes output host host' sink sink' st → RunRow j host host' sink sink' st
left j nodes output there host host' sink sink' st is end =
    tables.save_row (run_command j) (nodes, output) there nodes host host' sink sink' (λ t is. inputs_of t j nodes output is) (λ t t' saved. saved) (λ t t' part. part) is st end
