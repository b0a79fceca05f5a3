-- The part of `views` of the table of statuses: it comes to an end only where its inputs are read, and its ends are what its stages ensure.
use Rattle.std.proofs.Common.{ℕ, List, IfSome}
use Rattle.fx_store.specs.Whole.{Nodes}
use Rattle.fx_outside.specs.Host.{HostView, ReadsOnly}
use Rattle.fx_outside.specs.Sink.{SinkView}
use Rattle.fx_outside.specs.Tree.{Tree}
use Rattle.fx_folder.specs.declared.readying.Out.{Out}
use Rattle.fx_command.specs.declared.status.Status.{Status}
use Rattle.fx_command.specs.declared.status.Status.TheVariants as status
use Rattle.fx_command.specs.Out.{IsUnready}
use Rattle.fx_command.specs.Saved.{SaveEnd}
use Rattle.fx_command.specs.Table.{CommandEndsAs, IsComing}
use Rattle.fx_command.proofs.Tables as tables
use Rattle.fx_inputs.specs.Views.{HasViewsInputs, ViewsReadRow}
use Rattle.fx_inputs.proofs.ViewsRows.{views_steady}
use Rattle.fx_inputs.proofs.Stages.{has_inputs}
use Rattle.fx_views_command.specs.Outcome.{IsViewsOutcome}
use Rattle.fx_views_command.specs.Rows.{views_making, views_command, ViewsRow}
use Rattle.fx_words.specs.Job.{ViewsJob}

abbrev EndsAs : ViewsJob → HostView → HostView → Status → Type 0
EndsAs j = CommandEndsAs (views_command j)

pub no_memory : (j : ViewsJob) (host host' : HostView) → ReadsOnly host host' → EndsAs j host host' status.NoMemory
no_memory j = tables.no_memory (views_command j)

pub not_read : (j : ViewsJob) (host host' : HostView) (st : Status) → ReadsOnly host host' → ViewsReadRow j host host' st → EndsAs j host host' st
not_read j host host' st reads row = tables.not_read (views_command j) host host' st reads row

pub not_ready : (j : ViewsJob) (a b c : HostView) (st : Status) → ReadsOnly a b → ReadsOnly b c → IfSome b.told (λ t. HasViewsInputs t j) → IsUnready j.out b c st → EndsAs j a c st
not_ready j a b c st first then inputs why = tables.ends_back (views_command j) (views_steady j) a b c st first (tables.not_ready (views_command j) b c st then inputs why)

pub row_back : (j : ViewsJob) (a b c : HostView) (sink sink' : SinkView) (st : Status) → ReadsOnly a b → ViewsRow j b c sink sink' st → ViewsRow j a c sink sink' st
row_back j = tables.row_back (views_command j) (views_steady j)

inputs_of : (t : Tree) (j : ViewsJob) (nodes : Nodes) (output : List ℕ) → IsViewsOutcome t j nodes output → HasViewsInputs t j
inputs_of t j nodes output is = (((is.base.description, is.begins.spec), (is.views, is.read)), has_inputs t j.inputs is.base is.begins)

pub left : (j : ViewsJob) (nodes : Nodes) (output : List ℕ) (there : Out) (host host' : HostView) (sink sink' : SinkView) (st : Status) → IfSome host.told (λ t. IsComing (views_making j) t (nodes, output) there) → SaveEnd j.out there nodes output host host' sink sink' st → ViewsRow j host host' sink sink' st
left j nodes output there host host' sink sink' st is end =
    tables.save_row (views_command j) (nodes, output) there nodes host host' sink sink' (λ t is. inputs_of t j nodes output is) (λ t t' saved. saved) (λ t t' part. part) is st end
