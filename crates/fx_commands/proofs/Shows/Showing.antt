-- The rows of the table of statuses for `show`, from what its stages ensure.
use Rattle.std.proofs.Common.{◌≡◌, ℕ, List, [], ◌++◌, Option, Some, Result, Ok, Err, IfOk, IfErr, IfSome, sym, subst}
use Rattle.std.specs.FinMap.{get}
use Rattle.fx_base.specs.Causes.{Rose}
use Rattle.fx_store.specs.Whole.{Nodes}
use Rattle.fx_outside.specs.Host.{HostView, ReadsOnly}
use Rattle.fx_outside.specs.Sink.{SinkView}
use Rattle.fx_outside.specs.Tree.{Tree}
use Rattle.fx_folder.specs.Loads.{Loads}
use Rattle.fx_spec.specs.SpecTree.{SpecTree}
use Rattle.fx_commands.specs.Shows.Shown.{root_value, shown}
use Rattle.fx_command.specs.declared.status.Status.{Status}
use Rattle.fx_command.specs.declared.status.Status.TheVariants as status
use Rattle.fx_commands.specs.Shows.Rows.{show_query, ShowRow, ShowEndsAs}
use Rattle.fx_commands.specs.Shows.Showing.{IsShowing}
use Rattle.fx_command.specs.Files.{description_reading}
use Rattle.fx_command.specs.Reading.{ReadEnds}
use Rattle.fx_command.specs.Saved.{PrintsPart}
use Rattle.fx_command.proofs.Queries.{row_back, done, not_printed, not_read}
use Rattle.fx_command.proofs.Told.{if_some_map, if_some_both, some_back}
use Rattle.fx_inputs.specs.Inputs.{HasSpec, HasScripts, HasTexts}
use Rattle.fx_inputs.proofs.ReadRows.{inputs_steady, spec_unread}
use Rattle.fx_words.specs.Job.{Inputs}

-- ---- the description is not read, or refused

pub not_described : (inputs : Inputs) (host host' : HostView) (st : Status) → ReadsOnly host host' → ReadEnds (description_reading inputs.spec) host host' st → ShowEndsAs inputs host host' st
not_described inputs host host' st reads ends = not_read (show_query inputs) host host' st reads (spec_unread inputs host host' st ends)

-- ---- from one stage to the next

pub showing : (inputs : Inputs) (spec : SpecTree) (nodes : Nodes) (output : List ℕ) (a : HostView) → IfSome a.told (λ t. HasSpec t inputs spec) → IfSome a.told (λ t. Loads t inputs.folder nodes) → output ≡ shown (root_value (get nodes) spec) → IfSome a.told (λ t. IsShowing t inputs output)
showing inputs spec nodes output a described loaded shows =
    if_some_both (λ t. HasSpec t inputs spec) (λ t. Loads t inputs.folder nodes) (λ t. IsShowing t inputs output) a.told
    (λ t described loaded. record { spec = spec; nodes = nodes; described = described; loaded = loaded; shows = shows }) described loaded

pub showing_before : (inputs : Inputs) (a b : HostView) (result : Result (List ℕ) Status) → ReadsOnly a b → IfOk result (λ output. IfSome b.told (λ t. IsShowing t inputs output)) → IfOk result (λ output. IfSome a.told (λ t. IsShowing t inputs output))
showing_before inputs a b (Ok output) reads is = some_back (λ t. IsShowing t inputs output) a b reads is
showing_before inputs a b (Err st) reads is = tt

-- where there are no scripts all texts are read with the description
pub texts_of : (inputs : Inputs) (spec : SpecTree) (told : Option Tree) → inputs.scripts ≡ [] → IfSome told (λ t. HasSpec t inputs spec) → IfSome told (λ t. HasTexts t inputs)
texts_of inputs spec told none described =
    if_some_map (λ t. HasSpec t inputs spec) (λ t. HasTexts t inputs) told (λ t is. ((spec, is), ([], subst (λ scripts. HasScripts t 0 scripts []) (sym none) tt))) described

show_row_back : (inputs : Inputs) (a b c : HostView) (sink sink' : SinkView) (st : Status) → ReadsOnly a b → ShowRow inputs b c sink sink' st → ShowRow inputs a c sink sink' st
show_row_back inputs = row_back (show_query inputs) (inputs_steady inputs)

pub show_ends_back : (inputs : Inputs) (a b c : HostView) (st : Status) → ReadsOnly a b → ShowEndsAs inputs b c st → ShowEndsAs inputs a c st
show_ends_back inputs a b c st reads ends sink = show_row_back inputs a b c sink sink st reads (ends sink)

pub show_ends_before : {X : Type 0} (inputs : Inputs) (a b c : HostView) (result : Result X Status) → ReadsOnly a b → IfErr result (ShowEndsAs inputs b c) → IfErr result (ShowEndsAs inputs a c)
show_ends_before inputs a b c (Ok x) reads ends = tt
show_ends_before inputs a b c (Err st) reads ends = show_ends_back inputs a b c st reads ends

-- ---- the last stage

pub show_done : (inputs : Inputs) (output : List ℕ) (host host' : HostView) (sink sink' : SinkView) → ReadsOnly host host' → IfSome host.told (λ t. IsShowing t inputs output) → IfSome sink.written (λ w. sink'.written ≡ Some (w ++ output)) → ShowRow inputs host host' sink sink' status.Done
show_done inputs output host host' sink sink' reads is all = done (show_query inputs) output host host' sink sink' reads is all

pub show_unprinted : (inputs : Inputs) (output : List ℕ) (host host' : HostView) (sink sink' : SinkView) → ReadsOnly host host' → IfSome host.told (λ t. IsShowing t inputs output) → PrintsPart output sink sink' → Rose sink.faults sink'.faults → ShowRow inputs host host' sink sink' status.WriteFault
show_unprinted inputs output host host' sink sink' reads is front rose = not_printed (show_query inputs) output host host' sink sink' reads is front rose
