-- What a run with views reads: the texts of the description, of the views and of the scripts, and the folder.
use Rattle.std.specs.Prelude.{◌≡◌, ◌⊎◌, true, List, length, IfSome}
use Rattle.fx_outside.specs.Host.{HostView}
use Rattle.fx_outside.specs.Tree.{Tree}
use Rattle.fx_spec.specs.CommandTree.{CommandTree}
use Rattle.fx_spec.specs.Order.{BaseTree}
use Rattle.fx_spec.specs.Plans.{script_of}
use Rattle.fx_command.specs.declared.status.Status.{Status}
use Rattle.fx_command.specs.Files.{description_reading}
use Rattle.fx_command.specs.Reading.{ReadEnds}
use Rattle.fx_words.specs.Job.{ViewsJob}
use Rattle.fx_inputs.specs.declared.views.TheConstants.{VIEWS_WORD}
use Rattle.fx_inputs.specs.Causes.{script_reading}
use Rattle.fx_inputs.specs.Inputs.{HasSomeSpec, HasScript, HasInputs, HasBase}
use Rattle.fx_inputs.specs.Reads.{inputs_reading, LetsInputs}

-- the file at VIEWS stands for the one script of a plan; it follows no others
abbrev pub HasViewsAlone : Tree → ViewsJob → List (List (List CommandTree)) → Type 0
HasViewsAlone t j plan = HasScript t j.views 0 (script_of plan 0)

-- the description and the views are read
abbrev pub HasSomeViews : Tree → ViewsJob → Type 0
HasSomeViews t j = HasSomeSpec t j.inputs × ((txns : List (List CommandTree)) × HasScript t j.views 0 txns)

-- the scripts begin with what the host's texts and folder stand for, and the views are those of VIEWS
pub record HasBases (t : Tree) (j : ViewsJob) (scripts views : BaseTree) : Type 0 where
  pub begins : HasBase t j.inputs scripts
  pub alone : HasViewsAlone t j views.plan

-- the views are one script by the same description, and look at the same folder
pub record IsBeside (scripts views : BaseTree) : Type 0 where
  pub description : views.description ≡ scripts.description
  pub loaded : views.loaded ≡ scripts.loaded
  pub one : length views.plan ≡ 1

abbrev pub HasViewsInputs : Tree → ViewsJob → Type 0
HasViewsInputs t j = HasSomeViews t j × HasInputs t j.inputs

-- a refusal of the description; of the views, where the description is read; or of what comes after, where both are
abbrev pub views_reading : ViewsJob → HostView → HostView → Status → Type 0
views_reading j host host' st =
    description_reading j.inputs.spec host host' st
    ⊎ ((IfSome host.told (λ t. HasSomeSpec t j.inputs) × script_reading VIEWS_WORD j.views 0 host host' st)
    ⊎ (IfSome host.told (λ t. HasSomeViews t j) × inputs_reading j.inputs host host' st))

-- a command ends so where an input is not read or is refused, or memory runs out, and in no other way
abbrev pub ViewsReadRow : ViewsJob → HostView → HostView → Status → Type 0
ViewsReadRow j = ReadEnds (views_reading j)

-- nothing is asked but at the texts and in the folder
abbrev pub ViewsInputsAsk : ViewsJob → HostView → HostView → Type 0
ViewsInputsAsk j host host' = LetsInputs host.guard.may_read j.inputs × (host.guard.may_read j.views ≡ true) → host'.guard ≡ host.guard
