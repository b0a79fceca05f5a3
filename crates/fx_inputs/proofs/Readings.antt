-- What is read of a run's inputs, for the tables of statuses.
use Rattle.std.proofs.Common.{◌≡◌, ◌⊎◌, inl, inr, ℕ, true, false, List, Some, IfSome, IsSomeAnd, subst}
use Rattle.fx_base.specs.Causes.{Rose}
use Rattle.fx_base.proofs.Booleans.{never_both}
use Rattle.fx_outside.specs.Host.{HostView, FaultAt, HasFailed}
use Rattle.fx_outside.specs.Tree.{Tree, is_file_at}
use Rattle.fx_folder.specs.Loads.{IsRefused}
use Rattle.fx_folder.proofs.Loaded.{not_both}
use Rattle.fx_spec.specs.CommandTree.{CommandTree}
use Rattle.fx_spec.specs.SpecTree.{SpecTree}
use Rattle.fx_command.specs.declared.status.Status.TheVariants as status
use Rattle.fx_command.specs.Files.{IsDescriptionAt, IsNoDescriptionAt, description_reading}
use Rattle.fx_command.proofs.Readings.{CannotBeRefused}
use Rattle.fx_words.specs.Job.{Inputs, ViewsJob}
use Rattle.fx_inputs.specs.declared.views.TheConstants.{VIEWS_WORD}
use Rattle.fx_inputs.specs.Causes.{script_reading}
use Rattle.fx_inputs.specs.Inputs.{HasScript, HasNoScript, HasTexts, HasInputs, CannotRead, IsFirstRefused}
use Rattle.fx_inputs.specs.Reads.{HasReadFault}
use Rattle.fx_inputs.specs.Readings.{inputs_reading, views_reading}
use Rattle.fx_inputs.specs.Views.{HasViewsInputs}
use Rattle.fx_inputs.proofs.AllRead.{can_read, none_refused}
use Rattle.fx_inputs.proofs.ReadRows.{read_fault_rose}

-- a file that is there was read, where nothing has failed
not_failed : (path : List ℕ) (t : Tree) (host host' : HostView) → host.told ≡ Some t → is_file_at t path ≡ true → (Rose host.faults host'.faults → ⊥) → HasFailed (FaultAt path) (λ t. is_file_at t path) host host' → ⊥
not_failed path t host host' is there none (inl fault) = none fault.rose
not_failed path t host host' is there none (inr lacks) = never_both (is_file_at t path) there (subst (λ o. IsSomeAnd o (λ t. is_file_at t path ≡ false)) is lacks)

pub inputs_all_read : (inputs : Inputs) (t : Tree) (host host' : HostView) → host.told ≡ Some t → HasInputs t inputs → (Rose host.faults host'.faults → ⊥) → CannotBeRefused (inputs_reading inputs) host host'
inputs_all_read inputs t host host' is has none status.Done why = why
inputs_all_read inputs t host host' is has none status.Usage why = why
inputs_all_read inputs t host host' is has none (status.TextRefused word cause) why = none_refused t inputs word cause has.0 (subst (λ o. IfSome o (λ t. IsFirstRefused t inputs word cause)) is why)
inputs_all_read inputs t host host' is has none (status.FolderRefused cause) why = not_both t inputs.folder has.1.0 cause has.1.1 (subst (λ o. IfSome o (λ t. HasTexts t inputs × IsRefused t inputs.folder cause)) is why).1
inputs_all_read inputs t host host' is has none status.ReadFault why = failed why
  where
    failed : HasReadFault inputs host host' ⊎ IsSomeAnd host.told (λ t. CannotRead t inputs) → ⊥
    failed (inl fault) = none (read_fault_rose inputs host host' fault)
    failed (inr cannot) = can_read t inputs has (subst (λ o. IsSomeAnd o (λ t. CannotRead t inputs)) is cannot)
inputs_all_read inputs t host host' is has none status.NotEmpty why = why
inputs_all_read inputs t host host' is has none status.WriteFault why = why
inputs_all_read inputs t host host' is has none status.NoMemory why = why
inputs_all_read inputs t host host' is has none (status.BadJournal place) why = why

-- ---- with views

description_read : (path : List ℕ) (spec : SpecTree) (t : Tree) (host host' : HostView) → host.told ≡ Some t → IsDescriptionAt t path spec → (Rose host.faults host'.faults → ⊥) → CannotBeRefused (description_reading path) host host'
description_read path spec t host host' is has none status.Done why = why
description_read path spec t host host' is has none status.Usage why = why
description_read path spec t host host' is has none (status.TextRefused word cause) why = (subst (λ o. IfSome o (λ t. IsNoDescriptionAt t path cause)) is why.1).refused.none spec has.describes
description_read path spec t host host' is has none (status.FolderRefused cause) why = why
description_read path spec t host host' is has none status.ReadFault why = not_failed path t host host' is has.file none why
description_read path spec t host host' is has none status.NotEmpty why = why
description_read path spec t host host' is has none status.WriteFault why = why
description_read path spec t host host' is has none status.NoMemory why = why
description_read path spec t host host' is has none (status.BadJournal place) why = why

script_read : (word : ℕ) (path : List ℕ) (before : ℕ) (txns : List (List CommandTree)) (t : Tree) (host host' : HostView) → host.told ≡ Some t → HasScript t path before txns → (Rose host.faults host'.faults → ⊥) → CannotBeRefused (script_reading word path before) host host'
script_read word path before txns t host host' is has none status.Done why = why
script_read word path before txns t host host' is has none status.Usage why = why
script_read word path before txns t host host' is has none (status.TextRefused w cause) why = (subst (λ o. IfSome o (λ t. HasNoScript cause t path before)) is why.1).refused.none txns has.script
script_read word path before txns t host host' is has none (status.FolderRefused cause) why = why
script_read word path before txns t host host' is has none status.ReadFault why = not_failed path t host host' is has.file none why
script_read word path before txns t host host' is has none status.NotEmpty why = why
script_read word path before txns t host host' is has none status.WriteFault why = why
script_read word path before txns t host host' is has none status.NoMemory why = why
script_read word path before txns t host host' is has none (status.BadJournal place) why = why

pub views_all_read : (j : ViewsJob) (t : Tree) (host host' : HostView) → host.told ≡ Some t → HasViewsInputs t j → (Rose host.faults host'.faults → ⊥) → CannotBeRefused (views_reading j) host host'
views_all_read j t host host' is has none st (inl why) = description_read j.inputs.spec has.0.0.0 t host host' is has.0.0.1 none st why
views_all_read j t host host' is has none st (inr (inl (_, why))) = script_read VIEWS_WORD j.views 0 has.0.1.0 t host host' is has.0.1.1 none st why
views_all_read j t host host' is has none st (inr (inr (_, why))) = inputs_all_read j.inputs t host host' is has.1 none st why
