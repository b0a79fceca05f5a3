-- How a command ends whose inputs are not read, and which paths reading asks.
use Rattle.std.specs.Prelude.{◌≡◌, ◌⊎◌, ℕ, Bool, true, List, slice_get, Some, IfSome, IsSomeAnd}
use Rattle.std.specs.List.{list_all}
use Rattle.fx_outside.specs.Host.{HostView, Guard, LetsIn, FaultAt, FaultIn}
use Rattle.fx_outside.specs.Tree.{Tree}
use Rattle.fx_folder.specs.Loads.{IsRefused}
use Rattle.fx_command.specs.declared.status.Status.{Status}
use Rattle.fx_command.specs.declared.status.Status.TheVariants as status
use Rattle.fx_command.specs.Out.{IsProperOut, LetsOut}
use Rattle.fx_command.specs.Reading.{ReadEnds}
use Rattle.fx_words.specs.Job.{Inputs}
use Rattle.fx_inputs.specs.Inputs.{StopsAtScript, IsScriptReached, HasSomeSpec, HasTexts, HasInputs, CannotRead, IsFirstRefused}

-- a fault at a script, where those before it are read
pub record FailsAtScript (scripts : List (List ℕ)) (host host' : HostView) : Type 0 where
  pub number : ℕ
  pub path : List ℕ
  pub script : slice_get scripts number ≡ Some path
  pub fault : FaultAt path host host'
  pub before : IfSome host.told (λ t. StopsAtScript IsScriptReached t 0 scripts number)

-- a fault at SPEC; at a script, where SPEC and the scripts before it are read; or in FOLDER, where the texts are read
abbrev pub HasReadFault : Inputs → HostView → HostView → Type 0
HasReadFault inputs host host' =
    FaultAt inputs.spec host host' ⊎ ((FailsAtScript inputs.scripts host host' × IfSome host.told (λ t. HasSomeSpec t inputs)) ⊎ (FaultIn inputs.folder host host' × IfSome host.told (λ t. HasTexts t inputs)))

-- what a command reads that runs scripts on a folder, by its refusals
abbrev pub inputs_reading : Inputs → HostView → HostView → Status → Type 0
inputs_reading inputs host host' (status.TextRefused word cause) = IfSome host.told (λ t. IsFirstRefused t inputs word cause)
inputs_reading inputs host host' (status.FolderRefused cause) = IfSome host.told (λ t. HasTexts t inputs × IsRefused t inputs.folder cause)
inputs_reading inputs host host' status.ReadFault = HasReadFault inputs host host' ⊎ IsSomeAnd host.told (λ t. CannotRead t inputs)
inputs_reading inputs host host' _ = ⊥

-- a command ends so where an input is not read or is refused, or memory runs out, and in no other way
abbrev pub ReadRow : Inputs → HostView → HostView → Status → Type 0
ReadRow inputs = ReadEnds (inputs_reading inputs)

-- nothing is asked but at these paths
abbrev pub AsksAtAll : List (List ℕ) → HostView → HostView → Type 0
AsksAtAll paths host host' = list_all host.guard.may_read paths ≡ true → host'.guard ≡ host.guard

-- a fence lets through the texts that are read and the folder
pub record LetsInputs (may : List ℕ → Bool) (inputs : Inputs) : Type 0 where
  pub spec : may inputs.spec ≡ true
  pub folder : LetsIn may inputs.folder
  pub scripts : list_all may inputs.scripts ≡ true

-- the fences let the texts and the folder of a run be read, and OUT be written
pub record LetsRun (guard : Guard) (i : Inputs) (path : List ℕ) : Type 0 where
  pub inputs : LetsInputs guard.may_read i
  pub out : LetsOut guard path

-- texts that stand for a description and scripts, a folder that loads, and an OUT that is an empty folder or can be made
pub record IsProperRun (t : Tree) (i : Inputs) (path : List ℕ) : Type 0 where
  pub inputs : HasInputs t i
  pub out : IsProperOut t path

-- nothing is asked but at the texts and in the folder
abbrev pub InputsAsk : Inputs → HostView → HostView → Type 0
InputsAsk inputs host host' = LetsInputs host.guard.may_read inputs → host'.guard ≡ host.guard
