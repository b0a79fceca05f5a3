-- How the stages that read end, from what each of them asks.
use Rattle.std.proofs.Common.{◌≡◌, ◌⊎◌, inl, inr, ℕ, false, List, IfSome, IsSomeAnd}
use Rattle.fx_base.specs.Causes.{Rose}
use Rattle.fx_outside.specs.Host.{HostView, ReadsOnly, FaultAt, HasFailed}
use Rattle.fx_outside.specs.Tree.{Tree, is_file_at}
use Rattle.fx_outside.proofs.Views.{fault_back, fault_in_back}
use Rattle.fx_folder.specs.Loads.{IsRefused}
use Rattle.fx_command.specs.declared.status.Status.{Status}
use Rattle.fx_command.specs.declared.status.Status.TheVariants as status
use Rattle.fx_command.specs.declared.status.TextFault.{TextFault}
use Rattle.fx_command.specs.Reading.{ReadEnds}
use Rattle.fx_command.proofs.Readings.{IsNarrower, IsSteady, ends_within, steady_ends}
use Rattle.fx_command.proofs.Told.{if_some_map, if_some_both, some_and, some_unit, cause_back, some_back}
use Rattle.fx_command.specs.Files.{description_reading}
use Rattle.fx_command.specs.declared.reading.TheConstants.{SPEC_WORD}
use Rattle.fx_inputs.specs.Causes.{scripts_reading}
use Rattle.fx_inputs.specs.Inputs.{HasNoSpec, HasSomeSpec, HasTexts, CannotRead, IsFirstRefused, HasNoScript, StopsAtScript, LacksFile}
use Rattle.fx_inputs.specs.Reads.{FailsAtScript, HasReadFault, ReadRow, inputs_reading}
use Rattle.fx_words.specs.Job.{Inputs, script_place}

-- the description is not read, or refused
pub spec_unread : (inputs : Inputs) (host host' : HostView) (st : Status) → ReadEnds (description_reading inputs.spec) host host' st → ReadRow inputs host host' st
spec_unread inputs host host' st ends = ends_within (description_reading inputs.spec) (inputs_reading inputs) host host' st narrower ends
  where
    refused : (word : ℕ) (cause : TextFault) → (word ≡ SPEC_WORD) × IfSome host.told (λ t. HasNoSpec t inputs cause) → IfSome host.told (λ t. IsFirstRefused t inputs word cause)
    refused word cause why = if_some_map (λ t. HasNoSpec t inputs cause) (λ t. IsFirstRefused t inputs word cause) host.told (λ t none. inl (why.0, none)) why.1

    failed : HasFailed (FaultAt inputs.spec) (λ t. is_file_at t inputs.spec) host host' → HasReadFault inputs host host' ⊎ IsSomeAnd host.told (λ t. CannotRead t inputs)
    failed (inl fault) = inl (inl fault)
    failed (inr none) = inr (some_and (λ _. Unit {0}) (λ t. is_file_at t inputs.spec ≡ false) (λ t. CannotRead t inputs) host.told (λ t _ none. inl none) (some_unit host.told) none)

    narrower : IsNarrower (description_reading inputs.spec) (inputs_reading inputs) host host'
    narrower status.Done why = absurd why
    narrower status.Usage why = absurd why
    narrower (status.TextRefused word cause) why = refused word cause why
    narrower (status.FolderRefused cause) why = absurd why
    narrower status.ReadFault why = failed why
    narrower status.NotEmpty why = absurd why
    narrower status.WriteFault why = absurd why
    narrower status.NoMemory why = absurd why
    narrower (status.BadJournal place) why = absurd why

-- the scripts are not read, or refused, once the description is read
pub scripts_unread : (inputs : Inputs) (host host' : HostView) (st : Status) → IfSome host.told (λ t. HasSomeSpec t inputs) → ReadEnds (scripts_reading inputs) host host' st → ReadRow inputs host host' st
scripts_unread inputs host host' st spec ends = ends_within (scripts_reading inputs) (inputs_reading inputs) host host' st narrower ends
  where
    Refused : ℕ → TextFault → Tree → Type 0
    Refused word cause t = (i : ℕ) × (word ≡ script_place inputs i) × StopsAtScript (HasNoScript cause) t 0 inputs.scripts i

    Lacking : Tree → Type 0
    Lacking t = (i : ℕ) × StopsAtScript LacksFile t 0 inputs.scripts i

    failed : FailsAtScript inputs.scripts host host' ⊎ IsSomeAnd host.told Lacking → HasReadFault inputs host host' ⊎ IsSomeAnd host.told (λ t. CannotRead t inputs)
    failed (inl fault) = inl (inr (inl (fault, spec)))
    failed (inr lacks) = inr (some_and (λ t. HasSomeSpec t inputs) Lacking (λ t. CannotRead t inputs) host.told (λ t spec lacks. inr (inl (spec, lacks))) spec lacks)

    narrower : IsNarrower (scripts_reading inputs) (inputs_reading inputs) host host'
    narrower status.Done why = absurd why
    narrower status.Usage why = absurd why
    narrower (status.TextRefused word cause) why =
        if_some_both (λ t. HasSomeSpec t inputs) (Refused word cause) (λ t. IsFirstRefused t inputs word cause) host.told (λ t spec stops. inr (spec, stops)) spec why
    narrower (status.FolderRefused cause) why = absurd why
    narrower status.ReadFault why = failed why
    narrower status.NotEmpty why = absurd why
    narrower status.WriteFault why = absurd why
    narrower status.NoMemory why = absurd why
    narrower (status.BadJournal place) why = absurd why

-- ---- a row from a later moment on is one from an earlier moment on, where only reads lie between

fails_back : (scripts : List (List ℕ)) (a b c : HostView) → ReadsOnly a b → FailsAtScript scripts b c → FailsAtScript scripts a c
fails_back scripts a b c reads fails = record {
  number = fails.number;
  path = fails.path;
  script = fails.script;
  fault = fault_back fails.path a b c reads.later fails.fault;
  before = some_back _ a b reads fails.before;
}

pub read_fault_back : (inputs : Inputs) (a b c : HostView) → ReadsOnly a b → HasReadFault inputs b c → HasReadFault inputs a c
read_fault_back inputs a b c reads (inl fault) = inl (fault_back inputs.spec a b c reads.later fault)
read_fault_back inputs a b c reads (inr (inl (fault, spec))) = inr (inl (fails_back inputs.scripts a b c reads fault, some_back (λ t. HasSomeSpec t inputs) a b reads spec))
read_fault_back inputs a b c reads (inr (inr (fault, texts))) = inr (inr (fault_in_back inputs.folder a b c reads.later fault, some_back (λ t. HasTexts t inputs) a b reads texts))

pub inputs_steady : (inputs : Inputs) → IsSteady (inputs_reading inputs)
inputs_steady inputs a b c status.Done reads is = is
inputs_steady inputs a b c status.Usage reads is = is
inputs_steady inputs a b c (status.TextRefused word cause) reads is = some_back (λ t. IsFirstRefused t inputs word cause) a b reads is
inputs_steady inputs a b c (status.FolderRefused cause) reads is = some_back (λ t. HasTexts t inputs × IsRefused t inputs.folder cause) a b reads is
inputs_steady inputs a b c status.ReadFault reads why = cause_back (HasReadFault inputs) (λ t. CannotRead t inputs) a b c reads (read_fault_back inputs a b c reads) why
inputs_steady inputs a b c status.NotEmpty reads is = is
inputs_steady inputs a b c status.WriteFault reads is = is
inputs_steady inputs a b c status.NoMemory reads is = is
inputs_steady inputs a b c (status.BadJournal place) reads is = is

pub read_row_back : (inputs : Inputs) (a b c : HostView) (st : Status) → ReadsOnly a b → ReadRow inputs b c st → ReadRow inputs a c st
read_row_back inputs a b c st reads row = steady_ends (inputs_reading inputs) (inputs_steady inputs) a b c st reads row

-- a fault of reading is one of the host
pub read_fault_rose : (inputs : Inputs) (host host' : HostView) → HasReadFault inputs host host' → Rose host.faults host'.faults
read_fault_rose inputs host host' (inl fault) = fault.rose
read_fault_rose inputs host host' (inr (inl (fault, spec))) = fault.fault.rose
read_fault_rose inputs host host' (inr (inr (fault, texts))) = fault.rose
