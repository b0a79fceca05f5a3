-- What is read of scripts, by its refusals.
use Rattle.std.specs.Prelude.{◌≡◌, ◌⊎◌, ℕ, List, IfSome, IsSomeAnd}
use Rattle.fx_outside.specs.Host.{HostView, FaultAt, HasFailed}
use Rattle.fx_outside.specs.Tree.{is_file_at}
use Rattle.fx_command.specs.declared.status.Status.{Status}
use Rattle.fx_command.specs.declared.status.Status.TheVariants as status
use Rattle.fx_words.specs.Job.{Inputs, script_place}
use Rattle.fx_inputs.specs.Inputs.{HasNoScript, StopsAtScript, LacksFile}
use Rattle.fx_inputs.specs.Reads.{FailsAtScript}

-- of one script, at the path that a word names, after so many transactions
abbrev pub script_reading : ℕ → List ℕ → ℕ → HostView → HostView → Status → Type 0
script_reading word path before host host' (status.TextRefused w cause) = (w ≡ word) × IfSome host.told (λ t. HasNoScript cause t path before)
script_reading word path before host host' status.ReadFault = HasFailed (FaultAt path) (λ t. is_file_at t path) host host'
script_reading word path before host host' _ = ⊥

-- of all of them
abbrev pub scripts_reading : Inputs → HostView → HostView → Status → Type 0
scripts_reading inputs host host' (status.TextRefused word cause) =
    IfSome host.told (λ t. (i : ℕ) × (word ≡ script_place inputs i) × StopsAtScript (HasNoScript cause) t 0 inputs.scripts i)
scripts_reading inputs host host' status.ReadFault =
    FailsAtScript inputs.scripts host host' ⊎ IsSomeAnd host.told (λ t. (i : ℕ) × StopsAtScript LacksFile t 0 inputs.scripts i)
scripts_reading inputs host host' _ = ⊥
