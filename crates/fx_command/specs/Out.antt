-- Where a command may write: what stands at OUT, and above it.
use Rattle.std.specs.Prelude.{◌≡◌, ◌⊎◌, ℕ, true, false, List, IfSome, ⊤}
use Rattle.fx_outside.specs.Path.{parts, is_fit, above}
use Rattle.fx_outside.specs.Tree.{Tree, has_folder}
use Rattle.fx_outside.specs.Host.{HostView, Guard, LetsIn, FaultIn, HasFailed}
use Rattle.fx_folder.specs.declared.readying.Out.TheVariants.{Absent, Empty}
use Rattle.fx_folder.specs.Folder.{IsReady, IsTaken}
use Rattle.fx_command.specs.declared.status.Status.{Status}
use Rattle.fx_command.specs.declared.status.Status.TheVariants as status

-- OUT is unfit, or nothing stands there and no folder above
abbrev pub CannotWrite : Tree → List ℕ → Type 0
CannotWrite t out = (is_fit out ≡ false) ⊎ (IsReady t out Absent × (has_folder t (above (parts out)) ≡ false))

-- OUT is an empty folder, or nothing stands there and a folder above
abbrev pub IsProperOut : Tree → List ℕ → Type 0
IsProperOut t out = IsReady t out Empty ⊎ (IsReady t out Absent × (has_folder t (above (parts out)) ≡ true))

-- the fences let OUT be asked for, and it and what is below it by names be written
pub record LetsOut (guard : Guard) (out : List ℕ) : Type 0 where
  pub ready : guard.may_read out ≡ true
  pub written : LetsIn guard.may_write out

-- nothing is asked but whether OUT is ready, and to write it
abbrev pub WritesOut : List ℕ → HostView → HostView → Type 0
WritesOut out host host' = LetsOut host.guard out → host'.guard ≡ host.guard

-- why a command ends that finds OUT not ready
abbrev pub IsUnready : List ℕ → HostView → HostView → Status → Type 0
IsUnready out host host' status.Done = ⊥
IsUnready out host host' status.Usage = ⊥
IsUnready out host host' (status.TextRefused word cause) = ⊥
IsUnready out host host' (status.FolderRefused cause) = ⊥
IsUnready out host host' status.ReadFault = ⊥
IsUnready out host host' status.NotEmpty = IfSome host.told (λ t. IsTaken t out)
IsUnready out host host' status.WriteFault = HasFailed (FaultIn out) (λ _. is_fit out) host host'
IsUnready out host host' status.NoMemory = ⊤
IsUnready out host host' (status.BadJournal place) = ⊥
