-- The file from which a description is read, and how a command ends that does not get it.
use Rattle.std.specs.Prelude.{◌≡◌, ℕ, true, List, IfSome}
use Rattle.fx_outside.specs.Host.{HostView, FaultAt, HasFailed}
use Rattle.fx_outside.specs.Tree.{Tree, is_file_at, bytes_at}
use Rattle.fx_spec.specs.SpecTree.{SpecTree}
use Rattle.fx_command.specs.declared.status.Status.{Status}
use Rattle.fx_command.specs.declared.status.Status.TheVariants as status
use Rattle.fx_command.specs.declared.status.TextFault.{TextFault}
use Rattle.fx_command.specs.Described.{Describes, IsRefusedFor}
use Rattle.fx_command.specs.declared.reading.TheConstants.{SPEC_WORD}

-- the file at the path describes this; or its text is refused, first for this cause
pub record IsDescriptionAt (t : Tree) (path : List ℕ) (spec : SpecTree) : Type 0 where
  pub file : is_file_at t path ≡ true
  pub describes : Describes (bytes_at t path) spec

pub record IsNoDescriptionAt (t : Tree) (path : List ℕ) (cause : TextFault) : Type 0 where
  pub file : is_file_at t path ≡ true
  pub refused : IsRefusedFor (bytes_at t path) cause

-- it describes nothing else
abbrev pub IsOnlyDescriptionAt : Tree → List ℕ → SpecTree → Type 0
IsOnlyDescriptionAt t path spec = (other : SpecTree) → IsDescriptionAt t path other → other ≡ spec

-- the description alone, by its refusals
abbrev pub description_reading : List ℕ → HostView → HostView → Status → Type 0
description_reading path host host' (status.TextRefused word cause) = (word ≡ SPEC_WORD) × IfSome host.told (λ t. IsNoDescriptionAt t path cause)
description_reading path host host' status.ReadFault = HasFailed (FaultAt path) (λ t. is_file_at t path) host host'
description_reading path host host' _ = ⊥
