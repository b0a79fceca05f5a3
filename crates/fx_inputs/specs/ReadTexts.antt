-- What is read of the texts of the scripts before any of them is looked at.
use Rattle.std.specs.Prelude.{◌≡◌, ◌≤◌, ℕ, List, length, slice_get, Option, Some, None}
use Rattle.fx_base.specs.Limits.{source_limit}
use Rattle.fx_command.specs.Texts.{IsReadAt}
use Rattle.fx_outside.specs.declared.kind.HostFault.{HostFault}
use Rattle.fx_outside.specs.declared.kind.HostFault.TheVariants.{Failed, NoMemory}
use Rattle.fx_outside.specs.Host.{HostView, FaultAt, HasFailed}
use Rattle.fx_outside.specs.Tree.{Tree, is_file_at}

-- each text is that of the file at its path
abbrev pub AreScriptTexts : Tree → List (List ℕ) → List (List ℕ) → Type 0
AreScriptTexts t paths texts = (k : ℕ) (path text : List ℕ) → slice_get paths k ≡ Some path → slice_get texts k ≡ Some text → IsReadAt t path source_limit text

-- the file behind so many texts is not read
pub record IsUnreadAt (paths : List (List ℕ)) (n : ℕ) (host host' : HostView) : Type 0 where
  pub path : List ℕ
  pub is : slice_get paths n ≡ Some path
  pub failed : HasFailed (FaultAt path) (λ t. is_file_at t path) host host'

-- why reading stops behind so many texts
abbrev pub StopsFor : List (List ℕ) → HostView → HostView → ℕ → Option HostFault → Type 0
StopsFor paths host host' n None = n ≡ length paths
StopsFor paths host host' n (Some Failed) = (n ≤ length paths) × IsUnreadAt paths n host host'
StopsFor paths host host' n (Some NoMemory) = n ≤ length paths
