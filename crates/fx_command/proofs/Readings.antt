-- What the rows of the tables need of what a command reads.
use Rattle.fx_outside.specs.Host.{HostView, ReadsOnly}
use Rattle.fx_command.specs.declared.status.Status.{Status}
use Rattle.fx_command.specs.declared.status.Status.TheVariants as status
use Rattle.fx_command.specs.Reading.{ReadEnds}

-- what is refused later was so before, where only reads lie between
abbrev pub IsSteady : (HostView → HostView → Status → Type 0) → Type 0
IsSteady reads = (a b c : HostView) (st : Status) → ReadsOnly a b → reads b c st → reads a c st

-- nothing is refused
abbrev pub CannotBeRefused : (HostView → HostView → Status → Type 0) → HostView → HostView → Type 0
CannotBeRefused reads host host' = (st : Status) → reads host host' st → ⊥

-- what is refused of the one is refused of the other
abbrev pub IsNarrower : (HostView → HostView → Status → Type 0) → (HostView → HostView → Status → Type 0) → HostView → HostView → Type 0
IsNarrower reads wider host host' = (st : Status) → reads host host' st → wider host host' st

pub ends_within : (reads wider : HostView → HostView → Status → Type 0) (host host' : HostView) (st : Status) → IsNarrower reads wider host host' → ReadEnds reads host host' st → ReadEnds wider host host' st
ends_within reads wider host host' status.Done within row = row
ends_within reads wider host host' status.Usage within row = within status.Usage row
ends_within reads wider host host' (status.TextRefused word cause) within row = within (status.TextRefused word cause) row
ends_within reads wider host host' (status.FolderRefused cause) within row = within (status.FolderRefused cause) row
ends_within reads wider host host' status.ReadFault within row = within status.ReadFault row
ends_within reads wider host host' status.NotEmpty within row = row
ends_within reads wider host host' status.WriteFault within row = row
ends_within reads wider host host' status.NoMemory within row = row
ends_within reads wider host host' (status.BadJournal place) within row = within (status.BadJournal place) row

-- an end from a later moment on is one from an earlier moment on, where only reads lie between
pub steady_ends : (reads : HostView → HostView → Status → Type 0) → IsSteady reads → (a b c : HostView) (st : Status) → ReadsOnly a b → ReadEnds reads b c st → ReadEnds reads a c st
steady_ends reads steady a b c status.Done only row = row
steady_ends reads steady a b c status.Usage only row = steady a b c status.Usage only row
steady_ends reads steady a b c (status.TextRefused word cause) only row = steady a b c (status.TextRefused word cause) only row
steady_ends reads steady a b c (status.FolderRefused cause) only row = steady a b c (status.FolderRefused cause) only row
steady_ends reads steady a b c status.ReadFault only row = steady a b c status.ReadFault only row
steady_ends reads steady a b c status.NotEmpty only row = row
steady_ends reads steady a b c status.WriteFault only row = row
steady_ends reads steady a b c status.NoMemory only row = row
steady_ends reads steady a b c (status.BadJournal place) only row = steady a b c (status.BadJournal place) only row

-- ---- where nothing is read

pub nothing_steady : IsSteady (λ host host' st. ⊥)
nothing_steady a b c st reads row = row

pub nothing_refused : (host host' : HostView) → CannotBeRefused (λ host host' st. ⊥) host host'
nothing_refused host host' st row = row
