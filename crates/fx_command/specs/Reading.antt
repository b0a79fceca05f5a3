-- How a command ends that does not read all that it has to.
use Rattle.std.specs.Prelude.{⊤}
use Rattle.fx_outside.specs.Host.{HostView}
use Rattle.fx_command.specs.declared.status.Status.{Status}
use Rattle.fx_command.specs.declared.status.Status.TheVariants as status

-- with a refusal of what it reads, or for want of memory
abbrev pub ReadEnds : (HostView → HostView → Status → Type 0) → HostView → HostView → Status → Type 0
ReadEnds reads host host' status.Done = ⊥
ReadEnds reads host host' status.NotEmpty = ⊥
ReadEnds reads host host' status.WriteFault = ⊥
ReadEnds reads host host' status.NoMemory = ⊤
ReadEnds reads host host' st = reads host host' st
