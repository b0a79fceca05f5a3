-- The table of the statuses of a command that reads and prints, and leaves nothing: one for all such commands.
use Rattle.std.specs.Prelude.{ℕ, List, IfSome}
use Rattle.fx_base.specs.Causes.{Rose}
use Rattle.fx_outside.specs.Host.{HostView, ReadsOnly}
use Rattle.fx_outside.specs.Sink.{SinkView}
use Rattle.fx_outside.specs.Tree.{Tree}
use Rattle.fx_command.specs.declared.status.Status.{Status}
use Rattle.fx_command.specs.declared.status.Status.TheVariants as status
use Rattle.fx_command.specs.Left.{IsSame, Grows}
use Rattle.fx_command.specs.Saved.{Prints, PrintsPart}

-- a command that only asks: with which status it ends where not all is read, and what it may print of a tree
pub record Query : Type 1 where
  pub reads : HostView → HostView → Status → Type 0
  pub prints : Tree → List ℕ → Type 0

-- the sink failed, and a front of the output is printed
pub record HasNotPrinted (q : Query) (host host' : HostView) (sink sink' : SinkView) : Type 0 where
  pub reads : ReadsOnly host host'
  pub cause : Rose sink.faults sink'.faults
  pub grows : Grows sink sink'
  pub left : IfSome host.told (λ t. (output : List ℕ) × q.prints t output × PrintsPart output sink sink')

-- the table: however the command ends, the tree that the host tells is as it was
abbrev pub QueryRow : Query → HostView → HostView → SinkView → SinkView → Status → Type 0
QueryRow q host host' sink sink' status.Done = ReadsOnly host host' × Grows sink sink' × IfSome host.told (λ t. (output : List ℕ) × q.prints t output × Prints output sink sink')
QueryRow q host host' sink sink' status.WriteFault = HasNotPrinted q host host' sink sink'
QueryRow q host host' sink sink' status.NoMemory = IsSame host host' sink sink'
QueryRow q host host' sink sink' st = IsSame host host' sink sink' × q.reads host host' st

-- a stage that only reads ends the command so, whatever the sink
abbrev pub QueryEndsAs : Query → HostView → HostView → Status → Type 0
QueryEndsAs q host host' st = (sink : SinkView) → QueryRow q host host' sink sink st
