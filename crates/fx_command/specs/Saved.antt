-- How saving a filestore at OUT and then printing an output end.
use Rattle.std.specs.Prelude.{◌≡◌, ℕ, List, ◌++◌, take, Some, IfSome}
use Rattle.fx_base.specs.Causes.{Rose}
use Rattle.fx_store.specs.Whole.{Nodes}
use Rattle.fx_outside.specs.Host.{HostView}
use Rattle.fx_outside.specs.Sink.{SinkView}
use Rattle.fx_folder.specs.declared.readying.Out.{Out}
use Rattle.fx_folder.specs.Folder.{Saves, SavesPart, SaveCause}
use Rattle.fx_folder.specs.declared.fault.SaveFault.TheVariants as save
use Rattle.fx_command.specs.declared.status.Status.{Status}
use Rattle.fx_command.specs.declared.status.Status.TheVariants as status

-- a front of the output stands after what was written before
abbrev pub PrintsPart : List ℕ → SinkView → SinkView → Type 0
PrintsPart output sink sink' = IfSome sink.written (λ w. (n : ℕ) × (sink'.written ≡ Some (w ++ take n output)))

-- all of it does
abbrev pub Prints : List ℕ → SinkView → SinkView → Type 0
Prints output sink sink' = IfSome sink.written (λ w. sink'.written ≡ Some (w ++ output))

-- the filestore is saved and the output printed; or the one or the other is not, and what is then left of both
pub data SaveEnd (out : List ℕ) (there : Out) (nodes : Nodes) (output : List ℕ) (host host' : HostView) (sink sink' : SinkView) : Status → Type 0 where
  done : Saves out nodes host host' → Prints output sink sink' → SaveEnd out there nodes output host host' sink sink' status.Done
  unmade : SavesPart out nodes host host' → sink' ≡ sink → SaveEnd out there nodes output host host' sink sink' status.NoMemory
  unsaved : SavesPart out nodes host host' → SaveCause out there host host' save.WriteFault → sink' ≡ sink → SaveEnd out there nodes output host host' sink sink' status.WriteFault
  unprinted : Saves out nodes host host' → PrintsPart output sink sink' → Rose sink.faults sink'.faults → SaveEnd out there nodes output host host' sink sink' status.WriteFault
