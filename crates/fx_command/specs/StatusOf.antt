-- The status with which a command ends, and those of the faults that end it.
use Rattle.std.specs.Prelude.{Result, Ok, Err}
use Rattle.fx_table.specs.declared.fault.LoadFault.{LoadFault}
use Rattle.fx_table.specs.declared.fault.LoadFault.TheVariants as load
use Rattle.fx_folder.specs.declared.fault.SaveFault.{SaveFault}
use Rattle.fx_folder.specs.declared.fault.SaveFault.TheVariants as save
use Rattle.fx_outside.specs.declared.kind.HostFault.{HostFault}
use Rattle.fx_outside.specs.declared.kind.HostFault.TheVariants as host
use Rattle.fx_command.specs.declared.status.Status.{Status}
use Rattle.fx_command.specs.declared.status.Status.TheVariants as status

abbrev pub status_of : Result (Unit {0}) Status → Status
status_of (Ok _) = status.Done
status_of (Err st) = st

-- of a text that is not read
abbrev pub read_status : HostFault → Status
read_status host.Failed = status.ReadFault
read_status host.NoMemory = status.NoMemory

abbrev pub load_status : LoadFault → Status
load_status (load.Refused cause) = status.FolderRefused cause
load_status load.ReadFault = status.ReadFault
load_status load.NoMemory = status.NoMemory

abbrev pub save_status : SaveFault → Status
save_status save.WriteFault = status.WriteFault
save_status save.NotEmpty = status.NotEmpty
save_status save.NoMemory = status.NoMemory
