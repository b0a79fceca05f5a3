-- What a fault of the host is to a caller that saves.
use Rattle.fx_outside.specs.declared.kind.HostFault.{HostFault}
use Rattle.fx_outside.specs.declared.kind.HostFault.TheVariants.{Failed, NoMemory}
use Rattle.fx_folder.specs.declared.fault.SaveFault.{SaveFault}
use Rattle.fx_folder.specs.declared.fault.SaveFault.TheVariants.{WriteFault, NoMemory as MemoryToSave}

abbrev pub save_fault : HostFault → SaveFault
save_fault Failed = WriteFault
save_fault NoMemory = MemoryToSave
