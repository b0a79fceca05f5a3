-- What a fault of the host is to a caller that loads.
use Rattle.fx_outside.specs.declared.kind.HostFault.{HostFault}
use Rattle.fx_outside.specs.declared.kind.HostFault.TheVariants.{Failed, NoMemory}
use Rattle.fx_table.specs.declared.fault.LoadFault.{LoadFault}
use Rattle.fx_table.specs.declared.fault.LoadFault.TheVariants.{ReadFault, NoMemory as MemoryToLoad}

abbrev pub load_fault : HostFault → LoadFault
load_fault Failed = ReadFault
load_fault NoMemory = MemoryToLoad
