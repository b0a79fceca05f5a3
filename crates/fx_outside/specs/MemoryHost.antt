-- What a host in memory shows.
use Rattle.std.specs.Prelude.{ℕ, List, Option, Some}
use Rattle.fx_outside.specs.Calls.{Plan}
use Rattle.fx_outside.specs.Path.{is_fit}
use Rattle.fx_outside.specs.Host.{HostView, Guard}
use Rattle.fx_outside.specs.Tree.{Tree}
use Rattle.fx_outside.specs.Memory.{tree_of}
use Rattle.fx_outside.specs.declared.memory_host.MemoryHost.{MemoryHost}

-- the tree that it holds
abbrev pub host_tree : MemoryHost → Tree
host_tree host = tree_of host.tree.entries

abbrev pub host_calls : MemoryHost → Plan
host_calls host = host.calls

-- the path at which it failed last
abbrev pub host_last_fault : MemoryHost → Option (List ℕ)
host_last_fault host = host.last_fault

-- its fences let fit paths through
abbrev pub host_guard : MemoryHost → Guard
host_guard host = record { may_read = is_fit; may_write = is_fit; strays = host.strays }

abbrev pub host_view : MemoryHost → HostView
host_view host = record { told = Some (host_tree host); faults = (host_calls host).faults; last_fault = host_last_fault host; guard = host_guard host }
