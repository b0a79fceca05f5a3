-- What is seen of a host that tells nothing.
use Rattle.std.specs.Prelude.{◌≡◌, ◌⊎◌, ◌≤◌, ℕ, List, Option, None}
use Rattle.fx_outside.specs.declared.kind.HostFault.{HostFault}
use Rattle.fx_outside.specs.declared.kind.HostFault.TheVariants.{Failed}
use Rattle.fx_outside.specs.Path.{is_fit}
use Rattle.fx_outside.specs.Host.{HostView, FaultAt, IsFaultless}

-- what it counts alone: its faults, with the path of the last one, and the calls outside of its fences, which let fit paths
-- through
abbrev pub silent : ℕ → Option (List ℕ) → ℕ → HostView
silent faults last_fault strays = record { told = None; faults = faults; last_fault = last_fault; guard = record { may_read = is_fit; may_write = is_fit; strays = strays } }

-- no fault is counted, or one at this path; Failed is answered only for one that is counted
pub record Counts (path : List ℕ) (old new : HostView) (fault : HostFault) : Type 0 where
  pub later : old.faults ≤ new.faults
  pub faults : IsFaultless old new ⊎ FaultAt path old new
  pub failed : fault ≡ Failed → FaultAt path old new
