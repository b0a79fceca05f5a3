-- What clauses see of a host, when a call on it fails, and what it leaves.
use Rattle.std.specs.Prelude.{◌≡◌, ◌⊎◌, ◌≤◌, ℕ, ◌-◌, Bool, true, false, List, ◌∷◌, ◌++◌, length, take, drop, Option, Some, Result, Err, IsErr, IfSome, IsSomeAnd}
use Rattle.fx_base.specs.Causes.{Rose}
use Rattle.fx_outside.specs.declared.kind.HostFault.{HostFault}
use Rattle.fx_outside.specs.declared.kind.HostFault.TheVariants.{Failed}
use Rattle.fx_outside.specs.declared.kind.Standing.{Standing}
use Rattle.fx_outside.specs.Listing.{Names}
use Rattle.fx_outside.specs.Path.{parts, is_fit}
use Rattle.fx_outside.specs.Tree.{Tree, Entry, Lists, standing_of, entry_at, bytes_at, file, told_with}

-- Fences: where a host may be asked what stands, and where it may be asked to write; and how many calls were made outside.
pub record Guard : Type 0 where
  pub may_read : List ℕ → Bool
  pub may_write : List ℕ → Bool
  pub strays : ℕ

-- the tree that a host holds, if it tells one; how often it has failed; the path that was asked when it failed last; and its
-- fences
pub record HostView : Type 0 where
  pub told : Option Tree
  pub faults : ℕ
  pub last_fault : Option (List ℕ)
  pub guard : Guard

-- the told tree stays, and the count of faults does not fall
pub record ReadsOnly (old new : HostView) : Type 0 where
  pub same : new.told ≡ old.told
  pub later : old.faults ≤ new.faults

-- the fences stay, and a call outside of the one that it goes by is counted, and no other call is
pub record CountsStray (may : List ℕ → Bool) (path : List ℕ) (old new : HostView) : Type 0 where
  pub fences : (new.guard.may_read ≡ old.guard.may_read) × (new.guard.may_write ≡ old.guard.may_write)
  pub inside : may path ≡ true → new.guard ≡ old.guard
  pub outside : may path ≡ false → Rose old.guard.strays new.guard.strays

-- a fence lets through a path and all that is below it by names
pub record LetsIn (may : List ℕ → Bool) (path : List ℕ) : Type 0 where
  pub itself : may path ≡ true
  pub below : (names : List ℕ) → is_fit names ≡ true → may (path ++ 47 ∷ names) ≡ true

-- nothing is asked but what stands at a path; at it and below it by names
abbrev pub AsksAt : List ℕ → HostView → HostView → Type 0
AsksAt path old new = old.guard.may_read path ≡ true → new.guard ≡ old.guard

abbrev pub AsksIn : List ℕ → HostView → HostView → Type 0
AsksIn path old new = LetsIn old.guard.may_read path → new.guard ≡ old.guard

-- nothing is asked but to write at a path; at it and below it by names
abbrev pub WritesAt : List ℕ → HostView → HostView → Type 0
WritesAt path old new = old.guard.may_write path ≡ true → new.guard ≡ old.guard

abbrev pub WritesIn : List ℕ → HostView → HostView → Type 0
WritesIn path old new = LetsIn old.guard.may_write path → new.guard ≡ old.guard

-- the count of faults rose, and the last fault was at this path
pub record FaultAt (path : List ℕ) (old new : HostView) : Type 0 where
  pub rose : Rose old.faults new.faults
  pub place : new.last_fault ≡ Some path

-- the path of a folder, or of what stands below it
abbrev pub IsIn : List ℕ → List ℕ → Type 0
IsIn folder path = (path ≡ folder) ⊎ ((below : List ℕ) × (path ≡ folder ++ 47 ∷ below))

-- the count of faults rose, and the last fault was at a folder or below it
pub record FaultIn (folder : List ℕ) (old new : HostView) : Type 0 where
  pub rose : Rose old.faults new.faults
  pub place : IsSomeAnd new.last_fault (IsIn folder)

-- no fault was counted, and the last one was where it was
pub record IsFaultless (old new : HostView) : Type 0 where
  pub count : new.faults ≡ old.faults
  pub place : new.last_fault ≡ old.last_fault

-- there was a fault of these, or the host tells a tree that a call does not suit
abbrev pub HasFailed : (HostView → HostView → Type 0) → (Tree → Bool) → HostView → HostView → Type 0
HasFailed Fault suits old new = Fault old new ⊎ IsSomeAnd old.told (λ tree. suits tree ≡ false)

-- The count of faults does not fall, and each fault is at the path that was asked. A call is answered Failed only where
-- there was one, or where the host tells a tree that the call does not suit. A call that does not suit the told tree is
-- refused, changes nothing and counts no fault.
pub record HasCause {A : Type 0} (path : List ℕ) (suits : Tree → Bool) (old new : HostView) (result : Result A HostFault) : Type 0 where
  pub later : old.faults ≤ new.faults
  pub faults : IsFaultless old new ⊎ FaultAt path old new
  pub failed : result ≡ Err Failed → HasFailed (FaultAt path) suits old new
  pub unsuited : IfSome old.told (λ tree. suits tree ≡ false → IsErr result × (new.told ≡ old.told) × IsFaultless old new)

-- the first n bytes of the buffer are those of the file from a place on; none are read at the end alone
pub record ReadsAt (contents : List ℕ) (from n : ℕ) (buffer : List ℕ) : Type 0 where
  pub bytes : take n buffer ≡ take n (drop from contents)
  pub within : n ≤ length contents - from
  pub ends : n ≡ 0 → length contents ≤ from

-- the answers of a host that tells a tree are those of the tree
abbrev pub TellsStanding : HostView → List ℕ → Standing → Type 0
TellsStanding host path found = IfSome host.told (λ tree. found ≡ standing_of (entry_at tree path))

abbrev pub TellsNames : HostView → List ℕ → Names → Type 0
TellsNames host path names = IfSome host.told (λ tree. Lists tree (parts path) names)

abbrev pub TellsBytes : HostView → List ℕ → ℕ → List ℕ → ℕ → Type 0
TellsBytes host path from buffer n = IfSome host.told (λ tree. ReadsAt (bytes_at tree path) from n buffer)

-- nothing of a told tree is changed; or one entry is added
abbrev pub IsAsTold : HostView → HostView → Type 0
IsAsTold old new = new.told ≡ old.told

abbrev pub Adds : List ℕ → Entry → HostView → HostView → Type 0
Adds path entry old new = new.told ≡ told_with old.told path entry

abbrev pub MayAdd : List ℕ → Entry → HostView → HostView → Type 0
MayAdd path entry old new = IsAsTold old new ⊎ Adds path entry old new

-- a new file that was not written to its end: it is missing, or holds a prefix
abbrev pub MayHoldPrefix : List ℕ → List ℕ → HostView → HostView → Type 0
MayHoldPrefix path bytes old new = IsAsTold old new ⊎ ((n : ℕ) × Adds path (file (take n bytes)) old new)
