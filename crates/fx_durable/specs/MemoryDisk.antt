-- What a disk in memory tells: what its record of calls makes of an empty file.
use Rattle.std.specs.Prelude.{◌≡◌, ◌+◌, ◌<◌, ◌||◌, ℕ, Bool, true, false, not, List, [], ◌∷◌, ◌++◌, length, nat_lt, Some, IfSome, refl, Result, Ok, Err}
use Rattle.fx_outside.specs.Calls.{Plan, is_next_failing, with_call, with_fault}
use Rattle.fx_durable.specs.Disk.{File, Choice, DiskView, MayLeave, torn}
use Rattle.fx_durable.specs.Replay.{no_file, replay}
use Rattle.fx_durable.specs.Placed.{image_of}
use Rattle.fx_durable.specs.declared.memory_disk.MemoryDisk.{MemoryDisk}
use Rattle.fx_durable.specs.declared.disk_call.DiskCall.{DiskCall}

abbrev pub disk_path : MemoryDisk → List ℕ
disk_path disk = disk.path

-- the calls so far, the first of them first
abbrev pub disk_record : MemoryDisk → List DiskCall
disk_record disk = disk.made.items

-- the bytes of all writes that were done, one after the other
abbrev pub disk_taken : MemoryDisk → List ℕ
disk_taken disk = disk.taken.items

-- how many bytes its writes may take together, and how many calls it records
abbrev pub disk_room : MemoryDisk → ℕ
disk_room disk = disk.room

abbrev pub disk_limit : MemoryDisk → ℕ
disk_limit disk = disk.limit

abbrev pub disk_plan : MemoryDisk → Plan
disk_plan disk = disk.calls

-- how often another path than its own was chosen
abbrev pub disk_others : MemoryDisk → ℕ
disk_others disk = disk.others

abbrev pub disk_choice : MemoryDisk → Choice
disk_choice disk = record { chosen = disk.chosen; early = disk.early }

abbrev pub disk_file : MemoryDisk → File
disk_file disk = replay (no_file (disk_path disk)) (disk_record disk) (disk_taken disk)

abbrev pub disk_view : MemoryDisk → DiskView
disk_view disk = record { told = Some (disk_file disk); faults = (disk_plan disk).faults; others = disk_others disk; choice = disk_choice disk }

-- the next call fails: it is listed, or no call more can be recorded
abbrev pub fails_next : MemoryDisk → Bool
fails_next disk = is_next_failing (disk_plan disk) || not (nat_lt (length (disk_record disk)) (disk_limit disk))

-- a write of so many bytes fails: it is a call that fails, or there is no room
abbrev pub fails_write : MemoryDisk → ℕ → Bool
fails_write disk n = fails_next disk || nat_lt (disk_room disk) (length (disk_taken disk) + n)

abbrev pub FailsWhere : {A E : Type 0} → Bool → Result A E → Type 0
FailsWhere fails (Ok a) = fails ≡ false
FailsWhere fails (Err e) = fails ≡ true

-- nothing is changed but what is counted
pub record IsSameDisk (old new : MemoryDisk) : Type 0 where
  pub path : disk_path new ≡ disk_path old
  pub made : disk_record new ≡ disk_record old
  pub taken : disk_taken new ≡ disk_taken old
  pub room : disk_room new ≡ disk_room old
  pub limit : disk_limit new ≡ disk_limit old

-- path, room and limit stay, and no other path was chosen
pub record IsSameRoom (old new : MemoryDisk) : Type 0 where
  pub path : disk_path new ≡ disk_path old
  pub room : disk_room new ≡ disk_room old
  pub limit : disk_limit new ≡ disk_limit old
  pub others : disk_others new ≡ disk_others old

-- the plan after a call with this result: the call is counted, and a fault where it failed
abbrev pub plan_after : {A E : Type 0} → Plan → Result A E → Plan
plan_after plan (Ok a) = with_call plan
plan_after plan (Err e) = with_fault (with_call plan)

-- a call with this result was made: it is counted, path, room and limit stay, and no other path was chosen
pub record IsCountedCall {A E : Type 0} (old new : MemoryDisk) (result : Result A E) : Type 0 where
  pub room : IsSameRoom old new
  pub plan : disk_plan new ≡ plan_after (disk_plan old) result

-- the bytes of all writes that were done, after one more write with this result
abbrev pub taken_after : {A E : Type 0} → List ℕ → List ℕ → Result A E → List ℕ
taken_after taken bytes (Ok a) = taken ++ bytes
taken_after taken bytes (Err e) = taken

-- nothing is changed but the count of choices of another path
pub record IsUntouched (old new : MemoryDisk) : Type 0 where
  pub disk : IsSameDisk old new
  pub plan : disk_plan new ≡ disk_plan old

-- the record has room for one more call
abbrev pub HasPlace : MemoryDisk → Type 0
HasPlace disk = length (disk_record disk) < disk_limit disk

-- the call is recorded where the record has room, and else the record stays
pub record Records (c : DiskCall) (old new : MemoryDisk) : Type 0 where
  pub added : HasPlace old → disk_record new ≡ disk_record old ++ c ∷ []
  pub full : (HasPlace old → ⊥) → disk_record new ≡ disk_record old

-- a write of so many bytes that failed counts as written, where the record has room
abbrev pub CountsAsWritten : ℕ → ℕ → MemoryDisk → MemoryDisk → Type 0
CountsAsWritten from n old new = HasPlace old → disk_file new ≡ torn from n (disk_file old).seen (disk_file old)

-- what a read gives is what a crash may leave
pub file_image : (disk : MemoryDisk) → IfSome (disk_view disk).told (λ file. MayLeave file.steps file.seen)
file_image disk = image_of (no_file (disk_path disk)) (disk_record disk) (disk_taken disk) refl disk.placed
