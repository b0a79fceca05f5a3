-- What the bytes of a journal spell. A record has nine: a gate, and the numbers of a shell and of a transaction, each as four bytes
-- of which the highest comes first.
use Rattle.std.specs.Prelude.{false, ◌≡◌, ◌⊎◌, ◌==◌, ◌<◌, ◌≤◌, ◌+◌, ◌^◌, ℕ, zero, suc, List, [], ◌∷◌, ◌++◌, length, take, drop, if◌then◌else◌, nat_lt, Bool, Result, Ok, Err, IfSome, IsSomeAnd, All, map}
use Rattle.std.specs.Int.{w32, to_be_bytes, from_be_bytes}
use Rattle.fx_base.specs.Limits.{txn_limit}
use Rattle.fx_spec.specs.Plans.{Turn}
use Rattle.fx_machine.specs.declared.entry.Pair.{Pair}
use Rattle.fx_durable.specs.Disk.{File, DiskView, MayLeave, LeavesOnly, FailsAt, TellsAt}
use Rattle.fx_durable.specs.declared.journal_fault.JournalFault.{JournalFault}
use Rattle.fx_durable.specs.declared.journal_fault.JournalFault.TheVariants as fault

abbrev pub turn_of : Pair → Turn
turn_of pair = (pair.shell, pair.txn)

abbrev pub turns_of : List Pair → List Turn
turns_of pairs = map turn_of pairs

-- the eight bytes of a turn
abbrev pub payload : Turn → List ℕ
payload turn = to_be_bytes w32 turn.0 ++ to_be_bytes w32 turn.1

-- the turn that eight bytes stand for
abbrev pub turn_in : List ℕ → Turn
turn_in bytes = (from_be_bytes w32 (take 4 bytes), from_be_bytes w32 (take 4 (drop 4 bytes)))

-- the turn stands before those, if there is no record that breaks; else the record's number is one more
abbrev pub turn_before : Turn → Result (List Turn) ℕ → Result (List Turn) ℕ
turn_before turn (Ok order) = Ok (turn ∷ order)
turn_before turn (Err record_number) = Err (record_number + 1)

-- The order of the records up to the first whose gate is missing or is not 1; or the number of the first record that is
-- cut short, or that is one more than so many.
abbrev pub reading : ℕ → List ℕ → Result (List Turn) ℕ
reading left [] = Ok []
reading zero (gate ∷ rest) = if gate == 1 then Err 0 else Ok []
reading (suc left) (gate ∷ rest) = if gate == 1 then (if nat_lt (length rest) 8 then Err 0 else turn_before (turn_in rest) (reading left (drop 8 rest))) else Ok []

-- an open record for each turn of an order
abbrev pub records : List Turn → List ℕ
records [] = []
records (turn ∷ order) = 1 ∷ payload turn ++ records order

-- the records of an order, and then a closed gate
abbrev pub at_rest : List Turn → List ℕ
at_rest order = records order ++ 0 ∷ []

-- both numbers fit four bytes
pub record FitsRecord (turn : Turn) : Type 0 where
  pub shell : turn.0 < 2 ^ 32
  pub txn : turn.1 < 2 ^ 32

-- a crash now leaves the records of this order, so many, and then a closed gate
pub record RestsAt (count : ℕ) (order : List Turn) (file : File) : Type 0 where
  pub counts : length order ≡ count
  pub fit : All FitsRecord order
  pub only : (image : List ℕ) → MayLeave file.steps image → image ≡ at_rest order

-- if the disk tells its file, a crash now leaves the records of one and the same order, so many
abbrev pub Rests : ℕ → DiskView → Type 0
Rests count disk = IfSome disk.told (λ file. (order : List Turn) × RestsAt count order file)

-- the image spells this order, and none of its records breaks
abbrev pub Spells : List Turn → List ℕ → Type 0
Spells order image = reading txn_limit image ≡ Ok order

-- the image spells no order, and this is the number of the first record that is cut short or is one too many
abbrev pub Breaks : ℕ → List ℕ → Type 0
Breaks record_number image = reading txn_limit image ≡ Err record_number

-- the image spells this order, or this one and one turn more
abbrev pub IsBeforeOrAfter : List Turn → Turn → List ℕ → Type 0
IsBeforeOrAfter order turn image = Spells order image ⊎ Spells (order ++ turn ∷ []) image

-- Let a crash at the old moment leave the records of an order, so many, and a closed gate. Then each crash since leaves a file
-- that spells this order, or this one and the turn.
abbrev pub LeavesOrder : ℕ → Turn → DiskView → DiskView → Type 0
LeavesOrder count turn old new = IfSome old.told (λ file. (order : List Turn) → RestsAt count order file → IsSomeAnd new.told (λ later. LeavesOnly file later (IsBeforeOrAfter order turn)))

-- Let it be so. Then a crash at the new moment leaves the records of the order with the turn, and a closed gate.
abbrev pub AddsTurn : ℕ → Turn → DiskView → DiskView → Type 0
AddsTurn count turn old new = IfSome old.told (λ file. (order : List Turn) → RestsAt count order file → IfSome new.told (RestsAt (count + 1) (order ++ turn ∷ [])))

-- the number of records, and whether no append failed
pub record JournalView : Type 0 where
  pub count : ℕ
  pub good : Bool

-- how many bytes of an image count: the records and one more gate
abbrev pub image_limit : ℕ
image_limit = 900001

-- bytes from the front of a file
pub record IsFront (seen bytes : List ℕ) : Type 0 where
  pub front : bytes ≡ take (length bytes) seen
  pub within : length bytes ≤ length seen

-- all bytes of a file, or as many as count
pub record IsReadImage (seen bytes : List ℕ) : Type 0 where
  pub front : bytes ≡ take (length bytes) seen
  pub whole : length bytes < image_limit → bytes ≡ seen

-- the pairs of the order that an image spells, or the number of the first record that breaks
abbrev pub ReadsOrder : List ℕ → Result (List Pair) JournalFault → Type 0
ReadsOrder image (Ok pairs) = Spells (turns_of pairs) image
ReadsOrder image (Err (fault.Broken record_number)) = Breaks record_number image
ReadsOrder image (Err fault.Failed) = Unit {0}
ReadsOrder image (Err fault.NoMemory) = Unit {0}

-- a told file of which bytes were read is at this path; at Failed the disk failed, or tells a file at another path and has not failed
abbrev pub HasJournalFault : {A : Type 0} → List ℕ → DiskView → DiskView → Result A JournalFault → Type 0
HasJournalFault path old new (Ok a) = TellsAt old path
HasJournalFault path old new (Err (fault.Broken record_number)) = TellsAt old path
HasJournalFault path old new (Err fault.Failed) = FailsAt path old new
HasJournalFault path old new (Err fault.NoMemory) = Unit {0}

-- where an order was read, or a record that breaks, the count of faults stays
abbrev pub IsCalm : {A : Type 0} → DiskView → DiskView → Result A JournalFault → Type 0
IsCalm old new (Ok a) = new.faults ≡ old.faults
IsCalm old new (Err (fault.Broken record_number)) = new.faults ≡ old.faults
IsCalm old new (Err fault.Failed) = Unit {0}
IsCalm old new (Err fault.NoMemory) = Unit {0}

-- an open gate stands first
abbrev pub is_open : List ℕ → Bool
is_open [] = false
is_open (gate ∷ rest) = gate == 1

-- not even the bytes were read
abbrev pub IsUnread : JournalFault → Type 0
IsUnread (fault.Broken record_number) = ⊥
IsUnread fault.Failed = Unit {0}
IsUnread fault.NoMemory = Unit {0}
