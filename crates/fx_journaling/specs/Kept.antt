-- What a journal keeps of a run: an order of commits, from a moment of its file on.
use Rattle.std.specs.Prelude.{◌≡◌, ◌⊎◌, ◌≤◌, ◌<◌, ℕ, true, List, [], ◌∷◌, ◌++◌, length, Option, Some, None, IfSome, IsSomeAnd}
use Rattle.std.specs.Option.{unwrap_or}
use Rattle.std.specs.Result.{result_ok}
use Rattle.fx_base.specs.Causes.{Rose}
use Rattle.fx_base.specs.Limits.{txn_limit}
use Rattle.fx_spec.specs.Plans.{Turn}
use Rattle.fx_spec.specs.Order.{BaseTree, IsLegal}
use Rattle.fx_durable.specs.Disk.{File, DiskView, MayLeave, LeftSince, GoesOn, AsksChosen, moment}
use Rattle.fx_durable.specs.Journal.{JournalView, RestsAt, reading}
use Rattle.fx_durable.specs.Legal.{SpellsLegal}

-- the image spells a front of this order, which is legal
pub record SpellsFront (base : BaseTree) (order : List Turn) (image : List ℕ) : Type 0 where
  pub front : List Turn
  pub rest : List Turn
  pub whole : order ≡ front ++ rest
  pub spells : SpellsLegal base front image

-- the longer order is this one, or has one entry more
abbrev pub HasAtMostOneMore : List Turn → List Turn → Type 0
HasAtMostOneMore order longer = (longer ≡ order) ⊎ ((turn : Turn) × (longer ≡ order ++ turn ∷ []))

-- a crash now leaves a file that spells the one or the other, and a crash at any moment since the old one a front of the longer
pub record LeavesEither (base : BaseTree) (order longer : List Turn) (old new : File) : Type 0 where
  pub goes_on : GoesOn old new
  pub now : (image : List ℕ) → MayLeave new.steps image → SpellsLegal base order image ⊎ SpellsLegal base longer image
  pub since : (image : List ℕ) → LeftSince (moment old) new.steps image → SpellsFront base longer image

-- from the old moment on the journal in the file has kept this order, maybe with one entry more
pub record KeepsOrder (base : BaseTree) (order : List Turn) (old new : File) : Type 0 where
  pub longer : List Turn
  pub more : HasAtMostOneMore order longer
  pub leaves : LeavesEither base order longer old new

-- between two events the journal in the file holds this order: a crash now leaves its records and a closed gate
pub record HoldsOrder (base : BaseTree) (order : List Turn) (old new : File) : Type 0 where
  pub legal : IsLegal base order
  pub few : length order ≤ txn_limit
  pub goes_on : GoesOn old new
  pub rests : RestsAt (length order) order new
  pub since : (image : List ℕ) → LeftSince (moment old) new.steps image → SpellsFront base order image

-- the file that a disk tells, at two moments, is such; a disk that tells none goes on telling none
abbrev pub IfFile : (File → File → Type 0) → Option File → Option File → Type 0
IfFile P None told' = told' ≡ None
IfFile P (Some file) told' = IsSomeAnd told' (P file)

-- the journal on the disk has this order, and no append has failed, nor the disk; no path was chosen, and no call was early
pub record IsHeld (base : BaseTree) (order : List Turn) (began : DiskView) (journal : JournalView) (disk : DiskView) : Type 0 where
  pub count : journal.count ≡ length order
  pub good : journal.good ≡ true
  pub calm : disk.faults ≡ began.faults
  pub others : disk.others ≡ began.others
  pub asks : AsksChosen began disk
  pub told : IfFile (HoldsOrder base order) began.told disk.told

-- an append to this order, to make the longer one of it, has failed; no path was chosen, and no call was early
pub record IsLost (base : BaseTree) (order longer : List Turn) (began disk : DiskView) : Type 0 where
  pub rose : Rose began.faults disk.faults
  pub others : disk.others ≡ began.others
  pub asks : AsksChosen began disk
  pub told : IfFile (LeavesEither base order longer) began.told disk.told

-- the order may have this entry next: it is legal with it, and the journal has room
pub record MayJoinOrder (base : BaseTree) (order : List Turn) (turn : Turn) : Type 0 where
  pub legal : IsLegal base (order ++ turn ∷ [])
  pub room : length order < txn_limit

-- the order that the bytes of a file spell
abbrev pub order_seen : File → List Turn
order_seen file = unwrap_or (result_ok (reading txn_limit file.seen)) []

-- the journal rests with the order that its bytes spell, as long as no append has failed
abbrev pub RestsWhileGood : JournalView → DiskView → Type 0
RestsWhileGood journal disk = journal.good ≡ true → IfSome disk.told (λ file. RestsAt journal.count (order_seen file) file)
