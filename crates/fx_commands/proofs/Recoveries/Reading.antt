-- What the bytes at JOURNAL are, from what is said of reading them.
use Rattle.std.proofs.Common.{◌≡◌, inl, inr, List, ℕ, Err, refl}
use Rattle.std.specs.Prelude.{IfSome}
use Rattle.fx_spec.specs.Order.{BaseTree}
use Rattle.fx_machine.specs.declared.entry.Pair.{Pair}
use Rattle.fx_command.proofs.Told.{if_some_map, if_some_both}
use Rattle.fx_durable.specs.Disk.{DiskView, TellsAt}
use Rattle.fx_durable.specs.Journal.{Breaks, ReadsOrder, HasJournalFault, IsCalm}
use Rattle.fx_durable.specs.declared.journal_fault.JournalFault.{JournalFault}
use Rattle.fx_durable.specs.declared.journal_fault.JournalFault.TheVariants as fault
use Rattle.fx_commands.specs.Recoveries.Recovered.{HasImage}
use Rattle.fx_commands.specs.Recoveries.Rows.{StaysCalm}
use Rattle.fx_commands.specs.Recoveries.Unread.{journal_status, OrderCause}
use Rattle.fx_commands.specs.Recoveries.Wrong.{GoesWrong}

pub has_image : (path : List ℕ) (disk : DiskView) (P : List ℕ → Type 0) → TellsAt disk path → IfSome disk.told (λ file. P file.seen) → HasImage path disk P
has_image path disk P at such = if_some_both (λ file. file.path ≡ path) (λ file. P file.seen) (λ file. (file.path ≡ path) × P file.seen) disk.told (λ file at such. (at, such)) at such

-- no order was read
pub unread_cause : (path : List ℕ) (base : BaseTree) (disk disk' : DiskView) (fault : JournalFault) → IfSome disk.told (λ file. ReadsOrder file.seen (Err fault)) → HasJournalFault {A = List Pair} path disk disk' (Err fault) → OrderCause path base disk disk' (journal_status fault)
unread_cause path base disk disk' (fault.Broken place) reads at =
    has_image path disk (λ image. GoesWrong base image place) at (if_some_map (λ file. Breaks place file.seen) (λ file. GoesWrong base file.seen place) disk.told (λ file breaks. inl breaks) reads)
unread_cause path base disk disk' fault.Failed reads cause = cause
unread_cause path base disk disk' fault.NoMemory reads cause = tt

-- where no order was read the disk has failed only at a read fault, or for want of memory
pub unread_calm : (disk disk' : DiskView) (fault : JournalFault) → IsCalm {A = List Pair} disk disk' (Err fault) → StaysCalm disk disk' (journal_status fault)
unread_calm disk disk' (fault.Broken place) calm = inl calm
unread_calm disk disk' fault.Failed calm = inr (inl refl)
unread_calm disk disk' fault.NoMemory calm = inr (inr refl)
