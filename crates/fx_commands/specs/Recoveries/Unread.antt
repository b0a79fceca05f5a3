-- How `recover` ends where the journal is not read, or does not spell a legal order.
use Rattle.std.specs.Prelude.{ℕ, List, ⊤}
use Rattle.fx_spec.specs.Order.{BaseTree}
use Rattle.fx_command.specs.declared.status.Status.{Status}
use Rattle.fx_command.specs.declared.status.Status.TheVariants as status
use Rattle.fx_durable.specs.Disk.{DiskView, FailsAt}
use Rattle.fx_durable.specs.declared.journal_fault.JournalFault.{JournalFault}
use Rattle.fx_durable.specs.declared.journal_fault.JournalFault.TheVariants as fault
use Rattle.fx_commands.specs.Recoveries.Recovered.{HasImage}
use Rattle.fx_commands.specs.Recoveries.Wrong.{GoesWrong}

abbrev pub journal_status : JournalFault → Status
journal_status (fault.Broken place) = status.BadJournal place
journal_status fault.Failed = status.ReadFault
journal_status fault.NoMemory = status.NoMemory

abbrev pub OrderCause : List ℕ → BaseTree → DiskView → DiskView → Status → Type 0
OrderCause path base disk disk' status.Done = ⊥
OrderCause path base disk disk' status.Usage = ⊥
OrderCause path base disk disk' (status.TextRefused word cause) = ⊥
OrderCause path base disk disk' (status.FolderRefused cause) = ⊥
OrderCause path base disk disk' status.ReadFault = FailsAt path disk disk'
OrderCause path base disk disk' status.NotEmpty = ⊥
OrderCause path base disk disk' status.WriteFault = ⊥
OrderCause path base disk disk' status.NoMemory = ⊤
OrderCause path base disk disk' (status.BadJournal place) = HasImage path disk (λ image. GoesWrong base image place)
