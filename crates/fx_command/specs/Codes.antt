-- The numbers of the statuses.
use Rattle.std.specs.Prelude.{ℕ}
use Rattle.fx_command.specs.declared.status.Status.{Status}
use Rattle.fx_command.specs.declared.status.Status.TheVariants as status

abbrev pub status_code : Status → ℕ
status_code status.Done = 0
status_code status.Usage = 2
status_code (status.TextRefused word cause) = 3
status_code (status.FolderRefused cause) = 4
status_code status.ReadFault = 5
status_code status.NotEmpty = 6
status_code status.WriteFault = 7
status_code status.NoMemory = 8
status_code (status.BadJournal place) = 9
