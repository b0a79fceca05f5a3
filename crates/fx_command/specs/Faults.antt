-- The faults of a text, among those of its parser and of its check, and how a command ends by them.
use Rattle.std.specs.Prelude.{ℕ}
use Rattle.fx_check.specs.declared.fault.CheckFault.{CheckFault}
use Rattle.fx_check.specs.declared.fault.CheckFault.TheVariants as check
use Rattle.fx_parse.specs.declared.fault.ParseFault.{ParseFault}
use Rattle.fx_parse.specs.declared.fault.ParseFault.TheVariants as parse
use Rattle.fx_command.specs.declared.fault.SourceFault.{SourceFault}
use Rattle.fx_command.specs.declared.fault.SourceFault.TheVariants.{Refused, NoMemory}
use Rattle.fx_command.specs.declared.status.Status.{Status}
use Rattle.fx_command.specs.declared.status.Status.TheVariants as status
use Rattle.fx_command.specs.declared.status.TextFault.TheVariants as fault

abbrev pub of_parse : ParseFault → SourceFault
of_parse parse.TooLarge = Refused fault.TooLarge
of_parse (parse.BadToken place) = Refused (fault.BadToken place)
of_parse (parse.Unexpected place) = Refused (fault.Unexpected place)
of_parse (parse.TooNested place) = Refused (fault.TooNested place)
of_parse parse.NoMemory = NoMemory

abbrev pub of_check : CheckFault → SourceFault
of_check (check.Unknown word) = Refused (fault.Unknown word)
of_check (check.TypeDiffers expected found) = Refused (fault.TypeDiffers expected found)
of_check (check.Repeated word) = Refused (fault.Repeated word)
of_check check.TooMany = Refused fault.TooMany
of_check check.NoMemory = NoMemory

-- the status of the text that a word names
abbrev pub status_at : ℕ → SourceFault → Status
status_at word (Refused cause) = status.TextRefused word cause
status_at word NoMemory = status.NoMemory
