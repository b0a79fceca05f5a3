-- For which causes a text is refused.
use Rattle.fx_check.specs.Faults.{Fault}
use Rattle.fx_expr.specs.Views.{shape_tree}
use Rattle.fx_parse.specs.declared.fault.ParseFault.{ParseFault}
use Rattle.fx_parse.specs.declared.fault.ParseFault.TheVariants as parse
use Rattle.fx_command.specs.declared.status.TextFault.{TextFault}
use Rattle.fx_command.specs.declared.status.TextFault.TheVariants as fault

-- the cause is a fault of the text's length, tokens or form, or one of its names and shapes
abbrev pub IsCause : (ParseFault → Type 0) → (Fault → Type 0) → TextFault → Type 0
IsCause IsUnread IsUnfit fault.TooLarge = IsUnread parse.TooLarge
IsCause IsUnread IsUnfit (fault.BadToken place) = IsUnread (parse.BadToken place)
IsCause IsUnread IsUnfit (fault.Unexpected place) = IsUnread (parse.Unexpected place)
IsCause IsUnread IsUnfit (fault.TooNested place) = IsUnread (parse.TooNested place)
IsCause IsUnread IsUnfit (fault.Unknown word) = IsUnfit (Fault.unknown word)
IsCause IsUnread IsUnfit (fault.TypeDiffers expected found) = IsUnfit (Fault.differs (shape_tree expected) (shape_tree found))
IsCause IsUnread IsUnfit (fault.Repeated word) = IsUnfit (Fault.repeated word)
IsCause IsUnread IsUnfit fault.TooMany = IsUnfit Fault.too_many
