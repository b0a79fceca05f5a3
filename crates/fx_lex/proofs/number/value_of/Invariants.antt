use Rattle.std.proofs.Common.{◌≡◌, ◌<◌, ◌^◌, take}
use Rattle.fx_lex.specs.Spelling.{digits_value}
use Rattle.fx_lex.proofs.number.value_of.Given as goal

abbrev pub invariant-loop-digit : goal.invariant-loop-digit
invariant-loop-digit l = (l.value ≡ digits_value (take l.digit-index l.digits)) × (l.value < 2 ^ 64)
