use Rattle.std.proofs.Common.{◌-◌, length}
use Rattle.fx_lex.proofs.Strings.{StringSoFar}
use Rattle.fx_lex.proofs.string.string_at.Given as goal

abbrev pub invariant-loop-at : goal.invariant-loop-at
invariant-loop-at l = StringSoFar l.bytes l.at l.value.items

abbrev pub decreases-loop-at : goal.decreases-loop-at
decreases-loop-at l = length l.initial.bytes - l.at
