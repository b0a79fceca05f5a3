use Rattle.std.proofs.Common.{◌≡◌, ℕ, ◌<◌, true, get_or}
use Rattle.fx_lex.specs.Reading.{is_within_line}
use Rattle.fx_lex.proofs.byte.line_len.Given as goal

abbrev pub invariant-loop-at : goal.invariant-loop-at
invariant-loop-at l = (k : ℕ) → k < l.at → is_within_line (get_or l.bytes k 0) ≡ true
