use Rattle.std.proofs.Common.{◌≡◌, ℕ, ◌<◌, true, get_or}
use Rattle.fx_read_report.specs.Numbers.{is_digit}
use Rattle.fx_read_report.proofs.numbers.digits_len.Given as goal

abbrev pub invariant-loop-at : goal.invariant-loop-at
invariant-loop-at l = (k : ℕ) → k < l.at → is_digit (get_or l.bytes k 0) ≡ true
