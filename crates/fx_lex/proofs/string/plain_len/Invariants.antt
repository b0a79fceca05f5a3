use Rattle.std.proofs.Common.{◌≡◌, ℕ, ◌<◌, true, get_or}
use Rattle.fx_lex.specs.Items.{is_plain}
use Rattle.fx_lex.proofs.string.plain_len.Given as goal

abbrev pub invariant-loop-at : goal.invariant-loop-at
invariant-loop-at l = (k : ℕ) → k < l.at → is_plain (get_or l.bytes k 0) ≡ true
