use Rattle.std.proofs.Common.{◌≡◌, ℕ, ◌<◌, true, get_or}
use Rattle.fx_expr.specs.Bytes.{is_word_byte}
use Rattle.fx_lex.proofs.byte.word_len.Given as goal

abbrev pub invariant-loop-at : goal.invariant-loop-at
invariant-loop-at l = (k : ℕ) → k < l.at → is_word_byte (get_or l.bytes k 0) ≡ true
