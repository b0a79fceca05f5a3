use Rattle.fx_words.proofs.Numbers.{HasNoneBelow}
use Rattle.fx_words.proofs.decimal.shell_named.Given as goal

abbrev pub invariant-loop-k : goal.invariant-loop-k
invariant-loop-k l = HasNoneBelow l.k l.text
