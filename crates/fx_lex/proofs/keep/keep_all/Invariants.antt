use Rattle.std.proofs.Common.{◌≡◌, ◌++◌, map, take, drop}
use Rattle.fx_lex.specs.Kept.{kept_at}
use Rattle.fx_lex.proofs.keep.keep_all.Given as goal

abbrev pub invariant-loop-i : goal.invariant-loop-i
invariant-loop-i l = l.tokens ≡ map kept_at (take l.i l.initial.tokens) ++ drop l.i l.initial.tokens
