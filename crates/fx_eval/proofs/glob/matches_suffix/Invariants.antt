use Rattle.std.proofs.Common.{◌≡◌, ◌+◌, length}
use Rattle.fx_expr.specs.Globs.{glob_matches, some_suffix}
use Rattle.fx_eval.proofs.glob.matches_suffix.Given as goal

abbrev pub invariant-loop-n : goal.invariant-loop-n
invariant-loop-n l = some_suffix (glob_matches l.glob) l.text ≡ some_suffix (glob_matches l.initial.glob) l.initial.text

abbrev pub decreases-loop-n : goal.decreases-loop-n
decreases-loop-n l = length l.glob + length l.text
