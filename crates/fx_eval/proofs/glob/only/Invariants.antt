use Rattle.std.proofs.Common.{◌≡◌, ◌++◌}
use Rattle.std.specs.List.{filter}
use Rattle.fx_expr.specs.Globs.{glob_matches}
use Rattle.fx_eval.proofs.glob.only.Given as goal

abbrev pub invariant-loop-text : goal.invariant-loop-text
invariant-loop-text l = l.kept.items ++ filter (λ text. glob_matches l.glob text) l.text-iterator ≡ filter (λ text. glob_matches l.glob text) l.set
