use Rattle.std.proofs.Common.{◌≡◌, ◌≢◌, ℕ, ◌<◌, ◌≤◌, length, drop, slice_index}
use Rattle.fx_expr.specs.Globs.{glob_matches}
use Rattle.fx_eval.proofs.glob.try_here.Given as goal

abbrev pub invariant-loop-i : goal.invariant-loop-i
invariant-loop-i l = record {
  room : l.i ≤ length l.text;
  plain : (k : ℕ) → k < l.i → slice_index l.glob k ≢ 42;
  matched : glob_matches l.glob l.text ≡ glob_matches (drop l.i l.glob) (drop l.i l.text);
}
