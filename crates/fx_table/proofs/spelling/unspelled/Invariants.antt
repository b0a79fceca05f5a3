use Rattle.fx_table.proofs.Prelude.{◌≡◌, ◌≤◌, ◌-◌, length, drop, unspelled}
use Rattle.fx_table.proofs.Unspelled.{joined}
use Rattle.fx_table.proofs.spelling.unspelled.Given as goal

abbrev pub invariant-loop-i : goal.invariant-loop-i
invariant-loop-i l = record {
  within : l.i ≤ length l.text;
  so_far : unspelled l.text ≡ joined l.bytes.items (unspelled (drop l.i l.text));
}

abbrev pub decreases-loop-i : goal.decreases-loop-i
decreases-loop-i l = length l.text - l.i
