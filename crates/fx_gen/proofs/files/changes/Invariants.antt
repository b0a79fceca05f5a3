use Rattle.std.proofs.Common.{◌≡◌, ◌+◌, ◌*◌}
use Rattle.fx_gen.specs.Notes.{changes_to}
use Rattle.fx_gen.proofs.files.changes.Given as goal

abbrev pub invariant-loop-number : goal.invariant-loop-number
invariant-loop-number l = record {
  number : l.draws.number ≡ l.fn.draws.number;
  drawn : l.draws.made ≡ 1 + 2 * (8 * l.number);
  changes : l.changes.items ≡ changes_to l.fn.draws.number l.number;
}
