use Rattle.std.proofs.Common.{◌≡◌, ◌+◌, ◌*◌, ◌≤◌, length}
use Rattle.fx_gen.specs.Scripts.{first_lines, logging_of}
use Rattle.fx_gen.proofs.lines.script_text.Given as goal

abbrev pub invariant-loop-place : goal.invariant-loop-place
invariant-loop-place l = record {
  number : l.draws.number ≡ l.fn.draws.number;
  made : l.draws.made ≡ 257 + 2 * (200 * l.script + l.place);
  text : l.text.items ≡ first_lines l.fn.draws.number l.script l.place;
  short : length l.text.items ≤ 128 * l.place;
  few : l.logging ≤ 200 * l.script + l.place;
  logging : l.logging ≡ logging_of l.fn.draws.number (200 * l.script + l.place);
}
