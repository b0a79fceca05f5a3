use Rattle.std.proofs.Common.{◌≡◌, ◌+◌, ◌*◌, ◌≤◌}
use Rattle.fx_gen.specs.Scripts.{scripts_to, logging_of}
use Rattle.fx_gen.proofs.case.script_texts.Given as goal

abbrev pub invariant-loop-script : goal.invariant-loop-script
invariant-loop-script l = record {
  number : l.draws.number ≡ l.fn.draws.number;
  drawn : l.draws.made ≡ 257 + 2 * (200 * l.script);
  texts : l.texts ≡ scripts_to l.fn.draws.number l.script;
  few : l.logging ≤ 200 * l.script;
  logging : l.logging ≡ logging_of l.fn.draws.number (200 * l.script);
}
