use Rattle.std.proofs.Common.{◌-◌, ◌≤◌, length, drop, vec_capacity}
use Rattle.fx_lex.specs.Reading.{Reads}
use Rattle.fx_lex.proofs.lexer.lex.Given as goal

abbrev pub invariant-loop-at : goal.invariant-loop-at
invariant-loop-at l = record {
  reads : Reads l.text l.at (drop l.at l.text) l.items.items;
  within : l.at ≤ length l.text;
  few : length l.items.items ≤ l.at;
  room : length l.text ≤ vec_capacity l.items;
}

abbrev pub decreases-loop-at : goal.decreases-loop-at
decreases-loop-at l = length l.initial.text - l.at
