use Rattle.std.proofs.Common.{◌≡◌, map, length, nat_lt}
use Rattle.std.specs.List.{filter}
use Rattle.fx_eval.proofs.lines.split_lines.Given as goal

abbrev pub invariant-loop-piece : goal.invariant-loop-piece
invariant-loop-piece l =
    (goal.iterator-loop-piece).can_next l.piece-iterator ×
    (goal.iterator-loop-piece).is_finite l.piece-iterator ×
    (l.found.items ≡ filter (λ p. nat_lt 0 (length p)) (map (λ x. x.now) l.yielded))
