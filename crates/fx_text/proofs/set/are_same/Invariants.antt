use Rattle.std.proofs.Common.{◌≡◌, length, nat_eq}
use Rattle.std.specs.Cmp.Lexicographic.{pointwise}
use Rattle.fx_text.proofs.set.are_same.Given as goal

abbrev pub invariant-loop-x : goal.invariant-loop-x
invariant-loop-x l = pointwise (pointwise nat_eq) l.a l.b ≡ pointwise (pointwise nat_eq) l.initial.a l.initial.b

abbrev pub decreases-loop-x : goal.decreases-loop-x
decreases-loop-x l = length l.a
