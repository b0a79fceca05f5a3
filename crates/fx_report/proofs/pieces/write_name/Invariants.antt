use Rattle.std.proofs.Common.{◌≡◌, ◌+◌, ◌++◌, ◌∷◌, drop, take}
use Rattle.std.specs.List.{flat_map}
use Rattle.fx_report.specs.Print.{spelled}
use Rattle.fx_report.proofs.pieces.write_name.Given as goal

abbrev pub invariant-loop-i : goal.invariant-loop-i
invariant-loop-i l =
    (flat_map spelled (take l.i l.name) ≡ take l.i l.name) × (drop l.start l.piece ≡ 47 ∷ (take l.i l.name ++ drop (l.start + 1 + l.i) l.fn.piece))
