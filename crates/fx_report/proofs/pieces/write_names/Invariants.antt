use Rattle.std.proofs.Common.{◌≡◌, ◌≤◌, ◌++◌, ◌∷◌, drop}
use Rattle.std.specs.List.{flat_map}
use Rattle.fx_report.specs.Print.{spelled}
use Rattle.fx_report.specs.declared.pieces.TheConstants.{AHEAD}
use Rattle.fx_report.proofs.pieces.write_names.Given as goal

abbrev pub invariant-loop-i : goal.invariant-loop-i
invariant-loop-i l =
    (AHEAD ≤ l.start) × (l.start ≤ l.end) × (drop l.start l.piece ≡ flat_map spelled (flat_map (λ name. 47 ∷ name) (drop l.i l.path)) ++ drop l.end l.fn.piece)
