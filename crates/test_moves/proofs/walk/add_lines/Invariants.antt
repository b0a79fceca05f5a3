use Rattle.test_moves.specs.Ready.{IsReadyWalk}
use Rattle.test_moves.proofs.walk.add_lines.Given as goal

abbrev pub invariant-commands : goal.invariant-commands
invariant-commands g l = IsReadyWalk l.walk
