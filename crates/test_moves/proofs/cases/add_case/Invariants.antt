use Rattle.test_moves.proofs.cases.add_case.Given as goal

abbrev pub ghosts-add_walk : goal.ghosts-add_walk
ghosts-add_walk a = record { name = a.blank.name; parts = a.blank.parts }
