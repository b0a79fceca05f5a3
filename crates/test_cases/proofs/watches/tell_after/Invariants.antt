use Rattle.test_cases.proofs.watches.tell_after.Given as goal

abbrev pub ghosts-valid_by : goal.ghosts-valid_by
ghosts-valid_by a = record { name = a.blank.name; parts = a.blank.parts }
