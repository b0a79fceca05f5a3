use Rattle.test_cases.proofs.watches.tell_told.Given as goal

abbrev pub ghosts-watch_by : goal.ghosts-watch_by
ghosts-watch_by a = record { name = a.blank.name; parts = a.blank.parts }
