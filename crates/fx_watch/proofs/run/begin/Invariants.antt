use Rattle.fx_watch.proofs.run.begin.Given as goal

abbrev pub ghosts-watch_by : goal.ghosts-watch_by
ghosts-watch_by g a = record { name = a.blank.name; parts = a.blank.parts }
