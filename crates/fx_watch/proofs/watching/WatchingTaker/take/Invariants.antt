use Rattle.fx_watch.proofs.watching.WatchingTaker.take.Given as goal

abbrev pub ghosts-valid_after : goal.ghosts-valid_after
ghosts-valid_after g a = record { name = a.blank.name; parts = a.blank.parts }
