use Rattle.fx_run.proofs.engine.attempt.Given as goal

abbrev pub ghosts-pursue : goal.ghosts-pursue
ghosts-pursue g a = record { name = a.blank.name; parts = a.blank.parts }
