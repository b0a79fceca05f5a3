use Rattle.fx_session.proofs.evaluating.evaluated.Given as goal

abbrev pub ghosts-evaluated_by : goal.ghosts-evaluated_by
ghosts-evaluated_by a = record { name = a.blank.name; parts = a.blank.parts }
