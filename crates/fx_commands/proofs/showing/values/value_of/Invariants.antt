use Rattle.fx_commands.proofs.showing.values.value_of.Given as goal

abbrev pub ghosts-value_at : goal.ghosts-value_at
ghosts-value_at a = record { name = a.blank.name; parts = a.blank.parts }
