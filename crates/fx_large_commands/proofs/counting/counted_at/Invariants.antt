use Rattle.fx_large_commands.proofs.counting.counted_at.Given as goal

abbrev pub ghosts-integer_by : goal.ghosts-integer_by
ghosts-integer_by a = record { name = a.blank.name; parts = a.blank.parts }
