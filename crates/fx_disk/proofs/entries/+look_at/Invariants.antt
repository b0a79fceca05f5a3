use Rattle.fx_disk.proofs.entries.+look_at.Given as goal

abbrev pub decreases-look_at : goal.decreases-look_at
decreases-look_at g l = l.names.len
