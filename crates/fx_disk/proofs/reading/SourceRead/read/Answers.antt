use Rattle.fx_disk.specs.Held.{left_in}
use Rattle.fx_disk.proofs.reading.SourceRead.read.Goals as goal

pub returns-in-Open-clause-bytes : goal.returns-in-Open-clause-bytes
unfolding left_in
returns-in-Open-clause-bytes g c = rw c.in-Open.is c.read.ensures.bytes

pub returns-in-Held-clause-bytes : goal.returns-in-Held-clause-bytes
unfolding left_in
returns-in-Held-clause-bytes g c = rw c.in-Held.is c.read-in-Held.ensures.bytes
