use Rattle.std.proofs.Common.{refl}
use Rattle.fx_disk.specs.Held.{left_in}
use Rattle.fx_disk.proofs.reading.held.Goals as goal

pub returns-clause-bytes : goal.returns-clause-bytes
unfolding left_in
returns-clause-bytes g c = rw (c.new.ensures.inner, c.new.ensures.position) refl
