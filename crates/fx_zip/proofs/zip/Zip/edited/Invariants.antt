use Rattle.fx_zip.proofs.Prelude.{length}
use Rattle.fx_zip.proofs.Dropping.{IsDropping}
use Rattle.fx_zip.proofs.zip.Zip.edited.Given as goal

abbrev pub invariant-dropping : goal.invariant-dropping
invariant-dropping l = IsDropping l.untouched l.initial.self l.self

abbrev pub decreases-dropping : goal.decreases-dropping
decreases-dropping l = length l.self.frames
