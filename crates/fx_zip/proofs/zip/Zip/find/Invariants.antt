use Rattle.fx_zip.proofs.Prelude.{◌-◌, length}
use Rattle.fx_zip.proofs.Finding.{Finding}
use Rattle.fx_zip.proofs.zip.Zip.find.Given as goal

abbrev pub invariant-settling : goal.invariant-settling
invariant-settling g l = Finding g.R.Reader.meaning l.initial.self l.initial.session l.session l.self

abbrev pub decreases-settling : goal.decreases-settling
decreases-settling g l = length l.self.address - length l.self.frames
