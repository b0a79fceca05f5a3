use Rattle.std.specs.Prelude.{length}
use Rattle.fx_inputs.proofs.ahead.+read_ahead.Given as goal

abbrev pub decreases-read_ahead : goal.decreases-read_ahead
decreases-read_ahead g l = length l.texts.now
