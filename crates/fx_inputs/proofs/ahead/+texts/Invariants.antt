use Rattle.std.specs.Prelude.{◌+◌, ◌*◌, length}
use Rattle.fx_inputs.proofs.ahead.+texts.Given as goal

abbrev pub decreases-read_batch : goal.decreases-read_batch
decreases-read_batch g l = 2 * length l.texts.now

abbrev pub decreases-read_beside : goal.decreases-read_beside
decreases-read_beside g l = 2 * length l.rest.now + 1
