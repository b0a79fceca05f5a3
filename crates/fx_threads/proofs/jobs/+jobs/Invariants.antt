use Rattle.std.specs.Prelude.{◌+◌, ◌*◌}
use Rattle.fx_threads.proofs.jobs.+jobs.Given as goal

abbrev pub decreases-call_each : goal.decreases-call_each
decreases-call_each g l = 2 * l.low.len

abbrev pub decreases-front : goal.decreases-front
decreases-front g l = 2 * l.low.len + 1

abbrev pub decreases-back : goal.decreases-back
decreases-back g l = 2 * l.high.len + 1
