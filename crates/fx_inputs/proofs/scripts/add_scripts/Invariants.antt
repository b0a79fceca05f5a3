use Rattle.std.proofs.Common.{length}
use Rattle.fx_words.specs.JobOf.{asked_inputs}
use Rattle.fx_inputs.proofs.Plans.{IsReading}
use Rattle.fx_inputs.proofs.scripts.add_scripts.Given as goal

abbrev pub invariant-scripts : goal.invariant-scripts
invariant-scripts g l = IsReading (g.H.Host.view l.fn.host).told (asked_inputs l.inputs).scripts l.plan (length l.yielded) l.before
