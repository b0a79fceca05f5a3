use Rattle.fx_words.specs.JobOf.{asked_inputs}
use Rattle.fx_inputs.proofs.ReadTexts.{HasRead}
use Rattle.fx_inputs.proofs.sources.read_sources.Given as goal

abbrev pub invariant-scripts : goal.invariant-scripts
invariant-scripts g l = HasRead (g.H.Host.view l.initial.host) (g.H.Host.view l.host) (asked_inputs l.inputs).scripts l.texts.items l.i
