use Rattle.fx_words.proofs.Arguments.{run_is}
use Rattle.fx_words.proofs.job.run_job.Goals as goal

pub returns-clause-asked : goal.returns-clause-asked
returns-clause-asked c = run_is c.args.words.now c.inputs_from.result c.word.result.now c.inputs_from.ensures.begin c.word.ensures c.requires.some c.requires.few
