use Rattle.fx_words.proofs.Arguments.{recover_is}
use Rattle.fx_words.proofs.job.recover_job.Goals as goal

pub returns-clause-asked : goal.returns-clause-asked
returns-clause-asked c = recover_is c.args.words.now c.inputs_from.result c.word.result.now c.word-2.result.now c.inputs_from.ensures.begin c.word.ensures c.word-2.ensures c.requires.some c.requires.few
