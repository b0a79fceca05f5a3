use Rattle.fx_words.proofs.Arguments.{beside, views_is}
use Rattle.fx_words.proofs.job.views_job.Goals as goal

pub returns-clause-asked : goal.returns-clause-asked
returns-clause-asked c = views_is c.args.words.now c.inputs_from.result c.word.result.now c.word-2.result.now c.inputs_from.ensures.begin c.word.ensures c.word-2.ensures c.requires.some c.requires.few

pub returns-clause-job : goal.returns-clause-job
returns-clause-job c = record {
  inputs = c.inputs_from.ensures.inputs;
  beside = beside c.args.words.now c.inputs_from.result c.inputs_from.ensures.begin c.requires.some c.requires.few;
}
