use Rattle.fx_words.proofs.Arguments.{show_is}
use Rattle.fx_words.proofs.job.show_job.Goals as goal

pub returns : goal.returns
returns c = show_is c.args.words.now c.word.result.now c.word-2.result.now c.word.ensures c.word-2.ensures c.requires
