use Rattle.std.proofs.Common.{refl, sym}
use Rattle.fx_words.proofs.Arguments.{journal_is, journal_not, mode_is}
use Rattle.fx_words.proofs.job.journal_job.Goals as goal

pub returns-in_err-schedule-clause-asked : goal.returns-in_err-schedule-clause-asked
returns-in_err-schedule-clause-asked c =
    rw c.from_residual.ensures (journal_not c.args.words.now c.requires.some (sym c.in_err-schedule.ensures.read))

pub returns-clause-asked : goal.returns-clause-asked
returns-clause-asked c =
    journal_is c.args.words.now c.inputs_from.result c.word.result.now c.word-journal.result.now c.in_ok-schedule.schedule.now c.inputs_from.ensures.begin c.word.ensures c.word-journal.ensures
    c.in_ok-schedule.ensures.word (sym c.in_ok-schedule.ensures.read) c.requires.some c.requires.few

pub returns-clause-job : goal.returns-clause-job
returns-clause-job c = record {
  run = record {
    inputs = c.inputs_from.ensures.inputs;
    mode = mode_is c.args.words.now 5 6 c.inputs_from.result c.in_ok-schedule.schedule.now refl c.inputs_from.ensures.begin c.in_ok-schedule.ensures.word (sym c.in_ok-schedule.ensures.read);
  };
  scheduled = refl;
}
