use Rattle.fx_audit.proofs.Answering.{answer_settled}
use Rattle.fx_audit.proofs.answers.is_answered.Goals as goal

pub returns-clause-answer : goal.returns-clause-answer
returns-clause-answer c = answer_settled c.args.board.now c.enter.new.board c.len-i.result c.args.told.now c.tells.result c.in_ok-enter.ensures c.len-i.ensures.len c.tells.ensures
