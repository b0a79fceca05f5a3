use Rattle.fx_store.proofs.Asks.{followed}
use Rattle.fx_store.proofs.laws.following_a_rule_finds_its_answer.Goals as goal

pub returns : goal.returns
returns g c = followed
