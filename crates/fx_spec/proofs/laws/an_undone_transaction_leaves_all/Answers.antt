use Rattle.fx_spec.proofs.Tasks.{undone_leaves_all}
use Rattle.fx_spec.proofs.laws.an_undone_transaction_leaves_all.Goals as goal

pub returns : goal.returns
returns c = undone_leaves_all
