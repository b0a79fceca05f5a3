use Rattle.fx_spec.proofs.Transactions.{transactions_keep_whole}
use Rattle.fx_spec.proofs.laws.transactions_keep_a_filestore_whole.Goals as goal

pub returns : goal.returns
returns c = transactions_keep_whole
