use Rattle.fx_laws.proofs.Written.{written_is_read}
use Rattle.fx_laws.proofs.hosts.what_is_written_is_read.Goals as goal

pub returns : goal.returns
returns c = written_is_read
