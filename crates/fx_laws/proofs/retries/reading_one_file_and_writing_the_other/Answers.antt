use Rattle.fx_laws.proofs.Retried.{each_reads_and_writes}
use Rattle.fx_laws.proofs.retries.reading_one_file_and_writing_the_other.Goals as goal

pub returns : goal.returns
returns c = each_reads_and_writes
