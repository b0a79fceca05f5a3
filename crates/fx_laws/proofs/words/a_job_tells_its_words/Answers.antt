use Rattle.fx_laws.proofs.Worded.{jobs_tell_their_words}
use Rattle.fx_laws.proofs.words.a_job_tells_its_words.Goals as goal

pub returns : goal.returns
returns c = jobs_tell_their_words
