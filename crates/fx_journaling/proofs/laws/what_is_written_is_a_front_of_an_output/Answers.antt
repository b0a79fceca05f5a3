use Rattle.fx_journaling.proofs.Fronts.{written_is_front}
use Rattle.fx_journaling.proofs.laws.what_is_written_is_a_front_of_an_output.Goals as goal

pub returns : goal.returns
returns c = written_is_front
