use Rattle.fx_laws.proofs.Scripted.{numbers_fault}
use Rattle.fx_laws.proofs.scripts.faulting_at_numbers.Goals as goal

pub returns : goal.returns
returns c = numbers_fault
