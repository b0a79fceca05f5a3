use Rattle.fx_laws.proofs.Tried.{refused_tries_leave_all}
use Rattle.fx_laws.proofs.tries.a_refused_try_changes_nothing.Goals as goal

pub returns : goal.returns
returns c = refused_tries_leave_all
