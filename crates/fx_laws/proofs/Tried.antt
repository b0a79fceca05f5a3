-- A refused `try` sets nothing.
use Rattle.std.proofs.Common.{ap, ◌∙◌}
use Rattle.fx_spec.specs.Task.{result, after}
use Rattle.fx_spec.specs.Transaction.{effect, tried}
use Rattle.fx_laws.specs.Tried.{RefusedTriesLeaveAll}
use Rattle.fx_laws.proofs.Stored.{after-asking, result-asking}

pub refused_tries_leave_all : RefusedTriesLeaveAll
refused_tries_leave_all root S i x a s refusal refused = record {
  same = after-asking S (effect root s.address s.vars a) (tried s x) ∙ ap (λ o. after S (tried s x o)) refused;
  number = result-asking S (effect root s.address s.vars a) (tried s x) ∙ ap (λ o. result S (tried s x o)) refused;
}
