-- A run on threads is some trace.
use Rattle.std.proofs.Common.{◌≡◌, List, ◌++◌, ℕ, ap}
use Rattle.fx_spec.specs.Plans.{Turn}
use Rattle.fx_spec.specs.Order.{BaseTree}
use Rattle.fx_machine.specs.declared.retry.Retry.{Retry}
use Rattle.fx_diaries.specs.Runs.{IsOfSomeRun}
use Rattle.fx_report.specs.Entries.{report}
use Rattle.fx_report.specs.Events.{lines}
use Rattle.fx_report.specs.Traced.{IsBehindSomeTrace}

pub behind_some_trace : (base : BaseTree) (order : List Turn) (retries : List Retry) (output : List ℕ) → IsOfSomeRun base order retries → output ≡ report base order retries → IsBehindSomeTrace base order retries output
behind_some_trace base order retries output ran is = (
  ran.schedule,
  lines ran.events,
  ran.shells,
  record { events = ran.events; run = ran.run; turns = ran.turns; named = ran.named; conflicts = ran.conflicts; printed = ap (λ text. lines ran.events ++ text) is },
)
