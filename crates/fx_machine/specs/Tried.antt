-- The conflicts of a run as retries, by shell.
use Rattle.std.specs.Prelude.{ℕ, suc, cond, nat_eq, List, [], ◌∷◌, length}
use Rattle.std.specs.List.{flat_map}
use Rattle.fx_spec.specs.Order.{BaseTree, RetryTree, first_numbers}
use Rattle.fx_machine.specs.declared.event.Event.{Event}
use Rattle.fx_machine.specs.declared.event.Event.TheVariants as event
use Rattle.fx_machine.specs.declared.retry.Retry.{Retry}

-- what a retry says, for the definition of good retries
abbrev pub retry_tree : Retry → RetryTree
retry_tree r = record { shell = r.shell; txn = r.txn; entry = r.entry; path = r.path }

-- the conflicts of one shell among the events, where so many of its transactions are settled before them
abbrev pub conflicts_of : ℕ → ℕ → List Event → List Retry
conflicts_of shell txn [] = []
conflicts_of shell txn (event.Look k path position ∷ events) = conflicts_of shell txn events
conflicts_of shell txn (event.Settled k entry ∷ events) = conflicts_of shell (cond (nat_eq k shell) (suc txn) txn) events
conflicts_of shell txn (event.Conflict k entry path ∷ events) =
    let retry : Retry = record { shell = k; txn = txn; entry = entry; path = path } in
    cond (nat_eq k shell) (retry ∷ conflicts_of shell txn events) (conflicts_of shell txn events)

abbrev pub retries_of : BaseTree → List Event → List Retry
retries_of base events = flat_map (λ shell. conflicts_of shell 0 events) (first_numbers (length base.plan))
