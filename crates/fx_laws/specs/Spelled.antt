-- A printed report spells its commit order and its retries.
use Rattle.std.specs.Prelude.{◌≡◌, List, map}
use Rattle.std.specs.FinMap.{get}
use Rattle.fx_store.specs.Whole.{IsWhole}
use Rattle.fx_spec.specs.Plans.{Turn, IsPlan}
use Rattle.fx_spec.specs.Order.{BaseTree, IsLegal, RetriesOk}
use Rattle.fx_machine.specs.declared.retry.Retry.{Retry}
use Rattle.fx_machine.specs.Tried.{retry_tree}
use Rattle.fx_report.specs.Entries.{report}

-- legal orders of one base with the same report are the same, and so are their retries, where these are good
abbrev pub OrdersAreSpelled : Type 0
OrdersAreSpelled =
    (base : BaseTree) → IsPlan base.plan → IsWhole (get base.loaded) → (o p : List Turn) (r s : List Retry) → IsLegal base o → IsLegal base p
    → RetriesOk base o (map retry_tree r) → RetriesOk base p (map retry_tree s) → report base o r ≡ report base p s → (o ≡ p) × (r ≡ s)
