-- Which retry may stand behind another one, one by one.
use Rattle.std.specs.Prelude.{◌≢◌, ◌≡◌, ℕ, List, Option, Some, None, slice_get, option_map}
use Rattle.std.specs.Borrow.{Bor}
use Rattle.fx_spec.specs.Plans.{Turn}
use Rattle.fx_spec.specs.Order.{BaseTree, Changes, IsRetry, Precedes, RetryTree}
use Rattle.fx_machine.specs.declared.retry.Retry.{Retry}
use Rattle.fx_machine.specs.Tried.{retry_tree}

-- the entry is another shell's, and changes the path
pub record IsCause (base : BaseTree) (o : List Turn) (r : RetryTree) : Type 0 where
  pub other : (shell : ℕ) × (txn : ℕ) × (slice_get o r.entry ≡ Some (shell, txn)) × (shell ≢ r.shell)
  pub changed : Changes base o r.entry r.path

abbrev pub last_tree : Option (Bor Retry) → Option RetryTree
last_tree last = option_map (λ (r : Bor Retry). retry_tree r.now) last

abbrev pub MayFollow : Option RetryTree → RetryTree → Type 0
MayFollow None r = Unit {0}
MayFollow (Some last) r = Precedes last r

pub record IsNextRetry (base : BaseTree) (o : List Turn) (last : Option RetryTree) (r : RetryTree) : Type 0 where
  pub follows : MayFollow last r
  pub retry : IsRetry base o r
