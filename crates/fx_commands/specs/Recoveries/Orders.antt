-- Legal orders by counts of each shell's transactions.
use Rattle.std.specs.Prelude.{◌≡◌, ℕ, Bool, true, false, List, [], ◌∷◌, ◌++◌, length, slice_index_or}
use Rattle.fx_spec.specs.Plans.{Turn}
use Rattle.fx_spec.specs.Order.{BaseTree, IsLegal}
use Rattle.fx_machine.specs.Machine.{next_number}
use Rattle.fx_audit.specs.Legal.{IsNextIn}

-- the order is legal, and these are the numbers of its transactions by shell
pub record AreCounts (base : BaseTree) (o : List Turn) (counts : List ℕ) : Type 0 where
  pub shells : length counts ≡ length base.plan
  pub legal : IsLegal base o
  pub each : (shell : ℕ) → slice_index_or counts shell 0 ≡ next_number o shell

-- the transaction is counted, where it comes next in the order
abbrev pub CountsNext : BaseTree → List Turn → Turn → List ℕ → Bool → Type 0
CountsNext base o turn counts true = AreCounts base (o ++ turn ∷ []) counts
CountsNext base o turn counts false = IsNextIn base o turn → ⊥
