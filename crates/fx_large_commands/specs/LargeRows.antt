-- What `large` makes of its words, a number and OUT: the last filestore of a run of the number's case, and its summary.
use Rattle.std.specs.Prelude.{◌≡◌, ℕ, List, length}
use Rattle.fx_store.specs.Whole.{Nodes}
use Rattle.fx_spec.specs.Order.{BaseTree, IsComplete, state}
use Rattle.fx_spec.specs.Plans.{Turn}
use Rattle.fx_command.specs.Table.{Making, leaving_folder}
use Rattle.fx_large_commands.specs.Base.{IsCaseBase}
use Rattle.fx_large_commands.specs.Summary.{summary}

-- the filestore after all transactions of some complete order, and the summary of that order
pub record IsLargeOutcome (number : ℕ) (nodes : Nodes) (output : List ℕ) : Type 0 where
  pub base : BaseTree
  pub order : List Turn
  pub begins : IsCaseBase number base
  pub complete : IsComplete base order
  pub last : nodes ≡ state base order (length order)
  pub printed : output ≡ summary base order

abbrev pub large_making : ℕ → List ℕ → Making (Nodes × List ℕ)
large_making number out = leaving_folder out (λ t nodes output. IsLargeOutcome number nodes output)
