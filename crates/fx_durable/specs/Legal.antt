-- A journal whose order is legal.
use Rattle.std.specs.Prelude.{ℕ, List}
use Rattle.fx_spec.specs.Plans.{Turn}
use Rattle.fx_spec.specs.Order.{BaseTree, IsLegal}
use Rattle.fx_durable.specs.Journal.{Spells}

-- the image spells this order, which is legal
pub record SpellsLegal (base : BaseTree) (order : List Turn) (image : List ℕ) : Type 0 where
  pub spells : Spells order image
  pub legal : IsLegal base order
