-- What a reader means.
use Rattle.std.specs.Prelude.{Bool}
use Rattle.fx_view.specs.ReadList.{ReadList}

-- what it has read, whether every path can be read, and what it vouches for: how reads stand to the reader as it was at some
-- start and as it is now
pub record Meaning (R : Type 0) : Type 1 where
  pub reads : R → ReadList
  pub complete : R → Bool
  pub vouches : R → R → ReadList → Type 0
