-- For what the texts of paths and of links are refused.
use Rattle.std.specs.Prelude.{◌≢◌, ℕ, List, Err}
use Rattle.fx_store.specs.declared.name.PathFault.TheVariants.{NoMemory}
use Rattle.fx_store.specs.Faults.{extended, read_link}

-- a path's text and a link's text are refused as bad or as too deep, and never for want of memory
pub record TextsWantNoMemory : Type 0 where
  pub paths : (path : List (List ℕ)) (text : List ℕ) → extended path text ≢ Err NoMemory
  pub links : (text : List ℕ) → read_link text ≢ Err NoMemory
