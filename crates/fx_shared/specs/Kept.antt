-- The versions of all paths of a log.
use Rattle.std.specs.Prelude.{◌≡◌, ℕ, ◌<◌, ◌≤◌, List, length, All}
use Rattle.std.specs.FinMap.{get}
use Rattle.fx_board.specs.Board.{state_at}
use Rattle.fx_board.specs.Log.{Log}
use Rattle.fx_shared.specs.declared.versions.Version.{Version}
use Rattle.fx_shared.specs.Versions.{AreAscending, version_at}
use Rattle.fx_shared.specs.Tables.{VersionTable, versions_in}

-- after each number of entries there stands at each path what the last version before has left
pub record HasVersions (log : Log) (table : VersionTable) : Type 0 where
  pub at : (path : List (List ℕ)) (i : ℕ) → i ≤ length log.order → get (state_at log i) path ≡ version_at (get log.base.loaded path) (versions_in table path) i
  pub below : (path : List (List ℕ)) → All (λ (v : Version). v.entry < length log.order) (versions_in table path)
  pub ascend : (path : List (List ℕ)) → AreAscending (versions_in table path)
