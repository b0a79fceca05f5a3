-- What is found of a text that is read ahead of those that it follows.
use Rattle.std.specs.Prelude.{◌≡◌, ℕ, List, length}
use Rattle.fx_spec.specs.CommandTree.{CommandTree}
use Rattle.fx_spec.specs.WellShaped.{IsScript}
use Rattle.fx_command.specs.Scripted.{Scripts}
use Rattle.fx_command.specs.declared.source.Alone.{Alone}

-- the one script of the text that follows no other, and its number of transactions
pub record IsAlone (text : List ℕ) (alone : Alone) : Type 0 where
  pub read : Scripts text 0 alone.script
  pub only : (others : List (List CommandTree)) → Scripts text 0 others → others ≡ alone.script
  pub shaped : IsScript alone.script
  pub count : alone.count ≡ length alone.script
