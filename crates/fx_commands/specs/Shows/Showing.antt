-- What `show` prints of what it reads.
use Rattle.std.specs.Prelude.{◌≡◌, ℕ, List}
use Rattle.std.specs.FinMap.{get}
use Rattle.fx_store.specs.Whole.{Nodes}
use Rattle.fx_outside.specs.Tree.{Tree}
use Rattle.fx_folder.specs.Loads.{Loads}
use Rattle.fx_spec.specs.SpecTree.{SpecTree}
use Rattle.fx_inputs.specs.Inputs.{HasSpec}
use Rattle.fx_commands.specs.Shows.Shown.{root_value, shown}
use Rattle.fx_words.specs.Job.{Inputs}

-- the output says whether the description has a value at the root of the loaded folder, and which
pub record IsShowing (t : Tree) (inputs : Inputs) (output : List ℕ) : Type 0 where
  pub spec : SpecTree
  pub nodes : Nodes
  pub described : HasSpec t inputs spec
  pub loaded : Loads t inputs.folder nodes
  pub shows : output ≡ shown (root_value (get nodes) spec)
