-- The base of a number: the description and the transactions for which its texts stand, and its filestore.
use Rattle.std.specs.Prelude.{◌≡◌, ℕ, ◌*◌, ◌<◌, List, map, length}
use Rattle.std.specs.List.{range_with_len, sum_by}
use Rattle.fx_spec.specs.CommandTree.{CommandTree}
use Rattle.fx_spec.specs.Plans.{IsPlan, script_of}
use Rattle.fx_spec.specs.Order.{BaseTree, IsComplete}
use Rattle.fx_board.specs.Log.{Log}
use Rattle.fx_gen.specs.Notes.{nodes}
use Rattle.fx_gen.specs.Scripts.{description, generated_script, generated_scripts}
use Rattle.fx_gen.specs.Trees.{description_tree, script_tree}
use Rattle.fx_command.specs.Described.{Describes}
use Rattle.fx_command.specs.Scripted.{Scripts}

-- the texts of the number's case stand for this base, which begins with its filestore
pub record IsCaseBase (number : ℕ) (base : BaseTree) : Type 0 where
  pub spec : Describes description base.description
  pub count : length base.plan ≡ 8
  pub scripts : (k : ℕ) → k < 8 → Scripts (generated_script number k) (200 * k) (script_of base.plan k)
  pub loaded : base.loaded ≡ nodes number

-- the first n scripts
unfoldable pub plan_to : ℕ → ℕ → List (List (List CommandTree))
plan_to number n = map (script_tree number) (range_with_len 0 n)

abbrev pub generated_base : ℕ → BaseTree
generated_base number = record { description = description_tree; plan = plan_to number 8; loaded = nodes number }

-- these are the texts of some number's scripts
abbrev pub AreGenerated : List (List ℕ) → Type 0
AreGenerated texts = (number : ℕ) × (texts ≡ generated_scripts number)

-- whatever the number of which these are the scripts, the plan is its plan
abbrev pub IsPlanOf : List (List ℕ) → ℕ → List (List (List CommandTree)) → Type 0
IsPlanOf texts n plan = (number : ℕ) → texts ≡ generated_scripts number → plan ≡ plan_to number n

-- the scripts before number k are in the plan
pub record IsReading (texts : List (List ℕ)) (k : ℕ) (plan : List (List (List CommandTree))) : Type 0 where
  pub planned : IsPlan plan
  pub count : length plan ≡ k
  pub sum : sum_by length plan ≡ 200 * k
  pub is : IsPlanOf texts k plan

-- the log of a whole run of the base
pub record IsRunOf (number : ℕ) (log : Log) : Type 0 where
  pub base : log.base ≡ generated_base number
  pub complete : IsComplete log.base log.order
