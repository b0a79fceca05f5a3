-- What a run with views has come to between its stages.
use Rattle.std.specs.Prelude.{◌≡◌, ◌++◌, ℕ, List, map, length}
use Rattle.fx_store.specs.Whole.{Nodes}
use Rattle.fx_spec.specs.CommandTree.{CommandTree}
use Rattle.fx_spec.specs.Plans.{Turn}
use Rattle.fx_spec.specs.Order.{BaseTree, IsComplete, RetriesOk, state}
use Rattle.fx_machine.specs.declared.retry.Retry.{Retry}
use Rattle.fx_machine.specs.Tried.{retry_tree}
use Rattle.fx_board.specs.Board.{last_state}
use Rattle.fx_report.specs.declared.printed.View.{View}
use Rattle.fx_report.specs.Entries.{report}
use Rattle.fx_report.specs.Traced.{IsBehindSomeTrace}
use Rattle.fx_report.specs.Views.{views_text}
use Rattle.fx_views.specs.Views.{AreViews}
use Rattle.fx_views_command.specs.declared.viewing.Answer.{Answer}

-- a whole run from a base on, and the views beside it: the output, and the last filestore
pub record IsViewsRunFrom (base : BaseTree) (views : List (List CommandTree)) (nodes : Nodes) (output : List ℕ) : Type 0 where
  pub order : List Turn
  pub retries : List Retry
  pub answers : List View
  pub complete : IsComplete base order
  pub tried : RetriesOk base order (map retry_tree retries)
  pub traced : IsBehindSomeTrace base order retries (report base order retries)
  pub viewed : AreViews base views order answers
  pub printed : output ≡ report base order retries ++ views_text answers
  pub last : nodes ≡ state base order (length order)

-- the last filestore of a run
abbrev pub last_of_views : Answer → Nodes
last_of_views a = last_state a.log
