-- What a run with views comes to: the output, and the last filestore.
use Rattle.std.specs.Prelude.{◌≡◌, ℕ, List, ◌++◌, map, length}
use Rattle.fx_store.specs.Whole.{Nodes}
use Rattle.fx_outside.specs.Tree.{Tree}
use Rattle.fx_spec.specs.CommandTree.{CommandTree}
use Rattle.fx_spec.specs.Plans.{Turn}
use Rattle.fx_spec.specs.Order.{BaseTree, IsComplete, RetriesOk, state}
use Rattle.fx_machine.specs.declared.retry.Retry.{Retry}
use Rattle.fx_machine.specs.Tried.{retry_tree}
use Rattle.fx_report.specs.declared.printed.View.{View}
use Rattle.fx_report.specs.Entries.{report}
use Rattle.fx_report.specs.Traced.{IsBehindSomeTrace}
use Rattle.fx_report.specs.Views.{views_text}
use Rattle.fx_inputs.specs.Inputs.{HasBase, HasScript}
use Rattle.fx_views.specs.Views.{AreViews}
use Rattle.fx_words.specs.Job.{ViewsJob}

-- a commit order holds every transaction of every script exactly once, each script's in its order; the printed entries and
-- the last filestore are those of these transactions run whole, one after another in that order, on the loaded filestore. Some
-- `trace` prints the same report behind its events.
-- Each view is its transaction of VIEWS, run whole at the state after so many entries of that order as it tells, and these
-- numbers never fall; no view changes anything
pub record IsViewsOutcome (t : Tree) (j : ViewsJob) (nodes : Nodes) (output : List ℕ) : Type 0 where
  pub base : BaseTree
  pub views : List (List CommandTree)
  pub order : List Turn
  pub retries : List Retry
  pub answers : List View
  pub begins : HasBase t j.inputs base
  pub read : HasScript t j.views 0 views
  pub complete : IsComplete base order
  pub tried : RetriesOk base order (map retry_tree retries)
  pub traced : IsBehindSomeTrace base order retries (report base order retries)
  pub viewed : AreViews base views order answers
  pub printed : output ≡ report base order retries ++ views_text answers
  pub last : nodes ≡ state base order (length order)
