-- Where the commands of a transaction have come to, and what it keeps then.
use Rattle.std.specs.Prelude.{◌≡◌, List, [], Result, Ok, Err}
use Rattle.std.specs.Option.{unwrap_or}
use Rattle.fx_store.specs.Rule.{Ask}
use Rattle.fx_spec.specs.declared.refusal.End.{End}
use Rattle.fx_spec.specs.SpecTree.{SpecTree}
use Rattle.fx_spec.specs.CommandTree.{CommandTree}
use Rattle.fx_spec.specs.Transaction.{Flow, flow_end, flow_outputs, transaction}
use Rattle.fx_view.specs.declared.reader.Stop.{Stop}
use Rattle.fx_view.specs.Follows.{GoesBy}
use Rattle.fx_view.specs.Meaning.{Meaning}
use Rattle.fx_view.specs.Own.{AreRead, no_own}
use Rattle.fx_run.specs.declared.pursuing.Ran.{Ran}
use Rattle.fx_run.specs.Pursuing.{Came, pursuit}

-- the whole transaction, as the rule that is pursued
abbrev pub pursued : SpecTree → List CommandTree → Ask (Came Flow)
pursued root t = pursuit [] (transaction root t)

abbrev pub end_of : Ran → End
end_of r = unwrap_or r.over End.Done

-- the transaction has come to this, with its own changes read
pub record HasCome {R : Type 0} (m : Meaning R) (root : SpecTree) (t : List CommandTree) (old new : R) (r : Ran) : Type 0 where
  pub came : Came Flow
  pub goes : GoesBy m (λ (c : Came Flow). c) no_own old new (pursued root t) (Ok came)
  pub own : came.own ≡ r.own
  pub outputs : flow_outputs came.end ≡ r.outputs
  pub end : flow_end came.end ≡ end_of r
  pub read : AreRead r.own (m.reads new)

-- the call pursues the transaction
abbrev pub Pursues : {R : Type 0} → Meaning R → SpecTree → List CommandTree → R → R → Result Ran Stop → Type 0
Pursues m root t old new (Ok ran) = HasCome m root t old new ran
Pursues m root t old new (Err why) = GoesBy {X = Came Flow} m (λ c. c) no_own old new (pursued root t) (Err why)
