-- What a transaction comes to as an attempt.
use Rattle.std.specs.Prelude.{◌≡◌, ℕ, List, [], ◌++◌, All, Contains, Result, Ok, Err}
use Rattle.std.specs.Map.{keys_of}
use Rattle.fx_store.specs.Rule.{follow, Found}
use Rattle.fx_spec.specs.SpecTree.{SpecTree}
use Rattle.fx_spec.specs.CommandTree.{CommandTree}
use Rattle.fx_spec.specs.Transaction.{Flow, flow_end, flow_outputs}
use Rattle.fx_view.specs.declared.reader.Stop.{Stop}
use Rattle.fx_view.specs.Follows.{GoesBy, InOrder, walked}
use Rattle.fx_view.specs.Meaning.{Meaning}
use Rattle.fx_view.specs.ReadList.{ReadList}
use Rattle.fx_view.specs.Own.{AreRead, no_own}
use Rattle.fx_view.specs.Reads.{known_of}
use Rattle.fx_machine.specs.declared.attempt.Attempt.{Attempt}
use Rattle.fx_run.specs.declared.finishing.Finished.{Finished}
use Rattle.fx_run.specs.declared.pursuing.Ran.{Ran}
use Rattle.fx_run.specs.Pursuing.{Came}
use Rattle.fx_run.specs.Course.{pursued, end_of}
use Rattle.fx_run.specs.Keeping.{AreKept}

-- the changes that the transaction keeps, its outputs and its end
pub record IsFinished (r : Ran) (reads : ReadList) (f : Finished) : Type 0 where
  pub kept : AreKept (end_of r) r.own reads f.changes
  pub outputs : f.outputs ≡ r.outputs
  pub end : f.end ≡ end_of r

-- the attempt holds the reads at the end, which are those of before and some that were walked, in order; its own changes were read
pub record IsAttempt {R : Type 0} (m : Meaning R) (root : SpecTree) (t : List CommandTree) (shell txn : ℕ) (old new : R) (a : Attempt) : Type 0 where
  pub whose : a.shell ≡ shell
  pub number : a.txn ≡ txn
  pub came : Came Flow
  pub found : follow (known_of a.reads) no_own (pursued root t) ≡ Found came
  pub more : ReadList
  pub kept : a.reads ≡ m.reads old ++ more
  pub order : InOrder (m.reads old) more (walked (known_of a.reads) no_own (pursued root t))
  pub walked : All (Contains (walked (known_of a.reads) no_own (pursued root t))) (keys_of more)
  pub read : AreRead came.own a.reads
  pub changes : AreKept (flow_end came.end) came.own a.reads a.changes
  pub outputs : a.outputs ≡ flow_outputs came.end
  pub end : a.end ≡ flow_end came.end
  pub none : m.reads new ≡ []
  pub same : m.complete new ≡ m.complete old
  pub vouched : (start : R) → m.vouches start old (m.reads old) → m.vouches start new a.reads

-- the transaction was pursued to an attempt, or up to a stop
abbrev pub Finishes : {R : Type 0} → Meaning R → SpecTree → List CommandTree → ℕ → ℕ → R → R → Result Attempt Stop → Type 0
Finishes m root t shell txn old new (Ok a) = IsAttempt m root t shell txn old new a
Finishes m root t shell txn old new (Err why) = GoesBy {X = Came Flow} m (λ c. c) no_own old new (pursued root t) (Err why)
