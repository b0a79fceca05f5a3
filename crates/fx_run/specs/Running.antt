-- What the engine needs of a reader and says of it.
use Rattle.std.specs.Prelude.{◌≡◌, ℕ, false, List, [], ◌++◌, None, ◌∷◌}
use Rattle.fx_spec.specs.Plans.{Turn}
use Rattle.fx_spec.specs.Order.{BaseTree}
use Rattle.fx_view.specs.declared.reader.Stop.{Stop}
use Rattle.fx_view.specs.declared.reader.Stop.TheVariants as stop
use Rattle.fx_view.specs.Meaning.{Meaning}
use Rattle.fx_view.specs.ReadList.{ReadList}
use Rattle.fx_view.specs.Reads.{read_at}
use Rattle.fx_machine.specs.declared.attempt.Attempt.{Attempt}
use Rattle.fx_machine.specs.Needs.{ReadsFit, IsNeeded}

-- the attempt is of the transaction asked for, and holds the reads that the reader had at the end: its earlier ones are among
-- them, the reader has none any more, and it vouches for them
pub record IsAttemptOf {R : Type 0} (m : Meaning R) (old new : R) (shell txn : ℕ) (a : Attempt) : Type 0 where
  pub whose : a.shell ≡ shell
  pub number : a.txn ≡ txn
  pub more : ReadList
  pub kept : a.reads ≡ m.reads old ++ more
  pub none : m.reads new ≡ []
  pub same : m.complete new ≡ m.complete old
  pub vouched : (start : R) → m.vouches start old (m.reads old) → m.vouches start new a.reads

-- the reader keeps its reads and vouches for those that it has then
pub record KeepsOn {R : Type 0} (m : Meaning R) (old new : R) : Type 0 where
  pub more : ReadList
  pub kept : m.reads new ≡ m.reads old ++ more
  pub same : m.complete new ≡ m.complete old
  pub vouched : (start : R) → m.vouches start old (m.reads old) → m.vouches start new (m.reads new)

-- the reader is not complete, and lacks the path that comes next; with that path read, whatever stands there, the reads fit
-- the transaction again
pub record Lacks {R : Type 0} (m : Meaning R) (base : BaseTree) (turn : Turn) (old new : R) (path : List (List ℕ)) : Type 0 where
  pub incomplete : m.complete old ≡ false
  pub unread : read_at (m.reads new) path ≡ None
  pub next : IsNeeded base turn (m.reads new) path
  pub fit : (node : _) (position : ℕ) → ReadsFit base turn (m.reads new ++ (path, (node, position)) ∷ [])

abbrev pub StoppedAt : {R : Type 0} → Meaning R → BaseTree → Turn → R → R → Stop → Type 0
StoppedAt m base turn old new (stop.Needs path) = KeepsOn m old new × Lacks m base turn old new path
StoppedAt m base turn old new stop.NoMemory = KeepsOn m old new
