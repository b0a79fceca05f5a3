-- What a call says that makes an edit.
use Rattle.std.specs.Prelude.{◌≡◌, ℕ, List, [], IfOk, IfSome, IsSome, slice_get, Result, Ok, Err}
use Rattle.fx_store.specs.declared.changes.Change.{Change}
use Rattle.fx_store.specs.Rule.{Ask, changed}
use Rattle.fx_store.specs.Whole.{Store, IsWhole}
use Rattle.fx_spec.specs.Move.{Answered}
use Rattle.fx_session.specs.declared.halt.Halt.{Halt}
use Rattle.fx_session.specs.declared.halt.Halt.TheVariants as halt
use Rattle.fx_session.specs.declared.session.Session.{Session}
use Rattle.fx_session.specs.Halts.{parted}
use Rattle.fx_session.specs.Implements.{Implements}
use Rattle.fx_view.specs.Meaning.{Meaning}
use Rattle.fx_view.specs.Own.{own_at, put_all, AreRead}
use Rattle.fx_view.specs.OwnList.{OwnList}
use Rattle.fx_view.specs.ReadList.{ReadList}
use Rattle.fx_view.specs.Reads.{Agrees}

-- the session with other own changes
abbrev pub under : {R L : Type 0} → OwnList → Session R L → Session R L
under own s = record { alloc = s.alloc; reader = s.reader; own = own; steps = s.steps }

-- the changes that the rule answers are set on top of the own ones; where it refuses, these are as before. The rule is followed
-- under the own changes from before.
abbrev pub IsMade : {R L : Type 0} → Meaning R → Session R L → Session R L → Ask (Answered (List Change)) → Result (Unit {0}) Halt → Type 0
IsMade m old new rule (Ok u) =
    (changes : List Change) × (Implements {X = Unit {0}} m (λ u. Ok changes) old (under old.own new) rule (Ok tt)) × (new.own ≡ put_all old.own changes)
IsMade m old new rule (Err (halt.Refused refusal)) =
    (Implements {X = Unit {0}} m (λ u. Err refusal) old (under old.own new) rule (Ok tt)) × (new.own ≡ old.own)
IsMade m old new rule (Err (halt.Stopped why)) =
    Implements {X = Unit {0}} m (λ u. Ok []) old (under old.own new) rule (Err why)

-- the call makes the edit of this rule
pub record Edits {R L : Type 0} (m : Meaning R) (old new : Session R L) (rule : Ask (Answered (List Change))) (result : Result (Unit {0}) Halt) : Type 0 where
  pub made : IsMade m old new rule result
  -- where each path of the own changes was read, each is, unless the call stops
  pub read : AreRead old.own (m.reads old.reader.now) → IfOk (parted result) (λ _. AreRead new.own (m.reads new.reader.now))
  -- a filestore that agrees with the reads and is whole with the own changes on top stays so, unless the call stops
  pub whole : (S : Store) → Agrees (m.reads new.reader.now) S → IsWhole (changed (own_at old.own) S) → IfOk (parted result) (λ _. IsWhole (changed (own_at new.own) S))
  -- the same reader stays lent
  pub lent : new.reader.ghost_name ≡ old.reader.ghost_name

-- the answer without the number of reads
abbrev pub done : Result ℕ Halt → Result (Unit {0}) Halt
done (Ok n) = Ok tt
done (Err e) = Err e

-- the read that comes after so many is at a path with an own change, if there is one
abbrev pub IsNextSet : ReadList → OwnList → ℕ → Type 0
IsNextSet reads own n = IfSome (slice_get reads n) (λ read. IsSome (own_at own read.0))
