-- Calls that go by a rule, and what they say of a rule that changes its answer.
use Rattle.std.proofs.Common.{Result, Ok, Err, refl, subst, sym}
use Rattle.std.specs.Prelude.{IfOk}
use Rattle.fx_store.specs.Rule.{Known, Ask, Answer, ◌>>=◌}
use Rattle.fx_view.specs.declared.reader.Stop.{Stop}
use Rattle.fx_view.specs.declared.reader.Stop.TheVariants as stop
use Rattle.fx_view.specs.Follows.{GoesBy}
use Rattle.fx_view.specs.Meaning.{Meaning}
use Rattle.fx_view.specs.Own.{AreRead, own_at}
use Rattle.fx_view.specs.OwnList.{OwnList}
use Rattle.fx_view.proofs.Calls.{went_by}
use Rattle.fx_view.proofs.Owning.{read_more}
use Rattle.fx_view.proofs.Rulings.{by_then_answer, by_stop}
use Rattle.fx_session.specs.declared.halt.Halt.{Halt}
use Rattle.fx_session.specs.declared.halt.Halt.TheVariants as halt
use Rattle.fx_session.specs.declared.session.Session.{Session}
use Rattle.fx_session.specs.Halts.{split, parted}
use Rattle.fx_session.specs.Implements.{Implements}
use Rattle.fx_zip.specs.Fresh.{IsFresh, IsFreshIn}
use Rattle.fx_zip.specs.Trees.{ZipTree}
use Rattle.fx_zip.proofs.Standing.{fresh_grows}

-- what holds of a call however its answer is told apart
pub parted_as : (r : Result (Unit {0}) Halt) (P : Type 0) → IfOk (split r) (λ _. P) → IfOk (parted r) (λ _. P)
parted_as (Ok u) P h = h
parted_as (Err (halt.Refused refusal)) P h = h
parted_as (Err (halt.Stopped why)) P h = tt

pub parted_always : (r : Result (Unit {0}) Halt) (P : Type 0) → P → IfOk (parted r) (λ _. P)
parted_always (Ok u) P h = h
parted_always (Err (halt.Refused refusal)) P h = h
parted_always (Err (halt.Stopped why)) P h = tt

module _ {R A X : Type 0} (m : Meaning R) (view : X → A) (own : Known) (old new : R) (rule : Ask A) where
  -- the answer, changed
  goes_mapped : {B : Type 0} (f : A → B) (r : Result X Stop) → GoesBy m view own old new rule r → GoesBy m (λ x. f (view x)) own old new (rule >>= λ a. Answer (f a)) r
  goes_mapped f (Ok x) h = by_then_answer m view (λ x. f (view x)) own old new rule (λ a. Answer (f a)) x x h refl
  goes_mapped f (Err why) h = by_stop m view (λ x. f (view x)) own old new rule (λ a. Answer (f a)) why h

  -- a stop, of a call that would answer something else
  pub stop_as : {Y : Type 0} (then_view : Y → A) (why : Stop) → GoesBy {A = A} {X = X} m view own old new rule (Err why) → GoesBy {A = A} {X = Y} m then_view own old new rule (Err why)
  stop_as then_view (stop.Needs p) h = h
  stop_as then_view stop.NoMemory h = h

-- ---- a call that implements a rule

module _ {R L A X : Type 0} {m : Meaning R} {view : X → A} {old new : Session R L} {rule : Ask A} {r : Result X Stop} (h : Implements m view old new rule r) where
  -- the answer, changed
  pub mapped : {B : Type 0} (f : A → B) → GoesBy m (λ x. f (view x)) (own_at old.own) old.reader.now new.reader.now (rule >>= λ a. Answer (f a)) r
  mapped f = goes_mapped m view (own_at old.own) old.reader.now new.reader.now rule f r h.follows.goes

  -- the reader has gone on
  pub read_with : AreRead old.own (m.reads old.reader.now) → AreRead new.own (m.reads new.reader.now)
  read_with read =
      let went = went_by m view (own_at old.own) old.reader.now new.reader.now rule r h.follows.goes in
      subst (λ (own : OwnList). AreRead own (m.reads new.reader.now)) (sym h.own) (read_more old.own (m.reads old.reader.now) (m.reads new.reader.now) went.more went.kept read)

  pub fresh_with : (z : ZipTree) → IsFreshIn m old z → IsFresh (m.reads new.reader.now) (own_at old.own) z
  fresh_with z fresh =
      let went = went_by m view (own_at old.own) old.reader.now new.reader.now rule r h.follows.goes in
      fresh_grows (m.reads old.reader.now) (own_at old.own) z (m.reads new.reader.now) (went.more, went.kept) fresh
