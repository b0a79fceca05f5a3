-- What follows from a rule that was followed through a session, and calls that answer what is found over what is known.
use Rattle.fx_zip.proofs.Prelude.{◌≡◌, List, ◌++◌, Result, Ok, Err, refl, sym, ap, ◌∙◌, subst, arith, Ask, Found, Store, Bindings, Address, SpecTree}
use Rattle.fx_zip.proofs.Prelude.{Stop, Meaning, own_at, OwnList, ReadList, known_of, Agrees, Session, Implements, Frame, SaysFound, AreFound, IsFresh, Stands, IsFreshIn, StandsIn}
use Rattle.fx_zip.proofs.Prelude.{ZipTree}
use Rattle.fx_view.specs.declared.reader.Stop.TheVariants as stop
use Rattle.fx_view.specs.Follows.{GoesBy, walked}
use Rattle.fx_view.proofs.Calls.{agrees_by, went_by}
use Rattle.fx_view.proofs.Going.{Went-none}
use Rattle.fx_zip.proofs.Standing.{found_grows, stands_grows, fresh_grows}

module _ {R L : Type 0} {m : Meaning R} where
  module _ {A X : Type 0} {view : X → A} {old new : Session R L} {rule : Ask A} where
    -- ---- what was known stays known, and the own changes are as before

    module _ {r : Result X Stop} (h : Implements m view old new rule r) where
      pub grows : (more : ReadList) × (m.reads new.reader.now ≡ m.reads old.reader.now ++ more)
      grows = let went = went_by m view (own_at old.own) old.reader.now new.reader.now rule r h.follows.goes in (went.more, went.kept)

      pub agrees_on : (S : Store) → Agrees (m.reads new.reader.now) S → Agrees (m.reads old.reader.now) S
      agrees_on S agrees = agrees_by m view (own_at old.own) old.reader.now new.reader.now rule r h.follows.goes S agrees

      pub frames_on : (root : SpecTree) (a : Address) (fs : List Frame) (env : Bindings) → AreFound (m.reads old.reader.now) (own_at old.own) root a fs env → AreFound (m.reads new.reader.now) (own_at new.own) root a fs env
      frames_on root a fs env found =
          subst (λ (own : OwnList). AreFound (m.reads new.reader.now) (own_at own) root a fs env) (sym h.own)
          (found_grows (m.reads old.reader.now) (own_at old.own) root (m.reads new.reader.now) grows a fs env found)

      pub stands_on : (z : ZipTree) → StandsIn m old z → StandsIn m new z
      stands_on z stands =
          subst (λ (own : OwnList). Stands (m.reads new.reader.now) (own_at own) z) (sym h.own)
          (stands_grows (m.reads old.reader.now) (own_at old.own) z (m.reads new.reader.now) grows stands)

      pub fresh_on : (z : ZipTree) → IsFreshIn m old z → IsFreshIn m new z
      fresh_on z fresh =
          subst (λ (own : OwnList). IsFresh (m.reads new.reader.now) (own_at own) z) (sym h.own)
          (fresh_grows (m.reads old.reader.now) (own_at old.own) z (m.reads new.reader.now) grows fresh)

    -- ---- the answer, seen in another way

    module _ {Y : Type 0} {then_view : Y → A} where
      pub answers_as : {x : X} {y : Y} → view x ≡ then_view y → Implements m view old new rule (Ok x) → Implements m then_view old new rule (Ok y)
      answers_as e h = record { own = h.own; follows = record { goes = (h.follows.goes.0 ∙ ap (λ a. Found a) e, h.follows.goes.1); most = h.follows.most }; lent = h.lent }

      pub stops_as : (why : Stop) → Implements m view old new rule (Err why) → Implements {A = A} {X = Y} m then_view old new rule (Err why)
      stops_as stop.NoMemory h = record { own = h.own; follows = record { goes = h.follows.goes; most = h.follows.most }; lent = h.lent }
      stops_as (stop.Needs p) h = record { own = h.own; follows = record { goes = h.follows.goes; most = h.follows.most }; lent = h.lent }

      -- and then memory is refused
      pub memory_after : {r : Result X Stop} → Implements m view old new rule r → Implements {A = A} {X = Y} m then_view old new rule (Err stop.NoMemory)
      memory_after {r = r} h = record {
        own = h.own;
        follows = record { goes = went_by m view (own_at old.own) old.reader.now new.reader.now rule r h.follows.goes; most = h.follows.most };
        lent = h.lent;
      }

-- ---- calls that consult nothing

module _ {R L A X : Type 0} (m : Meaning R) (view : X → A) (s : Session R L) (rule : Ask A) where
  goes_found : (r : Result X Stop) → SaysFound (known_of (m.reads s.reader.now)) (own_at s.own) view rule r → GoesBy m view (own_at s.own) s.reader.now s.reader.now rule r
  goes_found (Ok x) h = (h, Went-none m s.reader.now (walked (known_of (m.reads s.reader.now)) (own_at s.own) rule))
  goes_found (Err stop.NoMemory) h = Went-none m s.reader.now (walked (known_of (m.reads s.reader.now)) (own_at s.own) rule)
  goes_found (Err (stop.Needs p)) h = absurd h

module _ {R L A X : Type 0} {m : Meaning R} {view : X → A} {old : Session R L} {rule : Ask A} (r : Result X Stop) where
  pub found_on : SaysFound (known_of (m.reads old.reader.now)) (own_at old.own) view rule r → Implements m view old old rule r
  found_on h = record { own = refl; follows = record { goes = goes_found m view old rule r h; most = λ S agrees. omega arith }; lent = refl }
