-- Looks at each changed path but the first, one after another.
use Rattle.std.proofs.Common.{◌≡◌, ℕ, ◌+◌, ◌≤◌, List, ◌∷◌, length, drop, Option, Some, Result, Ok, Err, ap}
use Rattle.std.specs.Prelude.{slice_get, IsErrAnd}
use Rattle.std.proofs.lemmas.List.{drop_all}
use Rattle.fx_base.proofs.Lists.{drop_next}
use Rattle.fx_store.specs.declared.node.Node.{Node}
use Rattle.fx_store.specs.declared.changes.Change.{Change}
use Rattle.fx_store.specs.Changes.{changed_paths}
use Rattle.fx_store.specs.Rule.{look}
use Rattle.fx_view.specs.declared.reader.Stop.{Stop}
use Rattle.fx_view.specs.Meaning.{Meaning}
use Rattle.fx_session.specs.declared.session.Session.{Session}
use Rattle.fx_session.specs.Implements.{Implements}
use Rattle.fx_session.proofs.Courses.{Goes, goes_on, goes_stop, goes_end}
use Rattle.fx_edit.specs.Rules.{looking}

-- so many of the paths are looked at
pub record IsLooking {R L : Type 0} (m : Meaning R) (cs : List Change) (start now : Session R L) (i : ℕ) : Type 0 where
  pub goes : Goes m (λ (u : Unit {0}). u) start now (looking (changed_paths (drop 1 cs))) (looking (changed_paths (drop i cs)))

module _ {R L : Type 0} {m : Meaning R} {cs : List Change} {start : Session R L} where
  pub looking_first : IsLooking m cs start start 1
  looking_first = record { goes = λ new r h. h }

  module _ {now : Session R L} {i : ℕ} (is : IsLooking m cs start now i) where
    opened : (c : Change) → slice_get cs i ≡ Some c → looking (changed_paths (drop i cs)) ≡ looking (changed_paths (c ∷ drop (i + 1) cs))
    opened c here = ap (λ (cs : List Change). looking (changed_paths cs)) (drop_next cs i c here)

    pub looking_next : {c : Change} {new : Session R L} {n : Option Node} → slice_get cs i ≡ Some c → Implements m (λ n. n) now new (look c.path) (Ok n) → IsLooking m cs start new (i + 1)
    looking_next {c = c} here h = record {
      goes = goes_on (looking (changed_paths (drop i cs))) is.goes (look c.path) (λ (n : Option Node). looking (changed_paths (drop (i + 1) cs))) (opened c here) h;
    }

    pub looking_stops : {c : Change} {new : Session R L} {why : Stop} (r : Result (Unit {0}) Stop) → slice_get cs i ≡ Some c → IsErrAnd r (λ d. d ≡ why) → Implements {X = Option Node} m (λ n. n) now new (look c.path) (Err why)
        → Implements m (λ (u : Unit {0}). u) start new (looking (changed_paths (drop 1 cs))) r
    looking_stops {c = c} r here e h =
        goes_stop (looking (changed_paths (drop i cs))) is.goes (look c.path) (λ (n : Option Node). looking (changed_paths (drop (i + 1) cs))) (opened c here) r e h

    pub looking_ends : length cs ≤ i → Implements m (λ (u : Unit {0}). u) start now (looking (changed_paths (drop 1 cs))) (Ok tt)
    looking_ends past = goes_end (looking (changed_paths (drop i cs))) is.goes tt (ap (λ (cs : List Change). looking (changed_paths cs)) (drop_all i cs past))
