-- Entries that are changed one after another.
use Rattle.std.proofs.Common.{◌≡◌, ℕ, List, [], ◌∷◌, Result, Ok, Err, ap, ◌∙◌}
use Rattle.std.specs.Prelude.{IsErrAnd}
use Rattle.fx_store.specs.declared.changes.Change.{Change}
use Rattle.fx_store.specs.Rule.{Ask, ◌>>=◌}
use Rattle.fx_spec.specs.Edit.{entries}
use Rattle.fx_view.specs.declared.reader.Stop.{Stop}
use Rattle.fx_view.specs.Meaning.{Meaning}
use Rattle.fx_session.specs.declared.session.Session.{Session}
use Rattle.fx_session.specs.Implements.{Implements}
use Rattle.fx_session.proofs.Courses.{Goes, goes_on, goes_stop, goes_end}
use Rattle.fx_edit.specs.Rules.{adding}
use Rattle.fx_edit.proofs.Addings.{adding-entries, adding-none}

-- these names are left: what adds the changes of their entries now adds those of all at the start
pub record IsChanging {R L : Type 0} (m : Meaning R) (change : List ℕ → Ask (List Change)) (names : List (List ℕ)) (start now : Session R L) (begun so_far : List Change) (left : List (List ℕ)) : Type 0 where
  pub goes : (final : List Change) → Goes m (λ (u : Unit {0}). final) start now (adding begun (entries change names)) (adding so_far (entries change left))

abbrev rest : (List ℕ → Ask (List Change)) → List (List ℕ) → List Change → Ask (List Change)
rest change left cs = adding cs (entries change left)

module _ {R L : Type 0} {m : Meaning R} {change : List ℕ → Ask (List Change)} {names : List (List ℕ)} {start : Session R L} {begun : List Change} where
  module _ {now : Session R L} {so_far : List Change} {left : List (List ℕ)} (is : IsChanging m change names start now begun so_far left) where
    opened : (n : List ℕ) (more : List (List ℕ)) → left ≡ n ∷ more → rest change left so_far ≡ (adding so_far (change n) >>= rest change more)
    opened n more here = ap (λ ns. adding so_far (entries change ns)) here ∙ adding-entries change so_far n more

    pub changing_next : {n : List ℕ} {more : List (List ℕ)} {new : Session R L} {longer : List Change} → left ≡ n ∷ more → Implements {X = Unit {0}} m (λ (u : Unit {0}). longer) now new (adding so_far (change n)) (Ok tt)
        → IsChanging m change names start new begun longer more
    changing_next {n = n} {more = more} here h = record { goes = λ final. goes_on (rest change left so_far) (is.goes final) (adding so_far (change n)) (rest change more) (opened n more here) h }

    pub changing_stops : {n : List ℕ} {more : List (List ℕ)} {new : Session R L} {longer final : List Change} {why : Stop} (r : Result (Unit {0}) Stop) → left ≡ n ∷ more → IsErrAnd r (λ d. d ≡ why) → Implements {X = Unit {0}} m (λ (u : Unit {0}). longer) now new (adding so_far (change n)) (Err why)
        → Implements m (λ (u : Unit {0}). final) start new (adding begun (entries change names)) r
    changing_stops {n = n} {more = more} {final = final} r here e h = goes_stop (rest change left so_far) (is.goes final) (adding so_far (change n)) (rest change more) (opened n more here) r e h

    pub changing_ends : left ≡ [] → Implements {X = Unit {0}} m (λ (u : Unit {0}). so_far) start now (adding begun (entries change names)) (Ok tt)
    changing_ends none = goes_end (rest change left so_far) (is.goes so_far) tt (ap (λ ns. adding so_far (entries change ns)) none ∙ adding-none so_far)
