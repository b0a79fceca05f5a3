-- The removal of an entry with its name, as calls implement its rule.
use Rattle.std.proofs.Common.{◌≡◌, ℕ, ◌-◌, List, [], ◌∷◌, length, Option, Some, None, Result, Ok, Err, refl, sym, ap, ◌∙◌, arith}
use Rattle.std.specs.Prelude.{slice_get, IsErrAnd}
use Rattle.std.proofs.lemmas.Option.{slice_get_within, get_or_from_slice_get}
use Rattle.fx_store.specs.declared.node.Node.{Node}
use Rattle.fx_store.specs.declared.node.Node.TheVariants.{Dir}
use Rattle.fx_store.specs.declared.changes.Change.{Change}
use Rattle.fx_store.specs.Resolve.{parent}
use Rattle.fx_store.specs.Rule.{Ask, Answer, Look, ◌>>=◌}
use Rattle.fx_spec.specs.Edit.{set_to, names_of, clear, remove_entry}
use Rattle.fx_spec.specs.declared.refusal.Refusal.{Refusal}
use Rattle.fx_spec.specs.Move.{Answered}
use Rattle.fx_view.specs.declared.reader.Stop.{Stop}
use Rattle.fx_view.specs.declared.reader.Stop.TheVariants as stop
use Rattle.fx_view.specs.Meaning.{Meaning}
use Rattle.fx_session.specs.declared.session.Session.{Session}
use Rattle.fx_session.specs.Implements.{Implements}
use Rattle.fx_session.proofs.Calls.{then_on, stops, then_refused}
use mathlib.Core.Path.{fun_ext}
use Rattle.fx_base.proofs.Lists.{none_past}
use Rattle.fx_base.specs.Sets.{without_name}
use Rattle.fx_edit.specs.Rules.{adding, edit_answer, removing, HasLast}
use Rattle.fx_edit.proofs.Addings.{editing-first}
use Rattle.fx_edit.proofs.Exits.{by_rule, gathered, ungathered}

abbrev Path : Type 0
Path = List (List ℕ)

-- ---- the last name of a path

pub has_last : (path : Path) (name : List ℕ) → Some name ≡ slice_get path (length path - 1) → HasLast path name
has_last path name is = record { some = omega (arith, slice_get_within path (length path - 1) name (sym is)); last = sym is }

-- ---- the rule of a removal

pub remove_root-is : (path : Path) → None ≡ slice_get path (length path - 1) → remove_entry path ≡ Answer (Err (Refusal.Blocked path))
remove_root-is [] none = refl
remove_root-is (n ∷ names) none = absurd (omega (arith, none_past (n ∷ names) (length (n ∷ names) - 1) (sym none)))

-- at a path that is not the root
pub remove_entry-is : (path : Path) (name : List ℕ) → HasLast path name → remove_entry path ≡ edit_answer (removing path name)
remove_entry-is [] name has = absurd (omega (arith, has.some))
remove_entry-is (n ∷ names) name has =
    let q : Path = n ∷ names in
    ap (λ (f : Option Node → Ask (Answered (List Change))). Look (parent q) f) (fun_ext (λ above.
    ap (λ l. clear q >>= λ below. Answer (Ok (set_to (parent q) (Dir (without_name l (names_of above))) ∷ below))) (get_or_from_slice_get q (length q - 1) name [] has.last)
    ∙ sym (editing-first (set_to (parent q) (Dir (without_name name (names_of above))) ∷ []) (clear q))))

abbrev lists : Path → Ask (List (List ℕ))
lists above = Look above (λ found. Answer (names_of found))

abbrev clears : Path → List ℕ → List (List ℕ) → Ask (List Change)
clears path name names = adding (set_to (parent path) (Dir (without_name name names)) ∷ []) (clear path)

moved : {R L : Type 0} {m : Meaning R} {old mid : Session R L} {p q : Path} {r : Result (List (List ℕ)) Stop} → p ≡ q → Implements m (λ n. n) old mid (lists p) r → Implements m (λ n. n) old mid (lists q) r
moved same h = by_rule (ap lists (sym same)) h

begun : (path : Path) (name : List ℕ) (names : List (List ℕ)) {above : Path} {fewer : List (List ℕ)} {edits : List Change} → above ≡ parent path → fewer ≡ without_name name names → edits ≡ set_to above (Dir fewer) ∷ [] → clears path name names ≡ adding edits (clear path)
begun path name names same less made = ap (λ cs. adding cs (clear path)) (sym (made ∙ (λ i. set_to (same i) (Dir (less i)) ∷ [])))

module _ {R L : Type 0} {m : Meaning R} {old mid : Session R L} (path : Path) (name : List ℕ) {above : Path} (same : above ≡ parent path) where
  pub removing_stops : {why : Stop} (r : Result (List Change) Stop) → IsErrAnd r (λ d. d ≡ why) → Implements {X = List (List ℕ)} m (λ n. n) old mid (lists above) (Err why) → Implements m (λ e. e) old mid (removing path name) r
  removing_stops r is first = stops (lists (parent path)) (clears path name) r is (moved same first)

  pub removing_tires : {names : List (List ℕ)} (r : Result (List Change) Stop) → IsErrAnd r (λ d. d ≡ stop.NoMemory) → Implements m (λ n. n) old mid (lists above) (Ok names) → Implements m (λ e. e) old mid (removing path name) r
  removing_tires r is first = then_refused (lists (parent path)) (clears path name) r is (moved same first)

  module _ {new : Session R L} {names fewer : List (List ℕ)} {edits after : List Change} (less : fewer ≡ without_name name names) (made : edits ≡ set_to above (Dir fewer) ∷ []) (first : Implements m (λ n. n) old mid (lists above) (Ok names)) where
    pub removing_late : {why : Stop} (r : Result (List Change) Stop) → IsErrAnd r (λ d. d ≡ why) → Implements {X = Unit {0}} m (λ u. after) mid new (adding edits (clear path)) (Err why) → Implements m (λ e. e) old new (removing path name) r
    removing_late r is h = then_on (lists (parent path)) (clears path name) (moved same first) (by_rule (begun path name names same less made) (ungathered r is h))

    pub removing_done : Implements {X = Unit {0}} m (λ u. after) mid new (adding edits (clear path)) (Ok tt) → Implements m (λ e. e) old new (removing path name) (Ok after)
    removing_done h = then_on (lists (parent path)) (clears path name) (moved same first) (by_rule (begun path name names same less made) (gathered h))
