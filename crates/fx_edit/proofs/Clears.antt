-- Removals, and entries of a directory with new names, as calls implement their rules.
use Rattle.std.proofs.Common.{◌≡◌, ℕ, ◌≤◌, List, [], ◌∷◌, ◌++◌, length, Option, Some, None, Result, Ok, Err, refl, sym, ap, ◌∙◌, false}
use Rattle.std.specs.Prelude.{IsErrAnd}
use Rattle.fx_store.specs.declared.node.Node.{Node}
use Rattle.fx_store.specs.declared.node.Node.TheVariants.{File}
use Rattle.fx_store.specs.declared.changes.Change.{Change}
use Rattle.fx_store.specs.Resolve.{◌/ₚ◌}
use Rattle.fx_store.specs.Rule.{Ask, Answer, Look, look}
use Rattle.fx_spec.specs.Edit.{set_to, removed, clear, entries}
use Rattle.fx_view.specs.declared.reader.Stop.{Stop}
use Rattle.fx_view.specs.declared.reader.Stop.TheVariants as stop
use Rattle.fx_view.specs.Meaning.{Meaning}
use Rattle.fx_session.specs.declared.session.Session.{Session}
use Rattle.fx_session.specs.Implements.{Implements}
use Rattle.fx_session.proofs.Calls.{answers, then_on, then_answers, stops, then_refused}
use Rattle.fx_edit.specs.Rules.{adding, added_file, listing, cleared_listing}
use Rattle.fx_edit.proofs.Addings.{adding-none, adding-clear, adding-listing}
use Rattle.fx_edit.proofs.Exits.{by_rule}

abbrev Path : Type 0
Path = List (List ℕ)

-- a call that adds the changes of the rule to those before
abbrev Adds : {R L : Type 0} → Meaning R → Session R L → Session R L → List Change → List Change → Ask (List Change) → Result (Unit {0}) Stop → Type 0
Adds m old new before after rule r = Implements m (λ (u : Unit {0}). after) old new (adding before rule) r

-- nothing is added
pub adds_none : {R L : Type 0} {m : Meaning R} {s : Session R L} {before : List Change} (rule : Ask (List Change)) → rule ≡ Answer [] → Adds m s s before before rule (Ok tt)
adds_none {before = before} rule is = by_rule (ap (adding before) is ∙ adding-none before) (answers before tt refl)

-- ---- what is looked at first, and what comes next

abbrev lists : Path → Ask (Option (List (List ℕ)))
lists q = Look q (λ node. Answer (listing node))

abbrev on : List Change → Path → Option (List (List ℕ)) → Ask (List Change)
on before q o = adding before (cleared_listing q o)

abbrev with_file : List Change → Path → Option Node → Ask (List Change)
with_file before q found = Answer (before ++ set_to q (File [] false) ∷ [])

-- the same look
moved : {R L : Type 0} {m : Meaning R} {old mid : Session R L} {p q : Path} {r : Result (Option Node) Stop} → p ≡ q → Implements m (λ n. n) old mid (look p) r → Implements m (λ n. n) old mid (look q) r
moved same first = by_rule (ap look (sym same)) first

module _ {R L : Type 0} {m : Meaning R} {old mid : Session R L} (before : List Change) where
  -- ---- a removal

  module _ {q : Path} (short : length q ≤ 64) where
    pub clear_stops : {after : List Change} {why : Stop} (r : Result (Unit {0}) Stop) → IsErrAnd r (λ d. d ≡ why) → Implements {X = Option (List (List ℕ))} m (λ n. n) old mid (lists q) (Err why) → Adds m old mid before after (clear q) r
    clear_stops r is first = by_rule (adding-clear before q short) (stops (lists q) (on before q) r is first)

    pub clear_tires : {after : List Change} {o : Option (List (List ℕ))} (r : Result (Unit {0}) Stop) → IsErrAnd r (λ d. d ≡ stop.NoMemory) → Implements m (λ n. n) old mid (lists q) (Ok o) → Adds m old mid before after (clear q) r
    clear_tires r is first = by_rule (adding-clear before q short) (then_refused (lists q) (on before q) r is first)

    pub clear_none : {o : Option (List (List ℕ))} → o ≡ None → Implements m (λ n. n) old mid (lists q) (Ok o) → Adds m old mid before before (clear q) (Ok tt)
    clear_none none first = by_rule (adding-clear before q short) (then_answers (lists q) (on before q) tt first (ap (on before q) none ∙ adding-none before))

    pub clear_some : {o : Option (List (List ℕ))} {names : List (List ℕ)} {p : Path} {more after : List Change} {new : Session R L} {r : Result (Unit {0}) Stop} → o ≡ Some names → p ≡ q → more ≡ before ++ removed p ∷ [] → Implements m (λ n. n) old mid (lists q) (Ok o)
        → Adds m mid new more after (entries (λ n. clear (q /ₚ n)) names) r → Adds m old new before after (clear q) r
    clear_some {names = names} some same added first h =
        let is = ap (on before q) some ∙ (adding-listing before q names ∙ ap (λ cs. adding cs (entries (λ n. clear (q /ₚ n)) names)) (ap (λ p. before ++ removed p ∷ []) (sym same) ∙ sym added)) in
        by_rule (adding-clear before q short) (then_on (lists q) (on before q) first (by_rule is h))

  -- ---- an empty file at a new name

  module _ {p q : Path} (same : p ≡ q) where
    pub file_stops : {after : List Change} {why : Stop} (r : Result (Unit {0}) Stop) → IsErrAnd r (λ d. d ≡ why) → Implements {X = Option Node} m (λ n. n) old mid (look p) (Err why) → Adds m old mid before after (added_file q) r
    file_stops r is first = stops (look q) (with_file before q) r is (moved same first)

    pub file_tires : {after : List Change} {n : Option Node} (r : Result (Unit {0}) Stop) → IsErrAnd r (λ d. d ≡ stop.NoMemory) → Implements m (λ n. n) old mid (look p) (Ok n) → Adds m old mid before after (added_file q) r
    file_tires r is first = then_refused (look q) (with_file before q) r is (moved same first)

    pub file_added : {after : List Change} {node : Node} {n : Option Node} → node ≡ File [] false → after ≡ before ++ set_to p node ∷ [] → Implements m (λ n. n) old mid (look p) (Ok n) → Adds m old mid before after (added_file q) (Ok tt)
    file_added none added first = then_answers (look q) (with_file before q) tt (moved same first) (ap (λ (cs : List Change). Answer cs) (sym (added ∙ (λ i. before ++ set_to (same i) (none i) ∷ []))))
