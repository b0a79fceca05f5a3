-- A run goes on from each state that it reaches: where the next transaction consults a path that is not looked at, the first
-- such path comes next; else the shell settles, or starts again.
use Rattle.std.proofs.Common.{◌≡◌, ℕ, Bool, true, false, cond, not, List, [], ◌∷◌, ◌++◌, length, set, Option, Some, None, is_some, IsSome, refl, sym, ap, subst, ◌∙◌}
use Rattle.std.specs.FinMap.{get}
use Rattle.std.specs.List.{All, filter}
use Rattle.std.specs.Ordering.{eq_by_cmp}
use Rattle.std.proofs.lemmas.Bool.{false≢true}
use Rattle.std.proofs.lemmas.List.Elements.{All-head, All-tail}
use Rattle.std.proofs.lemmas.Option.{none-some, same_Some}
use Rattle.fx_store.specs.declared.node.Node.{Node}
use Rattle.fx_store.specs.declared.changes.Change.{Change}
use Rattle.fx_store.specs.Names.{path_cmp, IsPath}
use Rattle.fx_store.specs.Whole.{Store, Nodes, IsWhole, over}
use Rattle.fx_store.specs.Orders.{path_eq_same}
use Rattle.fx_spec.specs.SpecTree.{SpecTree}
use Rattle.fx_spec.specs.CommandTree.{CommandTree}
use Rattle.fx_spec.specs.Plans.{Turn}
use Rattle.fx_spec.specs.Order.{BaseTree, state}
use Rattle.fx_spec.specs.Task.{Task, Ends, Looks, Sets, consulted, once}
use Rattle.fx_spec.specs.Transaction.{transaction, way}
use Rattle.fx_spec.proofs.Tasks.{same_over}
use Rattle.fx_spec.proofs.Transactions.{states_are_whole}
use Rattle.fx_machine.specs.declared.event.Event.TheVariants as event
use Rattle.fx_machine.specs.Laws.{IsReached}
use Rattle.fx_machine.specs.Machine.{Machine, Look, looks_of, position_at, next_number, next_txn, AgreesAt, first_unseen, HasSeenAll, ComesNext, IsStaleAt}
use Rattle.fx_machine.specs.Measure.{is_stale}
use Rattle.fx_machine.proofs.Stale.{stale_is_exact}
use Rattle.fx_machine.specs.Asks.{MayStand, HoldsNodes, LooksAtPaths}
use Rattle.fx_machine.specs.Ends.{HasEvent, GoesOn}

abbrev Path : Type 0
Path = List (List ℕ)

-- ---- the first path that is not looked at depends on nothing but what stands at the looked paths

-- two filestores have the same at each looked path
abbrev SameSeen : List Look → Store → Store → Type 0
SameSeen looks S T = (path : Path) → IsSome (position_at looks path) → S path ≡ T path

seen_over : (looks : List Look) (S T : Store) (changes : List Change) → SameSeen looks S T → SameSeen looks (over S changes) (over T changes)
seen_over looks S T changes same path seen = same_over S T changes path (same path seen)

first_same : {A : Type 0} (looks : List Look) (task : Task A) (S T : Store) → SameSeen looks S T → first_unseen looks (consulted S task) ≡ first_unseen looks (consulted T task)
first_same looks (Ends a) S T same = refl
first_same looks (Looks p next) S T same = at (is_some (position_at looks p)) refl (first_same looks (next (S p)) S T same)
  where
    at : (b : Bool) → is_some (position_at looks p) ≡ b → first_unseen looks (consulted S (next (S p))) ≡ first_unseen looks (consulted T (next (S p)))
        → cond b (first_unseen looks (consulted S (next (S p)))) (Some p) ≡ cond b (first_unseen looks (consulted T (next (T p)))) (Some p)
    at true is rest = rest ∙ ap (λ n. first_unseen looks (consulted T (next n))) (same p is)
    at false is rest = refl
first_same looks (Sets changes next) S T same = first_same looks next (over S changes) (over T changes) (seen_over looks S T changes same)

-- paths that each stand at their first place alone have the same first one
first_filter : (looks : List Look) (p : Path) → is_some (position_at looks p) ≡ true → (ps : List Path) → first_unseen looks (filter (λ q. not (eq_by_cmp path_cmp p q)) ps) ≡ first_unseen looks ps
first_filter looks p is [] = refl
first_filter looks p is (q ∷ ps) = at (eq_by_cmp path_cmp p q) refl (first_filter looks p is ps)
  where
    at : (b : Bool) → eq_by_cmp path_cmp p q ≡ b → first_unseen looks (filter (λ q. not (eq_by_cmp path_cmp p q)) ps) ≡ first_unseen looks ps
        → first_unseen looks (cond (not b) (q ∷ filter (λ q. not (eq_by_cmp path_cmp p q)) ps) (filter (λ q. not (eq_by_cmp path_cmp p q)) ps)) ≡ cond (is_some (position_at looks q)) (first_unseen looks ps) (Some q)
    at true e rest = rest ∙ ap (λ b. cond b (first_unseen looks ps) (Some q)) (sym (ap (λ x. is_some (position_at looks x)) (sym (path_eq_same p q e)) ∙ is))
    at false e rest = ap (λ x. cond (is_some (position_at looks q)) x (Some q)) rest

first_once : (looks : List Look) (ps : List Path) → first_unseen looks (once ps) ≡ first_unseen looks ps
first_once looks [] = refl
first_once looks (p ∷ ps) = at (is_some (position_at looks p)) refl (first_once looks ps)
  where
    at : (b : Bool) → is_some (position_at looks p) ≡ b → first_unseen looks (once ps) ≡ first_unseen looks ps → cond b (first_unseen looks (filter (λ q. not (eq_by_cmp path_cmp p q)) (once ps))) (Some p) ≡ cond b (first_unseen looks ps) (Some p)
    at true is rest = first_filter looks p is (once ps) ∙ rest
    at false is rest = refl

way_same : (looks : List Look) (root : SpecTree) (t : List CommandTree) (S T : Store) → SameSeen looks S T → first_unseen looks (way root t S) ≡ first_unseen looks (way root t T)
way_same looks root t S T same =
    first_once looks (consulted S (transaction root t)) ∙ first_same looks (transaction root t) S T same ∙ sym (first_once looks (consulted T (transaction root t)))

-- the first of some paths is one of them, and is not looked at
first_found : (P : Path → Type 0) (looks : List Look) (ps : List Path) (path : Path) → All P ps → first_unseen looks ps ≡ Some path → P path × (position_at looks path ≡ None)
first_found P looks [] path all e = absurd (none-some path e)
first_found P looks (p ∷ ps) path all e = at (position_at looks p) refl e (first_found P looks ps path (All-tail P p ps all))
  where
    at : (r : Option ℕ) → position_at looks p ≡ r → cond (is_some r) (first_unseen looks ps) (Some p) ≡ Some path → (first_unseen looks ps ≡ Some path → P path × (position_at looks path ≡ None)) → P path × (position_at looks path ≡ None)
    at None is e rest = let same : p ≡ path = same_Some p path e in (subst P same (All-head P p ps all), subst (λ q. position_at looks q ≡ None) same is)
    at (Some i) is e rest = rest e

-- ---- a filestore of what was seen

abbrev stands_at : BaseTree → List Turn → Path → Option ℕ → Option Node
stands_at base o path None = None
stands_at base o path (Some i) = get (state base o i) path

-- at each looked path what the state at its position has, and nothing elsewhere
abbrev seen_store : BaseTree → List Turn → List Look → Store
seen_store base o looks path = stands_at base o path (position_at looks path)

-- its nodes are within their limits, since those of each state are
seen_holds_nodes : (base : BaseTree) (o : List Turn) (looks : List Look) → IsWhole (get base.loaded) → HoldsNodes (seen_store base o looks)
seen_holds_nodes base o looks whole path = at (position_at looks path)
  where
    at : (r : Option ℕ) → MayStand path (stands_at base o path r)
    at None = tt
    at (Some i) = (states_are_whole base whole o i).nodes path

-- each filestore that agrees with the looks has the same at each looked path
seen_same : (base : BaseTree) (o : List Turn) (looks : List Look) (S : Store) → AgreesAt base o looks S → SameSeen looks S (seen_store base o looks)
seen_same base o looks S agrees path seen = at (position_at looks path) refl seen
  where
    at : (r : Option ℕ) → position_at looks path ≡ r → IsSome r → S path ≡ stands_at base o path r
    at None is some = absurd (false≢true some)
    at (Some i) is some = agrees path i is

-- so what comes first on it comes first on each of them
agreed : (base : BaseTree) (o : List Turn) (looks : List Look) (t : List CommandTree) (first : Option Path) → first_unseen looks (way base.description t (seen_store base o looks)) ≡ first
    → (nodes : Nodes) → IsWhole (get nodes) → AgreesAt base o looks (get nodes) → first_unseen looks (way base.description t (get nodes)) ≡ first
agreed base o looks t first e nodes whole agrees =
    way_same looks base.description t (get nodes) (seen_store base o looks) (seen_same base o looks (get nodes) agrees) ∙ e

-- ---- the events

-- a path that comes next is looked at
has_look : (base : BaseTree) (m : Machine) (shell : ℕ) (t : List CommandTree) (path : Path) → next_txn base m.order shell ≡ Some t → IsPath path → position_at (looks_of m shell) path ≡ None → ComesNext base m.order (looks_of m shell) t path → HasEvent base m shell
has_look base m shell t path next valid unseen first = record {
  event = event.Look shell path (length m.order);
  after = record m { looks = set m.looks shell (looks_of m shell ++ (path, length m.order) ∷ []) };
  whose = refl;
  step = record { txn = t; next = next; valid = valid; unseen = unseen; first = first; now = refl; after = refl };
}

-- where all is looked at, the transaction joins the order, or starts again
has_settle : (base : BaseTree) (m : Machine) (shell : ℕ) (t : List CommandTree) → next_txn base m.order shell ≡ Some t → HasSeenAll base m.order (looks_of m shell) t → (is_stale base m shell ≡ true → ⊥) → IsReached base m → HasEvent base m shell
has_settle base m shell t next ready fresh reached = record {
  event = event.Settled shell (length m.order);
  after = record { order = m.order ++ (shell, next_number m.order shell) ∷ []; looks = set m.looks shell [] };
  whose = refl;
  step = record { txn = t; next = next; ready = ready; fresh = λ entry path stale. fresh ((stale_is_exact base m reached shell).1 (entry, path, stale)); now = refl; after = refl };
}

has_conflict : (base : BaseTree) (m : Machine) (shell : ℕ) (t : List CommandTree) → next_txn base m.order shell ≡ Some t → HasSeenAll base m.order (looks_of m shell) t → (entry : ℕ) (path : Path) → IsStaleAt base m.order (looks_of m shell) entry path → HasEvent base m shell
has_conflict base m shell t next ready entry path stale = record {
  event = event.Conflict shell entry path;
  after = record m { looks = set m.looks shell [] };
  whose = refl;
  step = record { txn = t; next = next; ready = ready; stale = stale; after = refl };
}

has_end_of_looks : (base : BaseTree) (m : Machine) (shell : ℕ) (t : List CommandTree) → IsReached base m → next_txn base m.order shell ≡ Some t → HasSeenAll base m.order (looks_of m shell) t → HasEvent base m shell
has_end_of_looks base m shell t reached next ready = at (is_stale base m shell) refl
  where
    at : (b : Bool) → is_stale base m shell ≡ b → HasEvent base m shell
    at true is = let found = (stale_is_exact base m reached shell).0 is in has_conflict base m shell t next ready found.0 found.1 found.2
    at false is = has_settle base m shell t next ready (λ stale. false≢true (sym is ∙ stale)) reached

pub goes_on : LooksAtPaths → GoesOn
goes_on asks base m shell whole reached left = at (next_txn base m.order shell) refl left
  where
    by_first : (t : List CommandTree) → next_txn base m.order shell ≡ Some t → (first : Option Path) → first_unseen (looks_of m shell) (way base.description t (seen_store base m.order (looks_of m shell))) ≡ first → HasEvent base m shell
    by_first t next None e = has_end_of_looks base m shell t reached next (agreed base m.order (looks_of m shell) t None e)
    by_first t next (Some path) e =
        let found : IsPath path × (position_at (looks_of m shell) path ≡ None) = first_found IsPath (looks_of m shell) (way base.description t (seen_store base m.order (looks_of m shell))) path
        (asks base.description t (seen_store base m.order (looks_of m shell)) (seen_holds_nodes base m.order (looks_of m shell) whole)) e in
        has_look base m shell t path next found.0 found.1 (agreed base m.order (looks_of m shell) t (Some path) e)

    at : (o : Option (List CommandTree)) → next_txn base m.order shell ≡ o → IsSome o → HasEvent base m shell
    at None is some = absurd (false≢true some)
    at (Some t) is some = by_first t is (first_unseen (looks_of m shell) (way base.description t (seen_store base m.order (looks_of m shell)))) refl
