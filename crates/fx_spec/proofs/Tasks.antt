-- What a task ends with, sets and consults depends on what it consulted alone.
use Rattle.std.proofs.Common.{◌≡◌, ◌≢◌, ℕ, Bool, true, false, cond, not, refl, ap, subst, sym, ◌∙◌, List, [], ◌∷◌, ◌++◌, Option, Some, None}
use mathlib.Core.Path.{fun_ext}
use Rattle.std.specs.FinMap.{get, get-insert, get-remove}
use Rattle.std.specs.List.{filter}
use Rattle.std.specs.Ordering.{eq_by_cmp}
use Rattle.fx_store.specs.declared.node.Node.{Node}
use Rattle.fx_store.specs.declared.changes.Change.{Change}
use Rattle.fx_store.specs.Names.{path_cmp}
use Rattle.fx_store.specs.Rule.{SameOn}
use Rattle.fx_store.specs.Whole.{Store, Nodes, update, over, set_node, over_nodes}
use Rattle.fx_store.specs.Orders.{path_eq_same, path_total}
use Rattle.fx_spec.specs.Task.{Task, Ends, Looks, Sets, result, after, consulted, written, once}
use Rattle.fx_spec.specs.declared.refusal.End.{End}
use Rattle.fx_spec.specs.Transaction.{flow_end, flow_outputs, is_done, end, kept, transaction}
use Rattle.fx_spec.specs.Laws.{DependsOnWay, UndoneLeavesAll, LeavesAsData}

-- the same at a path before and after the same changes
pub same_over : (S T : Store) (cs : List Change) (p : List (List ℕ)) → S p ≡ T p → over S cs p ≡ over T cs p
same_over S T [] p e = e
same_over S T (c ∷ cs) p e = same_over (update S c) (update T c) cs p (ap (λ n. cond (eq_by_cmp path_cmp p c.path) c.node n) e)

same_on_over : (S T : Store) (cs : List Change) (ps : List (List (List ℕ))) → SameOn ps S T → SameOn ps (over S cs) (over T cs)
same_on_over S T cs [] h = tt
same_on_over S T cs (p ∷ ps) h = (same_over S T cs p h.0, same_on_over S T cs ps h.1)

pub over-append : (S : Store) (cs ds : List Change) → over S (cs ++ ds) ≡ over (over S cs) ds
over-append S [] ds = refl
over-append S (c ∷ cs) ds = over-append (update S c) cs ds

-- the same result, sets and looks
pub record SameTask {A : Type 0} (t : Task A) (S T : Store) : Type 0 where
  pub result : result T t ≡ result S t
  pub written : written T t ≡ written S t
  pub consulted : consulted T t ≡ consulted S t

-- what is consulted under some changes is the same where it is the same without them
consulted_over : {A : Type 0} (S T : Store) (cs : List Change) (next : Task A) → SameOn (consulted (over S cs) next) S T → SameOn (consulted (over S cs) next) (over S cs) (over T cs)
consulted_over S T cs next h = same_on_over S T cs _ h

-- the looks of a task are made under its own changes
pub depends : {A : Type 0} (t : Task A) (S T : Store) → SameOn (consulted S t) S T → SameTask t S T
depends (Ends a) S T h = record { result = refl; written = refl; consulted = refl }
depends (Looks p next) S T h =
    let rest = depends (next (S p)) S T h.1 in
    record {
      result = ap (λ n. result T (next n)) (sym h.0) ∙ rest.result;
      written = ap (λ n. written T (next n)) (sym h.0) ∙ rest.written;
      consulted = ap (λ n. p ∷ consulted T (next n)) (sym h.0) ∙ ap (λ ps. p ∷ ps) rest.consulted;
    }
depends (Sets cs next) S T h =
    let rest = depends next (over S cs) (over T cs) (consulted_over S T cs next h) in
    record { result = rest.result; written = ap (λ ws. cs ++ ws) rest.written; consulted = rest.consulted }

pub after-written : {A : Type 0} (t : Task A) (S : Store) → after S t ≡ over S (written S t)
after-written (Ends a) S = refl
after-written (Looks p next) S = after-written (next (S p)) S
after-written (Sets cs next) S = after-written next (over S cs) ∙ sym (over-append S cs (written (over S cs) next))

-- what holds at each path, each taken once, holds at each of the paths
same_on_filter : (S T : Store) (p : List (List ℕ)) → S p ≡ T p → (ps : List (List (List ℕ))) → SameOn (filter (λ q. not (eq_by_cmp path_cmp p q)) ps) S T → SameOn ps S T
same_on_filter S T p e [] h = tt
same_on_filter S T p e (q ∷ ps) h = at (eq_by_cmp path_cmp p q) refl (λ k. same_on_filter S T p e ps k) h
  where
    at : (b : Bool) → eq_by_cmp path_cmp p q ≡ b → (SameOn (filter (λ q. not (eq_by_cmp path_cmp p q)) ps) S T → SameOn ps S T) → SameOn (cond (not b) (q ∷ filter (λ q. not (eq_by_cmp path_cmp p q)) ps) (filter (λ q. not (eq_by_cmp path_cmp p q)) ps)) S T → SameOn (q ∷ ps) S T
    at true f rest h = (subst (λ q. S q ≡ T q) (path_eq_same p q f) e, rest h)
    at false f rest h = (h.0, rest h.1)

pub same_on_once : (S T : Store) (ps : List (List (List ℕ))) → SameOn (once ps) S T → SameOn ps S T
same_on_once S T [] h = tt
same_on_once S T (p ∷ ps) h = (h.0, same_on_once S T ps (same_on_filter S T p h.0 (once ps) h.1))

pub depends_on_way : DependsOnWay
depends_on_way root t S T h =
    let same : SameTask (transaction root t) S T = depends (transaction root t) S T (same_on_once S T _ h) in
    record {
      outputs = ap flow_outputs same.result;
      end = ap flow_end same.result;
      kept = (λ i. cond (is_done (flow_end (same.result i))) (same.written i) []);
      way = ap once same.consulted;
    }

not_done : (e : End) → e ≢ End.Done → is_done e ≡ false
not_done End.Done h = absurd (h refl)
not_done (End.Stopped i f) h = refl
not_done End.Aborted h = refl

pub undone_leaves_all : UndoneLeavesAll
undone_leaves_all root t nodes h = ap (λ b. over_nodes nodes (cond b (written (get nodes) (transaction root t)) [])) (not_done (end root t (get nodes)) h)

-- changes of a filestore as data are changes of what stands at each path
pub get-set_node : (m : Nodes) (c : Change) → get (set_node m c.path c.node) ≡ update (get m) c
get-set_node m c = at c.node refl
  where
    at : (n : Option Node) → c.node ≡ n → get (set_node m c.path n) ≡ update (get m) c
    at None e = fun_ext (λ q. get-remove path_total m c.path q ∙ ap (λ n. cond (eq_by_cmp path_cmp q c.path) n (get m q)) (sym e))
    at (Some n) e = fun_ext (λ q. get-insert path_total m c.path n q ∙ ap (λ n. cond (eq_by_cmp path_cmp q c.path) n (get m q)) (sym e))

pub get-over_nodes : (m : Nodes) (cs : List Change) → get (over_nodes m cs) ≡ over (get m) cs
get-over_nodes m [] = refl
get-over_nodes m (c ∷ cs) = get-over_nodes (set_node m c.path c.node) cs ∙ ap (λ S. over S cs) (get-set_node m c)

pub leaves_as_data : LeavesAsData
leaves_as_data root t nodes p = ap (λ (S : Store). S p) (get-over_nodes nodes (kept root t (get nodes)) ∙ at (is_done (end root t (get nodes))))
  where
    at : (b : Bool) → over (get nodes) (cond b (written (get nodes) (transaction root t)) []) ≡ cond b (after (get nodes) (transaction root t)) (get nodes)
    at true = sym (after-written (transaction root t) (get nodes))
    at false = refl
