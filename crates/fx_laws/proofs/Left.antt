-- What a transaction leaves, by the changes that it keeps: equality of small filestores at each path, from that at the paths
-- of their nodes and changes.
use Rattle.std.proofs.Common.{◌≡◌, ℕ, Bool, true, false, cond, ◌||◌, refl, ap, sym, ◌∙◌, List, [], ◌∷◌, map, Some, None}
use Rattle.std.proofs.lemmas.Bool.{true≢false, or_parts}
use Rattle.std.specs.Ordering.{eq_by_cmp}
use Rattle.fx_store.specs.declared.changes.Change.{Change}
use Rattle.fx_store.specs.Changes.{changed_paths}
use Rattle.fx_store.specs.Examples.{store_of}
use Rattle.fx_store.specs.Names.{path_cmp, has_path}
use Rattle.fx_store.specs.Orders.{path_eq_same}
use Rattle.fx_store.specs.Rule.{SameOn}
use Rattle.fx_store.specs.Whole.{Store, update, over}
use Rattle.fx_spec.specs.SpecTree.{SpecTree}
use Rattle.fx_spec.specs.CommandTree.{CommandTree}
use Rattle.fx_spec.specs.Task.{after, written}
use Rattle.fx_spec.specs.Transaction.{transaction, end, is_done, kept, left}
use Rattle.fx_spec.proofs.Tasks.{after-written}
use Rattle.fx_laws.specs.Left.{Entries, Leaves}

-- a transaction leaves the filestore with the changes that it keeps
left-kept : (root : SpecTree) (commands : List CommandTree) (S : Store) (p : List (List ℕ)) → left root commands S p ≡ over S (kept root commands S) p
left-kept root commands S p = at (is_done (end root commands S))
  where
    at : (b : Bool) → cond b (after S (transaction root commands)) S p ≡ over S (cond b (written S (transaction root commands)) []) p
    at true = ap (λ (T : Store). T p) (after-written (transaction root commands) S)
    at false = refl

pub leaves_kept : (root : SpecTree) (commands : List CommandTree) (S T : Store) (changes : List Change) → kept root commands S ≡ changes → ((p : List (List ℕ)) → over S changes p ≡ T p) → Leaves root S commands T
leaves_kept root commands S T changes e same p = left-kept root commands S p ∙ ap (λ cs. over S cs p) e ∙ same p

abbrev pub paths_of : Entries → List (List (List ℕ))
paths_of es = map (λ e. e.0) es

-- nothing is at other paths than those of the nodes
nowhere_else : (es : Entries) (p : List (List ℕ)) → has_path (paths_of es) p ≡ false → store_of es p ≡ None
nowhere_else [] p h = refl
nowhere_else (e ∷ es) p h =
    let none : (eq_by_cmp path_cmp p e.0 ≡ false) × (has_path (paths_of es) p ≡ false) = or_parts (eq_by_cmp path_cmp p e.0) (has_path (paths_of es) p) h in
    ap (λ b. cond b (Some e.1) (store_of es p)) none.0 ∙ nowhere_else es p none.1

-- no other path is changed than those of the changes
as_before : (S : Store) (cs : List Change) (p : List (List ℕ)) → has_path (changed_paths cs) p ≡ false → over S cs p ≡ S p
as_before S [] p h = refl
as_before S (c ∷ cs) p h =
    let none : (eq_by_cmp path_cmp p c.path ≡ false) × (has_path (changed_paths cs) p ≡ false) = or_parts (eq_by_cmp path_cmp p c.path) (has_path (changed_paths cs) p) h in
    as_before (update S c) cs p none.1 ∙ ap (λ b. cond b c.node (S p)) none.0

at_one_of : (ps : List (List (List ℕ))) (S T : Store) (p : List (List ℕ)) → SameOn ps S T → has_path ps p ≡ true → S p ≡ T p
at_one_of [] S T p same h = absurd (true≢false (sym h))
at_one_of (q ∷ ps) S T p same h = at (eq_by_cmp path_cmp p q) refl h (λ k. at_one_of ps S T p same.1 k)
  where
    at : (b : Bool) → eq_by_cmp path_cmp p q ≡ b → (b || has_path ps p) ≡ true → (has_path ps p ≡ true → S p ≡ T p) → S p ≡ T p
    at true f k rest = ap S (path_eq_same p q f) ∙ same.0 ∙ ap T (sym (path_eq_same p q f))
    at false f k rest = rest k

-- the filestores are the same where they are at the paths of their nodes and of the changes
pub same_stores : (es fs : Entries) (cs : List Change) → SameOn (paths_of es) (over (store_of es) cs) (store_of fs) → SameOn (paths_of fs) (over (store_of es) cs) (store_of fs) → SameOn (changed_paths cs) (over (store_of es) cs) (store_of fs) → (p : List (List ℕ)) → over (store_of es) cs p ≡ store_of fs p
same_stores es fs cs before after changed p = by (has_path (paths_of es) p) (has_path (paths_of fs) p) (has_path (changed_paths cs) p) refl refl refl
  where
    by : (a b c : Bool) → has_path (paths_of es) p ≡ a → has_path (paths_of fs) p ≡ b → has_path (changed_paths cs) p ≡ c → over (store_of es) cs p ≡ store_of fs p
    by true b c e f g = at_one_of (paths_of es) (over (store_of es) cs) (store_of fs) p before e
    by false true c e f g = at_one_of (paths_of fs) (over (store_of es) cs) (store_of fs) p after f
    by false false true e f g = at_one_of (changed_paths cs) (over (store_of es) cs) (store_of fs) p changed g
    by false false false e f g = as_before (store_of es) cs p g ∙ nowhere_else es p e ∙ sym (nowhere_else fs p f)
