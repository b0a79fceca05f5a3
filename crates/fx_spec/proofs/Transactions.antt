-- A transaction leaves a whole filestore whole.
use Rattle.std.proofs.Common.{◌≡◌, ℕ, ◌+◌, Bool, true, false, cond, refl, ap, subst, sym, ◌∙◌, List, [], ◌∷◌, ◌++◌, take, Option, Some, None, Ok, Err}
use mathlib.Core.Path.{fun_ext}
use Rattle.std.specs.FinMap.{get}
use Rattle.fx_store.specs.declared.changes.Change.{Change}
use Rattle.fx_store.specs.Rule.{Ask, Answer, Look, Tick, answer}
use Rattle.fx_store.specs.Whole.{Store, Nodes, IsWhole, over}
use Rattle.fx_store.proofs.Asks.{answer-bind}
use Rattle.fx_expr.specs.Eval.{eval_of, text_in, names_in, truth_in}
use Rattle.fx_expr.specs.Tree.{Tree}
use Rattle.fx_spec.specs.declared.refusal.Refusal.{Refusal}
use Rattle.fx_spec.specs.SpecTree.{SpecTree}
use Rattle.fx_spec.specs.CommandTree.{ActTree, CommandTree, Block, block, count, count_block}
use Rattle.fx_spec.specs.Describe.{Bindings}
use Rattle.fx_spec.specs.Place.{Address, PlaceTree, place}
use Rattle.fx_spec.specs.Move.{Answered, unrefused, evaluated, needed, at_place, go_next, go_prev, go_out, go_up, go_into, go_to, go_down, fetch_at, whole_at, validate_at}
use Rattle.fx_spec.specs.Edit.{store_at, create_at, remove_at}
use Rattle.fx_spec.specs.Task.{Task, Ends, Looks, Sets, after, asking, ◌>=>◌}
use Rattle.fx_spec.specs.Transaction.{Effect, Moves, Changes, moves, edits, moving, editing, from_place, effect, Standing, Flow, On, Over, go_on, binding, assigning, or_stop, taking, tried, leaving, within, each_in, run, run_block, transaction, is_done, end}
use Rattle.fx_spec.specs.Plans.{Turn, txn_of}
use Rattle.fx_spec.specs.Order.{BaseTree, after_txn, after_all, state}
use Rattle.fx_spec.specs.Laws.{KeepsWhole, TransactionsKeepWhole, StatesAreWhole}
use Rattle.fx_spec.proofs.EditLaws.{edits_keep_whole, places_have_paths}
use Rattle.fx_spec.proofs.Tasks.{leaves_as_data}

-- each of a task's sets leaves the filestore whole
abbrev IsSafe : {A : Type 0} → Store → Task A → Type 0
IsSafe S (Ends a) = Unit {0}
IsSafe S (Looks p next) = IsSafe S (next (S p))
IsSafe S (Sets cs next) = IsWhole (over S cs) × IsSafe (over S cs) next

whole_after : {A : Type 0} (t : Task A) (S : Store) → IsWhole S → IsSafe S t → IsWhole (after S t)
whole_after (Ends a) S whole safe = whole
whole_after (Looks p next) S whole safe = whole_after (next (S p)) S whole safe
whole_after (Sets cs next) S whole safe = whole_after next (over S cs) safe.0 safe.1

safe-asking : {A B : Type 0} (rule : Ask A) (next : A → Task B) (S : Store) → IsSafe S (next (answer S rule)) → IsSafe S (asking rule next)
safe-asking (Answer a) next S safe = safe
safe-asking (Look p rule) next S safe = safe-asking (rule (S p)) next S safe
safe-asking (Tick rule) next S safe = safe-asking rule next S safe

-- a task, and then one that is safe wherever the filestore is whole
safe-then : {A B : Type 0} (t : Task A) (next : A → Task B) (S : Store) → IsWhole S → IsSafe S t → ((a : A) (T : Store) → IsWhole T → IsSafe T (next a)) → IsSafe S (t >=> next)
safe-then (Ends a) next S whole safe on = on a S whole
safe-then (Looks p t) next S whole safe on = safe-then (t (S p)) next S whole safe on
safe-then (Sets cs t) next S whole safe on = (safe.0, safe-then t next (over S cs) safe.0 safe.1 on)

-- no move changes the filestore
pub no_move : (x : Answered Address) (cs : List Change) → moves x ≡ Ok (Changes cs) → ⊥
no_move (Ok a) cs e = cc
no_move (Err f) cs e = cc

pub not_moving : (S : Store) (rule : Ask (Answered Address)) (cs : List Change) → answer S (moving rule) ≡ Ok (Changes cs) → ⊥
not_moving S rule cs e = no_move (answer S rule) cs (sym (answer-bind S rule (λ a. Answer (moves a))) ∙ e)

pub edited : (x : Answered (List Change)) (cs : List Change) → edits x ≡ Ok (Changes cs) → x ≡ Ok cs
edited (Ok ds) cs e = cc
edited (Err f) cs e = cc

editing_keeps : (S : Store) (rule : Ask (Answered (List Change))) → KeepsWhole S rule → (cs : List Change) → answer S (editing rule) ≡ Ok (Changes cs) → IsWhole (over S cs)
editing_keeps S rule keeps cs e = keeps cs (edited (answer S rule) cs (sym (answer-bind S rule (λ changes. Answer (edits changes))) ∙ e))

-- an edit at the place of an address
placed_keeps : (S : Store) (root : SpecTree) (a : Address) (edit : PlaceTree → Ask (Answered (List Change))) → ((at : PlaceTree) → answer S (place root a) ≡ Some at → KeepsWhole S (edit at)) → KeepsWhole S (at_place root a edit)
placed_keeps S root a edit keeps cs e =
    go (answer S (place root a)) refl (sym (answer-bind S (place root a) (λ at. unrefused edit (needed Refusal.NoPlace at))) ∙ e)
  where
    go : (o : Option PlaceTree) → answer S (place root a) ≡ o → answer S (unrefused edit (needed Refusal.NoPlace o)) ≡ Ok cs → IsWhole (over S cs)
    go None f h = cc
    go (Some at) f h = keeps at f cs h

stored_keeps : (S : Store) → IsWhole S → (root : SpecTree) (a : Address) (x : Answered Tree) → KeepsWhole S (unrefused (λ v. at_place root a (store_at v)) x)
stored_keeps S whole root a (Err f) cs e = cc
stored_keeps S whole root a (Ok v) cs e = placed_keeps S root a (store_at v) (λ at f. edits_keep_whole.store S whole at (places_have_paths S root a at f) v) cs e

effect_keeps : (S : Store) → IsWhole S → (root : SpecTree) (a : Address) (vars : Bindings) (act : ActTree) (cs : List Change) → answer S (effect root a vars act) ≡ Ok (Changes cs) → IsWhole (over S cs)
effect_keeps S whole root a vars ActTree.into cs e = absurd (not_moving S (from_place root a go_into) cs e)
effect_keeps S whole root a vars (ActTree.to t) cs e = absurd (not_moving S (unrefused (λ t. from_place root a (go_to (text_in t))) (evaluated (eval_of vars t))) cs e)
effect_keeps S whole root a vars ActTree.next cs e = absurd (not_moving S (go_next root a) cs e)
effect_keeps S whole root a vars ActTree.prev cs e = absurd (not_moving S (go_prev root a) cs e)
effect_keeps S whole root a vars ActTree.out cs e = absurd (not_moving S (Answer (go_out a)) cs e)
effect_keeps S whole root a vars ActTree.down cs e = absurd (not_moving S (from_place root a go_down) cs e)
effect_keeps S whole root a vars ActTree.up cs e = absurd (not_moving S (Answer (go_up a)) cs e)
effect_keeps S whole root a vars ActTree.top cs e = absurd (not_moving S (Answer (Ok [])) cs e)
effect_keeps S whole root a vars (ActTree.store t) cs e =
    editing_keeps S (unrefused (λ v. at_place root a (store_at v)) (evaluated (eval_of vars t))) (stored_keeps S whole root a (evaluated (eval_of vars t))) cs e
effect_keeps S whole root a vars ActTree.create cs e =
    editing_keeps S (at_place root a create_at) (placed_keeps S root a create_at (λ at f. edits_keep_whole.create S whole at (places_have_paths S root a at f))) cs e
effect_keeps S whole root a vars ActTree.remove cs e =
    editing_keeps S (at_place root a remove_at) (placed_keeps S root a remove_at (λ at f. edits_keep_whole.remove S whole at (places_have_paths S root a at f))) cs e

-- what takes place is safe where each effect is
safe_taking : (S : Store) (s : Standing) (x : Effect) → ((cs : List Change) → x ≡ Changes cs → IsWhole (over S cs)) → IsSafe S (taking s x)
safe_taking S s (Moves a) keeps = tt
safe_taking S s (Changes cs) keeps = (keeps cs refl, tt)

safe_effect : (S : Store) (i : ℕ) (s : Standing) (x : Answered Effect) → ((cs : List Change) → x ≡ Ok (Changes cs) → IsWhole (over S cs)) → IsSafe S (or_stop i s (taking s) x)
safe_effect S i s (Ok e) keeps = safe_taking S s e (λ cs f. keeps cs (ap Ok f))
safe_effect S i s (Err f) keeps = tt

safe_tried : (S : Store) (s : Standing) (x : List ℕ) (o : Answered Effect) → ((cs : List Change) → o ≡ Ok (Changes cs) → IsWhole (over S cs)) → IsSafe S (tried s x o)
safe_tried S s x (Ok e) keeps = safe_taking S (binding s x _) e (λ cs f. keeps cs (ap Ok f))
safe_tried S s x (Err f) keeps = tt

-- a task that a value leads to
safe_or_stop : {A : Type 0} (S : Store) (i : ℕ) (s : Standing) (next : A → Task Flow) (x : Answered A) → ((a : A) → IsSafe S (next a)) → IsSafe S (or_stop i s next x)
safe_or_stop S i s next (Ok a) on = on a
safe_or_stop S i s next (Err f) on = tt

safe_go_on : (S : Store) (next : Standing → Task Flow) (f : Flow) → ((s : Standing) → IsSafe S (next s)) → IsSafe S (go_on next f)
safe_go_on S next (On s) on = on s
safe_go_on S next (Over end outputs) on = tt

safe_within : (S : Store) (s : Standing) (body : Task Flow) → IsWhole S → IsSafe S body → IsSafe S (within s body)
safe_within S s body whole safe = safe-then body (λ f. Ends (leaving s f)) S whole safe (λ f T w. tt)

safe_each : (body : Standing → Task Flow) (x : List ℕ) → ((s : Standing) (T : Store) → IsWhole T → IsSafe T (body s)) → (names : List (List ℕ)) (s : Standing) (S : Store) → IsWhole S → IsSafe S (each_in body x names s)
safe_each body x safe [] s S whole = tt
safe_each body x safe (t ∷ ts) s S whole =
    safe-then (within s (body (binding s x (Tree.str t)))) (go_on (λ s. each_in body x ts s)) S whole (safe_within S s (body (binding s x (Tree.str t))) whole (safe (binding s x (Tree.str t)) S whole))
    (λ f T w. safe_go_on T (λ s. each_in body x ts s) f (λ u. safe_each body x safe ts u T w))

safe_cond : (S : Store) (b : Bool) (t u : Task Flow) → IsSafe S t → IsSafe S u → IsSafe S (cond b t u)
safe_cond S true t u safe other = safe
safe_cond S false t u safe other = other

mutual
  safe_run : (root : SpecTree) (c : CommandTree) (i : ℕ) (s : Standing) (S : Store) → IsWhole S → IsSafe S (run root i c s)
  safe_run root (CommandTree.act a) i s S whole = safe-asking (effect root s.address s.vars a) (or_stop i s (taking s)) S (safe_effect S i s (answer S (effect root s.address s.vars a)) (effect_keeps S whole root s.address s.vars a))
  safe_run root (CommandTree.attempt x a) i s S whole = safe-asking (effect root s.address s.vars a) (tried s x) S (safe_tried S s x (answer S (effect root s.address s.vars a)) (effect_keeps S whole root s.address s.vars a))
  safe_run root (CommandTree.bind x e) i s S whole = safe_or_stop S i s (λ v. Ends (On (binding s x v))) (evaluated (eval_of s.vars e)) (λ v. tt)
  safe_run root (CommandTree.assign x e) i s S whole = safe_or_stop S i s (λ v. Ends (On (assigning s x v))) (evaluated (eval_of s.vars e)) (λ v. tt)
  safe_run root (CommandTree.fetch x shape) i s S whole = safe-asking (at_place root s.address (fetch_at shape)) (or_stop i s (λ v. Ends (On (binding s x v)))) S (safe_or_stop S i s (λ v. Ends (On (binding s x v))) (answer S (at_place root s.address (fetch_at shape))) (λ v. tt))
  safe_run root (CommandTree.whole x shape) i s S whole = safe-asking (at_place root s.address (whole_at shape)) (or_stop i s (λ v. Ends (On (binding s x v)))) S (safe_or_stop S i s (λ v. Ends (On (binding s x v))) (answer S (at_place root s.address (whole_at shape))) (λ v. tt))
  safe_run root (CommandTree.validate x) i s S whole = safe-asking (at_place root s.address validate_at) (or_stop i s (λ v. Ends (On (binding s x v)))) S (safe_or_stop S i s (λ v. Ends (On (binding s x v))) (answer S (at_place root s.address validate_at)) (λ v. tt))
  safe_run root (CommandTree.print e) i s S whole = safe_or_stop S i s (λ v. Ends (On (record s { outputs = s.outputs ++ v ∷ [] }))) (evaluated (eval_of s.vars e)) (λ v. tt)
  safe_run root (CommandTree.branch e a b) i s S whole =
      safe_or_stop S i s (λ v. within s (cond (truth_in v) (run_block root (1 + i) a s) (run_block root (1 + (i + count_block a)) b s))) (evaluated (eval_of s.vars e))
      (λ v. safe_within S s (cond (truth_in v) (run_block root (1 + i) a s) (run_block root (1 + (i + count_block a)) b s)) whole (safe_cond S (truth_in v) (run_block root (1 + i) a s) (run_block root (1 + (i + count_block a)) b s) (safe_block root a (1 + i) s S whole) (safe_block root b (1 + (i + count_block a)) s S whole)))
  safe_run root (CommandTree.each x e a) i s S whole =
      safe_or_stop S i s (λ v. each_in (λ s. run_block root (1 + i) a s) x (names_in v) s) (evaluated (eval_of s.vars e))
      (λ v. safe_each (λ s. run_block root (1 + i) a s) x (λ u T w. safe_block root a (1 + i) u T w) (names_in v) s S whole)
  safe_run root CommandTree.abort i s S whole = tt

  safe_block : (root : SpecTree) (b : Block) (i : ℕ) (s : Standing) (S : Store) → IsWhole S → IsSafe S (run_block root i b s)
  safe_block root Block.none i s S whole = tt
  safe_block root (Block.then c cs) i s S whole =
      safe-then (run root i c s) (go_on (λ s. run_block root (i + count c) cs s)) S whole (safe_run root c i s S whole)
      (λ f T w. safe_go_on T (λ s. run_block root (i + count c) cs s) f (λ u. safe_block root cs (i + count c) u T w))

pub transactions_keep_whole : TransactionsKeepWhole
unfolding transaction
transactions_keep_whole root t S whole = at (is_done (end root t S))
  where
    at : (b : Bool) → IsWhole (cond b (after S (transaction root t)) S)
    at true = whole_after (transaction root t) S whole (safe_block root (block t) 0 _ S whole)
    at false = whole

left_whole : (root : SpecTree) (nodes : Nodes) (t : Option (List CommandTree)) → IsWhole (get nodes) → IsWhole (get (after_txn root nodes t))
left_whole root nodes None whole = whole
left_whole root nodes (Some t) whole = subst IsWhole (sym (fun_ext (leaves_as_data root t nodes))) (transactions_keep_whole root t (get nodes) whole)

all_whole : (base : BaseTree) (o : List Turn) (nodes : Nodes) → IsWhole (get nodes) → IsWhole (get (after_all base nodes o))
all_whole base [] nodes whole = whole
all_whole base (turn ∷ o) nodes whole = all_whole base o (after_txn base.description nodes (txn_of base.plan turn)) (left_whole base.description nodes (txn_of base.plan turn) whole)

pub states_are_whole : StatesAreWhole
unfolding state
states_are_whole base whole o i = all_whole base (take i o) base.loaded whole
