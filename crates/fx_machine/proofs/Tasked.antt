-- A transaction looks at paths alone, and what it sets may stand there.
use Rattle.std.proofs.Common.{◌≡◌, ℕ, ◌+◌, Bool, true, false, cond, not, refl, subst, sym, List, [], ◌∷◌, ◌++◌, Ok, Err}
use Rattle.std.specs.List.{All}
use Rattle.std.specs.Ordering.{eq_by_cmp}
use Rattle.std.proofs.lemmas.List.Elements.{All-nil, All-cons, All-head, All-tail, All-filter}
use Rattle.fx_store.specs.declared.changes.Change.{Change}
use Rattle.fx_store.specs.Names.{path_cmp, IsPath}
use Rattle.fx_store.specs.Rule.{Ask, Answer}
use Rattle.fx_store.specs.Whole.{Store, update, over}
use Rattle.fx_store.specs.Orders.{path_eq_same}
use Rattle.fx_expr.specs.Eval.{eval_of, text_in, names_in, truth_in}
use Rattle.fx_expr.specs.Tree.{Tree}
use Rattle.fx_spec.specs.SpecTree.{SpecTree}
use Rattle.fx_spec.specs.CommandTree.{ActTree, CommandTree, Block, block, count, count_block}
use Rattle.fx_spec.specs.Describe.{Bindings}
use Rattle.fx_spec.specs.Place.{Address}
use Rattle.fx_spec.specs.Move.{Answered, unrefused, evaluated, at_place, go_into, go_to, go_down, go_next, go_prev, go_out, go_up, fetch_at, whole_at, validate_at}
use Rattle.fx_spec.specs.Edit.{store_at, create_at, remove_at}
use Rattle.fx_spec.specs.Task.{Task, Ends, Looks, Sets, consulted, once, asking, ◌>=>◌}
use Rattle.fx_spec.specs.Transaction.{Effect, Moves, Changes, moves, edits, moving, editing, from_place, effect, Standing, Flow, On, Over, go_on, binding, assigning, or_stop, taking, tried, leaving, within, each_in, run, run_block, transaction}
use Rattle.fx_machine.specs.Asks.{MayStand, AsksPaths, MaySet, TaskAsksPaths, HoldsNodes, LooksAtPaths}
use Rattle.fx_machine.proofs.Asking.{asks_then, asking_then, task_then}
use Rattle.fx_machine.proofs.Valued.{Asks, at_place_asks, asks_at_place, go_into_asks, go_to_asks, go_down_asks, go_next_asks, go_prev_asks, fetch_asks, whole_asks, validate_asks}
use Rattle.fx_machine.proofs.Edited.{edit_sets, store_asks, create_asks, remove_asks}

-- ------------------------------------------------------------------------------------------------------------- effects

-- the changes of an effect may stand
abbrev MayTake : Effect → Type 0
MayTake (Moves a) = Unit {0}
MayTake (Changes changes) = MaySet changes

abbrev MayTakeOf : Answered Effect → Type 0
MayTakeOf (Ok e) = MayTake e
MayTakeOf (Err f) = Unit {0}

moving_asks : (rule : Ask (Answered Address)) → Asks rule → AsksPaths MayTakeOf (moving rule)
moving_asks rule is = asks_then (λ _. Unit {0}) MayTakeOf rule (λ a. Answer (moves a)) is go
  where
    go : (a : Answered Address) → Unit {0} → MayTakeOf (moves a)
    go (Ok a) any = tt
    go (Err f) any = tt

editing_asks : (rule : Ask (Answered (List Change))) → AsksPaths edit_sets rule → AsksPaths MayTakeOf (editing rule)
editing_asks rule is = asks_then edit_sets MayTakeOf rule (λ changes. Answer (edits changes)) is go
  where
    go : (x : Answered (List Change)) → edit_sets x → MayTakeOf (edits x)
    go (Ok changes) may = may
    go (Err f) may = tt

unrefused_asks : {A B : Type 0} (P : Answered B → Type 0) (next : A → Ask (Answered B)) (x : Answered A) → ((a : A) → AsksPaths P (next a)) → ((f : _) → P (Err f)) → AsksPaths P (unrefused next x)
unrefused_asks P next (Ok a) each refused = each a
unrefused_asks P next (Err f) each refused = refused f

effect_asks : (root : SpecTree) (a : Address) (vars : Bindings) (act : ActTree) → AsksPaths MayTakeOf (effect root a vars act)
effect_asks root a vars ActTree.into = moving_asks (from_place root a go_into) (asks_at_place root a (λ at. go_into a at.path at.env at.spec) (λ at is. go_into_asks a at.path at.env at.spec is))
effect_asks root a vars (ActTree.to e) =
    moving_asks (unrefused (λ t. from_place root a (go_to (text_in t))) (evaluated (eval_of vars e)))
    (unrefused_asks (λ _. Unit {0}) (λ t. from_place root a (go_to (text_in t))) (evaluated (eval_of vars e)) (λ t. asks_at_place root a (λ at. go_to (text_in t) a at.path at.env at.spec) (λ at is. go_to_asks (text_in t) a at.path at.env at.spec)) (λ f. tt))
effect_asks root a vars ActTree.next = moving_asks (go_next root a) (go_next_asks root a)
effect_asks root a vars ActTree.prev = moving_asks (go_prev root a) (go_prev_asks root a)
effect_asks root a vars ActTree.out = moving_asks (Answer (go_out a)) tt
effect_asks root a vars ActTree.down = moving_asks (from_place root a go_down) (asks_at_place root a (λ at. go_down a at.path at.env at.spec) (λ at is. go_down_asks a at.path at.env at.spec))
effect_asks root a vars ActTree.up = moving_asks (Answer (go_up a)) tt
effect_asks root a vars ActTree.top = moving_asks (Answer (Ok [])) tt
effect_asks root a vars (ActTree.store e) =
    editing_asks (unrefused (λ v. at_place root a (store_at v)) (evaluated (eval_of vars e)))
    (unrefused_asks edit_sets (λ v. at_place root a (store_at v)) (evaluated (eval_of vars e)) (λ v. at_place_asks edit_sets root a (store_at v) (λ f. tt) (λ at is. store_asks v at is)) (λ f. tt))
effect_asks root a vars ActTree.create = editing_asks (at_place root a create_at) (at_place_asks edit_sets root a create_at (λ f. tt) (λ at is. create_asks at is))
effect_asks root a vars ActTree.remove = editing_asks (at_place root a remove_at) (at_place_asks edit_sets root a remove_at (λ f. tt) (λ at is. remove_asks at is))

-- ------------------------------------------------------------------------------------------------------------- commands

-- the task looks at paths alone and sets what may stand there, whatever it ends with
abbrev pub TaskAsks : {A : Type 0} → Task A → Type 0
TaskAsks task = TaskAsksPaths (λ _. Unit {0}) task

asking_any : {A B : Type 0} (rule : Ask A) (f : A → Task B) → Asks rule → ((a : A) → TaskAsks (f a)) → TaskAsks (asking rule f)
asking_any rule f is next = asking_then (λ _. Unit {0}) (λ _. Unit {0}) rule f is (λ a _. next a)

task_any : {A B : Type 0} (task : Task A) (f : A → Task B) → TaskAsks task → ((a : A) → TaskAsks (f a)) → TaskAsks (task >=> f)
task_any task f is next = task_then (λ _. Unit {0}) (λ _. Unit {0}) task f is (λ a _. next a)

taking_asks : (s : Standing) (e : Effect) → MayTake e → TaskAsks (taking s e)
taking_asks s (Moves a) may = tt
taking_asks s (Changes changes) may = (may, tt)

effect_task : (i : ℕ) (s : Standing) (x : Answered Effect) → MayTakeOf x → TaskAsks (or_stop i s (taking s) x)
effect_task i s (Ok e) may = taking_asks s e may
effect_task i s (Err f) may = tt

tried_asks : (s : Standing) (x : List ℕ) (o : Answered Effect) → MayTakeOf o → TaskAsks (tried s x o)
tried_asks s x (Ok e) may = taking_asks (binding s x _) e may
tried_asks s x (Err f) may = tt

or_stop_asks : {A : Type 0} (i : ℕ) (s : Standing) (next : A → Task Flow) (x : Answered A) → ((a : A) → TaskAsks (next a)) → TaskAsks (or_stop i s next x)
or_stop_asks i s next (Ok a) each = each a
or_stop_asks i s next (Err f) each = tt

go_on_asks : (next : Standing → Task Flow) (f : Flow) → ((s : Standing) → TaskAsks (next s)) → TaskAsks (go_on next f)
go_on_asks next (On s) each = each s
go_on_asks next (Over end outputs) each = tt

within_asks : (s : Standing) (body : Task Flow) → TaskAsks body → TaskAsks (within s body)
within_asks s body is = task_any body (λ f. Ends (leaving s f)) is (λ f. tt)

each_asks : (body : Standing → Task Flow) (x : List ℕ) → ((s : Standing) → TaskAsks (body s)) → (names : List (List ℕ)) (s : Standing) → TaskAsks (each_in body x names s)
each_asks body x is [] s = tt
each_asks body x is (t ∷ ts) s =
    task_any (within s (body (binding s x (Tree.str t)))) (go_on (λ s. each_in body x ts s)) (within_asks s (body (binding s x (Tree.str t))) (is (binding s x (Tree.str t))))
    (λ f. go_on_asks (λ s. each_in body x ts s) f (λ u. each_asks body x is ts u))

cond_task : (b : Bool) (t u : Task Flow) → TaskAsks t → TaskAsks u → TaskAsks (cond b t u)
cond_task true t u is other = is
cond_task false t u is other = other

-- a question at the place of the address, whose answer is bound
question_asks : (root : SpecTree) (i : ℕ) (s : Standing) (x : List ℕ) (rule : Ask (Answered Tree)) → Asks rule → TaskAsks (asking rule (or_stop i s (λ v. Ends (On (binding s x v)))))
question_asks root i s x rule is = asking_any rule (or_stop i s (λ v. Ends (On (binding s x v)))) is (λ o. or_stop_asks i s (λ v. Ends (On (binding s x v))) o (λ v. tt))

mutual
  run_asks : (root : SpecTree) (c : CommandTree) (i : ℕ) (s : Standing) → TaskAsks (run root i c s)
  run_asks root (CommandTree.act a) i s = asking_then MayTakeOf (λ _. Unit {0}) (effect root s.address s.vars a) (or_stop i s (taking s)) (effect_asks root s.address s.vars a) (effect_task i s)
  run_asks root (CommandTree.attempt x a) i s = asking_then MayTakeOf (λ _. Unit {0}) (effect root s.address s.vars a) (tried s x) (effect_asks root s.address s.vars a) (tried_asks s x)
  run_asks root (CommandTree.bind x e) i s = or_stop_asks i s (λ v. Ends (On (binding s x v))) (evaluated (eval_of s.vars e)) (λ v. tt)
  run_asks root (CommandTree.assign x e) i s = or_stop_asks i s (λ v. Ends (On (assigning s x v))) (evaluated (eval_of s.vars e)) (λ v. tt)
  run_asks root (CommandTree.fetch x shape) i s = question_asks root i s x (at_place root s.address (fetch_at shape)) (asks_at_place root s.address (fetch_at shape) (fetch_asks shape))
  run_asks root (CommandTree.whole x shape) i s = question_asks root i s x (at_place root s.address (whole_at shape)) (asks_at_place root s.address (whole_at shape) (whole_asks shape))
  run_asks root (CommandTree.validate x) i s = question_asks root i s x (at_place root s.address validate_at) (asks_at_place root s.address validate_at validate_asks)
  run_asks root (CommandTree.print e) i s = or_stop_asks i s (λ v. Ends (On (record s { outputs = s.outputs ++ v ∷ [] }))) (evaluated (eval_of s.vars e)) (λ v. tt)
  run_asks root (CommandTree.branch e a b) i s =
      or_stop_asks i s (λ v. within s (cond (truth_in v) (run_block root (1 + i) a s) (run_block root (1 + (i + count_block a)) b s))) (evaluated (eval_of s.vars e))
      (λ v. within_asks s (cond (truth_in v) (run_block root (1 + i) a s) (run_block root (1 + (i + count_block a)) b s)) (cond_task (truth_in v) (run_block root (1 + i) a s) (run_block root (1 + (i + count_block a)) b s) (block_asks root a (1 + i) s) (block_asks root b (1 + (i + count_block a)) s)))
  run_asks root (CommandTree.each x e a) i s =
      or_stop_asks i s (λ v. each_in (λ s. run_block root (1 + i) a s) x (names_in v) s) (evaluated (eval_of s.vars e))
      (λ v. each_asks (λ s. run_block root (1 + i) a s) x (λ u. block_asks root a (1 + i) u) (names_in v) s)
  run_asks root CommandTree.abort i s = tt

  block_asks : (root : SpecTree) (b : Block) (i : ℕ) (s : Standing) → TaskAsks (run_block root i b s)
  block_asks root Block.none i s = tt
  block_asks root (Block.then c cs) i s =
      task_any (run root i c s) (go_on (λ s. run_block root (i + count c) cs s)) (run_asks root c i s)
      (λ f. go_on_asks (λ s. run_block root (i + count c) cs s) f (λ u. block_asks root cs (i + count c) u))

pub transaction_asks : (root : SpecTree) (t : List CommandTree) → TaskAsks (transaction root t)
unfolding transaction
transaction_asks root t = block_asks root (block t) 0 _

-- ------------------------------------------------------------------------------------------------------------- ways

-- what is set may stand, so the filestore's nodes are within their limits after it too
holds_update : (S : Store) (c : Change) → HoldsNodes S → MayStand c.path c.node → HoldsNodes (update S c)
holds_update S c holds may path = at (eq_by_cmp path_cmp path c.path) refl
  where
    at : (b : Bool) → eq_by_cmp path_cmp path c.path ≡ b → MayStand path (cond b c.node (S path))
    at true e = subst (λ p. MayStand p c.node) (sym (path_eq_same path c.path e)) may
    at false e = holds path

pub holds_over : (S : Store) (changes : List Change) → HoldsNodes S → MaySet changes → HoldsNodes (over S changes)
holds_over S [] holds may = holds
holds_over S (c ∷ changes) holds may =
    holds_over (update S c) changes (holds_update S c holds (All-head (λ (c : Change). IsPath c.path × MayStand c.path c.node) c changes may).1) (All-tail (λ (c : Change). IsPath c.path × MayStand c.path c.node) c changes may)

-- what such a task consults are paths
pub consulted_paths : {A : Type 0} (task : Task A) (S : Store) → HoldsNodes S → TaskAsks task → All IsPath (consulted S task)
consulted_paths (Ends a) S holds is = All-nil IsPath
consulted_paths (Looks p next) S holds is = All-cons IsPath p (consulted S (next (S p))) is.0 (consulted_paths (next (S p)) S holds (is.1 (S p) (holds p)))
consulted_paths (Sets changes next) S holds is = consulted_paths next (over S changes) (holds_over S changes holds is.0) is.1

once_paths : (ps : List (List (List ℕ))) → All IsPath ps → All IsPath (once ps)
once_paths [] all = All-nil IsPath
once_paths (p ∷ ps) all =
    All-cons IsPath p _ (All-head IsPath p ps all) (All-filter (λ q. not (eq_by_cmp path_cmp p q)) IsPath (once ps) (once_paths ps (All-tail IsPath p ps all)))

pub looks_at_paths : LooksAtPaths
looks_at_paths root t S holds = once_paths (consulted S (transaction root t)) (consulted_paths (transaction root t) S holds (transaction_asks root t))
