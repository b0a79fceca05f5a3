-- A transaction's variables keep the shapes that its names have.
use Rattle.std.proofs.Common.{◌≡◌, ℕ, ◌+◌, Bool, true, false, cond, List, [], ◌∷◌, ◌++◌, length, take, Option, Some, None, Ok, Err, refl, sym, subst, append-nil, append_assoc, is_some}
use Rattle.std.specs.Prelude.{IfOk, pos}
use Rattle.fx_store.specs.Rule.{Ask, Answer, answer}
use Rattle.fx_store.specs.Whole.{Store}
use Rattle.fx_store.proofs.Asks.{answer-bind}
use Rattle.fx_expr.specs.Bindings.{bind, bound}
use Rattle.fx_expr.specs.Eval.{Outcome, eval_of, names_in, truth_in}
use Rattle.fx_expr.specs.ShapeTree.{ShapeTree}
use Rattle.fx_expr.specs.Shapes.{ValueHas, BindingsHave}
use Rattle.fx_expr.specs.Tree.{Tree}
use Rattle.fx_expr.proofs.Shaping.{eval_has}
use Rattle.fx_spec.specs.declared.refusal.Refusal.{Refusal}
use Rattle.fx_spec.specs.Refusals.{refusal_number}
use Rattle.fx_spec.specs.SpecTree.{SpecTree}
use Rattle.fx_spec.specs.CommandTree.{CommandTree, Block, count, count_block}
use Rattle.fx_spec.specs.Describe.{value}
use Rattle.fx_spec.specs.Move.{Answered, evaluated, unrefused, needed, at_place, fetch_at, whole_at, validate_at}
use Rattle.fx_spec.specs.Place.{Address, PlaceTree, place}
use Rattle.fx_spec.specs.Task.{Task, Ends, result, after, asking}
use Rattle.fx_spec.specs.Transaction.{Effect, Moves, Changes, effect, Standing, Flow, On, Over, go_on, binding, assigning, or_stop, taking, tried, leaving, within, each_in, run, run_block}
use Rattle.fx_spec.specs.WellShaped.{Scope, IsDescription, IsBlock}
use Rattle.fx_spec.proofs.Shaped.{fetches_have_shapes, wholes_have_shapes}
use Rattle.fx_spec.proofs.Scoped.{bind_has, set_has, cut_has}
use Rattle.fx_laws.proofs.Stored.{result-asking, result-then}
use Rattle.fx_laws.specs.Scoped.{IfOn, Opens, CommandsKeepShapes, BlocksKeepShapes}

-- ---- what follows

opens_same : (scope : Scope) (rest : Block) (s : Standing) → BindingsHave s.vars scope → IsBlock scope rest → Opens scope rest s
opens_same scope rest s b h = record {
  more = [];
  bindings = subst (BindingsHave s.vars) (sym (append-nil scope)) b;
  shaped = subst (λ g. IsBlock g rest) (sym (append-nil scope)) h;
}

opens_bound : (scope : Scope) (rest : Block) (s : Standing) (x : List ℕ) (v : Tree) (shape : ShapeTree) → BindingsHave s.vars scope → ValueHas v shape → IsBlock (bind scope x shape) rest → Opens scope rest (binding s x v)
opens_bound scope rest s x v shape b has h = record {
  more = (x, shape) ∷ [];
  bindings = bind_has s.vars scope x v shape b has;
  shaped = h;
}

weaker : (P Q : Standing → Type 0) (f : Flow) → ((s : Standing) → P s → Q s) → IfOn P f → IfOn Q f
weaker P Q (On s) to h = to s h
weaker P Q (Over end outputs) to h = tt

evaluated_has : (o : Outcome) (shape : ShapeTree) → IfOk o (λ v. ValueHas v shape) → IfOk (evaluated o) (λ v. ValueHas v shape)
evaluated_has (Ok v) shape h = h
evaluated_has (Err f) shape h = tt

validated : (S : Store) (root : SpecTree) (a : Address) → IfOk (answer S (at_place root a validate_at)) (λ v. ValueHas v ShapeTree.bool)
validated S root a = subst (λ (x : Answered Tree). IfOk x (λ v. ValueHas v ShapeTree.bool)) (sym (answer-bind S (place root a) (λ at. unrefused validate_at (needed Refusal.NoPlace at)))) (by (answer S (place root a)))
  where
    by : (o : Option PlaceTree) → IfOk (answer S (unrefused validate_at (needed Refusal.NoPlace o))) (λ v. ValueHas v ShapeTree.bool)
    by None = tt
    by (Some at) =
        subst (λ (x : Answered Tree). IfOk x (λ v. ValueHas v ShapeTree.bool)) (sym (answer-bind S (value at.path at.env at.spec) (λ v. Answer (Ok (Tree.bool (is_some v)))))) refl

-- a value that is bound
bound_on : (S : Store) (i : ℕ) (scope : Scope) (rest : Block) (s : Standing) (x : List ℕ) (shape : ShapeTree) (o : Answered Tree) → BindingsHave s.vars scope → IfOk o (λ v. ValueHas v shape) → IsBlock (bind scope x shape) rest
    → IfOn (Opens scope rest) (result S (or_stop i s (λ v. Ends (On (binding s x v))) o))
bound_on S i scope rest s x shape (Ok v) b has h = opens_bound scope rest s x v shape b has h
bound_on S i scope rest s x shape (Err f) b has h = tt

asked_on : (S : Store) (i : ℕ) (scope : Scope) (rest : Block) (s : Standing) (x : List ℕ) (shape : ShapeTree) (rule : Ask (Answered Tree)) → BindingsHave s.vars scope → IfOk (answer S rule) (λ v. ValueHas v shape) → IsBlock (bind scope x shape) rest
    → IfOn (Opens scope rest) (result S (asking rule (or_stop i s (λ v. Ends (On (binding s x v))))))
asked_on S i scope rest s x shape rule b has h =
    subst (IfOn (Opens scope rest)) (sym (result-asking S rule (or_stop i s (λ v. Ends (On (binding s x v)))))) (bound_on S i scope rest s x shape (answer S rule) b has h)

assigned_on : (S : Store) (i : ℕ) (scope : Scope) (rest : Block) (s : Standing) (x : List ℕ) (shape : ShapeTree) (o : Answered Tree) → BindingsHave s.vars scope → IfOk o (λ v. ValueHas v shape) → bound scope x ≡ Some shape → IsBlock scope rest
    → IfOn (Opens scope rest) (result S (or_stop i s (λ v. Ends (On (assigning s x v))) o))
assigned_on S i scope rest s x shape (Ok v) b has is h = opens_same scope rest (assigning s x v) (set_has s.vars scope x v shape b is has) h
assigned_on S i scope rest s x shape (Err f) b has is h = tt

printed_on : (S : Store) (i : ℕ) (scope : Scope) (rest : Block) (s : Standing) (o : Answered Tree) → BindingsHave s.vars scope → IsBlock scope rest → IfOn (Opens scope rest) (result S (or_stop i s (λ v. Ends (On (record s { outputs = s.outputs ++ v ∷ [] }))) o))
printed_on S i scope rest s (Ok v) b h = opens_same scope rest (record s { outputs = s.outputs ++ v ∷ [] }) b h
printed_on S i scope rest s (Err f) b h = tt

-- an effect takes place
taken_on : (S : Store) (s : Standing) (P : Standing → Type 0) (e : Effect) → ((a : Address) → P (record s { address = a })) → P s → IfOn P (result S (taking s e))
taken_on S s P (Moves a) moved same = moved a
taken_on S s P (Changes cs) moved same = same

effect_on : (S : Store) (i : ℕ) (s : Standing) (P : Standing → Type 0) (o : Answered Effect) → ((a : Address) → P (record s { address = a })) → P s → IfOn P (result S (or_stop i s (taking s) o))
effect_on S i s P (Ok e) moved same = taken_on S s P e moved same
effect_on S i s P (Err f) moved same = tt

tried_on : (S : Store) (scope : Scope) (rest : Block) (s : Standing) (x : List ℕ) (o : Answered Effect) → BindingsHave s.vars scope → IsBlock (bind scope x ShapeTree.int) rest → IfOn (Opens scope rest) (result S (tried s x o))
tried_on S scope rest s x (Ok e) b h =
    taken_on S (binding s x (Tree.int (pos 0))) (Opens scope rest) e
    (λ a. record { more = (x, ShapeTree.int) ∷ []; bindings = bind_has s.vars scope x (Tree.int (pos 0)) ShapeTree.int b refl; shaped = h })
    (opens_bound scope rest s x (Tree.int (pos 0)) ShapeTree.int b refl h)
tried_on S scope rest s x (Err f) b h = opens_bound scope rest s x (Tree.int (pos (refusal_number f))) ShapeTree.int b refl h

-- ---- blocks that are left

abbrev Has : Scope → Standing → Type 0
Has scope s = BindingsHave s.vars scope

left_on : (scope more : Scope) (s t : Standing) → BindingsHave s.vars scope → BindingsHave t.vars (scope ++ more) → BindingsHave (take (length s.vars) t.vars) scope
left_on scope more s t b c = cut_has s.vars t.vars scope more b c

-- the block's names are gone with it
within_on : (S : Store) (scope : Scope) (s : Standing) (body : Task Flow) → BindingsHave s.vars scope → IfOn (λ t. (more : Scope) × BindingsHave t.vars (scope ++ more)) (result S body) → IfOn (Has scope) (result S (within s body))
within_on S scope s body b h = subst (IfOn (Has scope)) (sym (result-then S body (λ f. Ends (leaving s f)))) (by (result S body) h)
  where
    by : (f : Flow) → IfOn (λ t. (more : Scope) × BindingsHave t.vars (scope ++ more)) f → IfOn (Has scope) (leaving s f)
    by (On t) c = left_on scope c.0 s t b c.1
    by (Over end outputs) c = tt

each_on : (scope : Scope) (x : List ℕ) (body : Standing → Task Flow) → ((S : Store) (u : Standing) → BindingsHave u.vars (bind scope x ShapeTree.str) → IfOn (λ t. (more : Scope) × BindingsHave t.vars (bind scope x ShapeTree.str ++ more)) (result S (body u)))
    → (ts : List (List ℕ)) (S : Store) (s : Standing) → BindingsHave s.vars scope → IfOn (Has scope) (result S (each_in body x ts s))
each_on scope x body inner [] S s b = b
each_on scope x body inner (t ∷ ts) S s b =
    subst (IfOn (Has scope)) (sym (result-then S one (go_on (λ s. each_in body x ts s))))
    (further (result S one) turn (λ u c. each_on scope x body inner ts (after S one) u c))
  where
    one : Task Flow
    one = within s (body (binding s x (Tree.str t)))

    turn : IfOn (Has scope) (result S one)
    turn = within_on S scope s (body (binding s x (Tree.str t))) b
        (weaker (λ u. (more : Scope) × BindingsHave u.vars (bind scope x ShapeTree.str ++ more)) (λ u. (more : Scope) × BindingsHave u.vars (scope ++ more)) (result S (body (binding s x (Tree.str t))))
        (λ u c. ((x, ShapeTree.str) ∷ c.0, subst (BindingsHave u.vars) (append_assoc scope ((x, ShapeTree.str) ∷ []) c.0) c.1))
        (inner S (binding s x (Tree.str t)) (bind_has s.vars scope x (Tree.str t) ShapeTree.str b refl)))

    further : (f : Flow) → IfOn (Has scope) f → ((u : Standing) → BindingsHave u.vars scope → IfOn (Has scope) (result (after S one) (each_in body x ts u))) → IfOn (Has scope) (result (after S one) (go_on (λ s. each_in body x ts s) f))
    further (On u) c rest = rest u c
    further (Over end outputs) c rest = tt

forget : (scope : Scope) (rest : Block) (t : Standing) → Opens scope rest t → (more : Scope) × BindingsHave t.vars (scope ++ more)
forget scope rest t o = (o.more, o.bindings)

-- a branch, or a loop, by the value of its expression
stop_on : (S : Store) (i : ℕ) (s : Standing) (scope : Scope) (rest : Block) (next : Tree → Task Flow) (o : Answered Tree) → IsBlock scope rest → ((v : Tree) → IfOn (Has scope) (result S (next v))) → IfOn (Opens scope rest) (result S (or_stop i s next o))
stop_on S i s scope rest next (Ok v) h on = weaker (Has scope) (Opens scope rest) (result S (next v)) (λ t b. opens_same scope rest t b h) (on v)
stop_on S i s scope rest next (Err f) h on = tt

cond_on : (S : Store) (P : Standing → Type 0) (t : Bool) (a b : Task Flow) → IfOn P (result S a) → IfOn P (result S b) → IfOn P (result S (cond t a b))
cond_on S P true a b first second = first
cond_on S P false a b first second = second

-- ---- commands and blocks

mutual
  run_on : (root : SpecTree) (is : IsDescription [] root) (c : CommandTree) (S : Store) (i : ℕ) (rest : Block) (scope : Scope) (s : Standing) → BindingsHave s.vars scope → IsBlock scope (Block.then c rest) → IfOn (Opens scope rest) (result S (run root i c s))
  run_on root is (CommandTree.act a) S i rest scope s b h =
      subst (IfOn (Opens scope rest)) (sym (result-asking S (effect root s.address s.vars a) (or_stop i s (taking s))))
      (effect_on S i s (Opens scope rest) (answer S (effect root s.address s.vars a)) (λ at. opens_same scope rest (record s { address = at }) b h.1) (opens_same scope rest s b h.1))
  run_on root is (CommandTree.attempt x a) S i rest scope s b h =
      subst (IfOn (Opens scope rest)) (sym (result-asking S (effect root s.address s.vars a) (tried s x))) (tried_on S scope rest s x (answer S (effect root s.address s.vars a)) b h.2)
  run_on root is (CommandTree.bind x e) S i rest scope s b h = bound_on S i scope rest s x h.0 (evaluated (eval_of s.vars e)) b (evaluated_has (eval_of s.vars e) h.0 (eval_has scope s.vars e h.0 b h.1)) h.3
  run_on root is (CommandTree.assign x e) S i rest scope s b h = assigned_on S i scope rest s x h.0 (evaluated (eval_of s.vars e)) b (evaluated_has (eval_of s.vars e) h.0 (eval_has scope s.vars e h.0 b h.1)) h.2 h.3
  run_on root is (CommandTree.fetch x shape) S i rest scope s b h = asked_on S i scope rest s x shape (at_place root s.address (fetch_at shape)) b (fetches_have_shapes root is S s.address shape) h.1
  run_on root is (CommandTree.whole x shape) S i rest scope s b h = asked_on S i scope rest s x shape (at_place root s.address (whole_at shape)) b (wholes_have_shapes root is S s.address shape) h.1
  run_on root is (CommandTree.validate x) S i rest scope s b h = asked_on S i scope rest s x ShapeTree.bool (at_place root s.address validate_at) b (validated S root s.address) h.1
  run_on root is (CommandTree.print e) S i rest scope s b h = printed_on S i scope rest s (evaluated (eval_of s.vars e)) b h.1
  run_on root is (CommandTree.branch e p q) S i rest scope s b h =
      stop_on S i s scope rest (λ v. within s (cond (truth_in v) (run_block root (1 + i) p s) (run_block root (1 + (i + count_block p)) q s))) (evaluated (eval_of s.vars e)) h.3
      (λ v. within_on S scope s (cond (truth_in v) (run_block root (1 + i) p s) (run_block root (1 + (i + count_block p)) q s)) b
      (cond_on S (λ t. (more : Scope) × BindingsHave t.vars (scope ++ more)) (truth_in v) (run_block root (1 + i) p s) (run_block root (1 + (i + count_block p)) q s)
      (weaker (Opens scope Block.none) (λ t. (more : Scope) × BindingsHave t.vars (scope ++ more)) (result S (run_block root (1 + i) p s)) (forget scope Block.none) (block_on root is p S (1 + i) scope s b h.1))
      (weaker (Opens scope Block.none) (λ t. (more : Scope) × BindingsHave t.vars (scope ++ more)) (result S (run_block root (1 + (i + count_block p)) q s)) (forget scope Block.none) (block_on root is q S (1 + (i + count_block p)) scope s b h.2))))
  run_on root is (CommandTree.each x e p) S i rest scope s b h =
      stop_on S i s scope rest (λ v. each_in (λ s. run_block root (1 + i) p s) x (names_in v) s) (evaluated (eval_of s.vars e)) h.3
      (λ v. each_on scope x (λ s. run_block root (1 + i) p s)
      (λ T u c. weaker (Opens (bind scope x ShapeTree.str) Block.none) (λ t. (more : Scope) × BindingsHave t.vars (bind scope x ShapeTree.str ++ more)) (result T (run_block root (1 + i) p u)) (forget (bind scope x ShapeTree.str) Block.none) (block_on root is p T (1 + i) (bind scope x ShapeTree.str) u c h.2))
      (names_in v) S s b)
  run_on root is CommandTree.abort S i rest scope s b h = tt

  block_on : (root : SpecTree) (is : IsDescription [] root) (p : Block) (S : Store) (i : ℕ) (scope : Scope) (s : Standing) → BindingsHave s.vars scope → IsBlock scope p → IfOn (Opens scope Block.none) (result S (run_block root i p s))
  block_on root is Block.none S i scope s b h = opens_same scope Block.none s b tt
  block_on root is (Block.then c cs) S i scope s b h =
      subst (IfOn (Opens scope Block.none)) (sym (result-then S (run root i c s) (go_on (λ s. run_block root (i + count c) cs s))))
      (further (result S (run root i c s)) (run_on root is c S i cs scope s b h) (λ u more has shaped. block_on root is cs (after S (run root i c s)) (i + count c) (scope ++ more) u has shaped))
    where
      further : (f : Flow) → IfOn (Opens scope cs) f
          → ((u : Standing) (more : Scope) → BindingsHave u.vars (scope ++ more) → IsBlock (scope ++ more) cs → IfOn (Opens (scope ++ more) Block.none) (result (after S (run root i c s)) (run_block root (i + count c) cs u)))
          → IfOn (Opens scope Block.none) (result (after S (run root i c s)) (go_on (λ s. run_block root (i + count c) cs s) f))
      further (On u) o rest =
          weaker (Opens (scope ++ o.more) Block.none) (Opens scope Block.none) (result (after S (run root i c s)) (run_block root (i + count c) cs u))
          (λ t k. record { more = o.more ++ k.more; bindings = subst (BindingsHave t.vars) (append_assoc scope o.more k.more) k.bindings; shaped = tt }) (rest u o.more o.bindings o.shaped)
      further (Over end outputs) o rest = tt

pub commands_keep_shapes : CommandsKeepShapes
commands_keep_shapes root is S i c rest scope s b h = run_on root is c S i rest scope s b h

pub blocks_keep_shapes : BlocksKeepShapes
blocks_keep_shapes root is S i p scope s b h = block_on root is p S i scope s b h
