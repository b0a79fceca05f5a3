-- What a transaction sets is at paths that it has consulted.
use Rattle.std.proofs.Common.{◌≡◌, ℕ, ◌+◌, Bool, true, false, cond, refl, ap, sym, ◌∙◌, List, [], ◌∷◌, ◌++◌, Option, Some, None, Ok, Err}
use Rattle.std.proofs.lemmas.Bool.{true≢false}
use Rattle.std.specs.Prelude.{IsSome}
use Rattle.fx_store.specs.declared.changes.Change.{Change}
use Rattle.fx_store.specs.Changes.{changed_paths}
use Rattle.fx_store.specs.Rule.{Ask, Answer, Look, Tick, Known, Found, answer, asked, follow, if_known, seen, AllKnown, ◌>>=◌}
use Rattle.fx_store.specs.Whole.{Store, over}
use Rattle.fx_store.proofs.Asks.{answer-bind}
use Rattle.fx_expr.specs.Eval.{eval_of, text_in, names_in, truth_in}
use Rattle.fx_expr.specs.Tree.{Tree}
use Rattle.fx_spec.specs.declared.refusal.Refusal.{Refusal}
use Rattle.fx_spec.specs.SpecTree.{SpecTree}
use Rattle.fx_spec.specs.CommandTree.{ActTree, CommandTree, Block, block, count, count_block}
use Rattle.fx_spec.specs.Describe.{Bindings}
use Rattle.fx_spec.specs.EditLooks.{LooksAtChanges}
use Rattle.fx_spec.specs.Place.{Address, PlaceTree, place}
use Rattle.fx_spec.specs.Move.{Answered, unrefused, evaluated, needed, at_place, go_next, go_prev, go_out, go_up, go_into, go_to, go_down, fetch_at, whole_at, validate_at}
use Rattle.fx_spec.specs.Edit.{store_at, create_at, remove_at}
use Rattle.fx_spec.specs.Task.{Task, Ends, Looks, Sets, consulted, written, asking, ◌>=>◌}
use Rattle.fx_spec.specs.Transaction.{Effect, Moves, Changes, edits, editing, from_place, effect, Standing, Flow, On, Over, go_on, binding, assigning, or_stop, taking, tried, leaving, within, each_in, run, run_block, transaction}
use Rattle.fx_spec.proofs.EditLooks.{edits_look_at_changes}
use Rattle.fx_spec.proofs.Transactions.{not_moving, edited}
use Rattle.fx_laws.proofs.Among.{Path, is_among, Each, Among, each_itself, each_append}

-- paths at which something is known of a filestore, and no own changes
abbrev known_among : List Path → Store → Known
known_among ps S q = cond (is_among ps q) (Some (S q)) None

abbrev no_own : Known
no_own q = None

module _ (ps : List Path) where
  -- a rule that looks at such paths alone is answered by what is known
  followed_by : {A : Type 0} (S : Store) (rule : Ask A) → Each (Among ps) (asked S rule) → follow (known_among ps S) no_own rule ≡ Found (answer S rule)
  followed_by S (Answer a) h = refl
  followed_by S (Look p next) h =
      ap (λ b. if_known p (cond b (Some (S p)) None) (λ n. follow (known_among ps S) no_own (next (seen None n)))) h.0 ∙ followed_by S (next (S p)) h.1
  followed_by S (Tick rule) h = followed_by S rule h

  -- what is known is among the paths
  known_is : (S : Store) (q : Path) → IsSome (known_among ps S q) → Among ps q
  known_is S q h = at (is_among ps q) h
    where
      at : (b : Bool) → IsSome (cond b (Some (S q)) None) → b ≡ true
      at true h = refl
      at false h = absurd (true≢false (sym h))

  abbrev AreAmong : List Change → Type 0
  AreAmong cs = Each (λ (c : Change). Among ps c.path) cs

  known_changes : (S : Store) (cs : List Change) → AllKnown (known_among ps S) (changed_paths cs) → AreAmong cs
  known_changes S [] h = tt
  known_changes S (c ∷ cs) h = (known_is S c.path h.0, known_changes S cs h.1)

  -- ---- the looks of a rule, and of the one that goes on

  front_asked : {A B : Type 0} (S : Store) (rule : Ask A) (f : A → Ask B) → Each (Among ps) (asked S (rule >>= f)) → Each (Among ps) (asked S rule)
  front_asked S (Answer a) f h = tt
  front_asked S (Look p next) f h = (h.0, front_asked S (next (S p)) f h.1)
  front_asked S (Tick rule) f h = front_asked S rule f h

  rest_asked : {A B : Type 0} (S : Store) (rule : Ask A) (f : A → Ask B) → Each (Among ps) (asked S (rule >>= f)) → Each (Among ps) (asked S (f (answer S rule)))
  rest_asked S (Answer a) f h = h
  rest_asked S (Look p next) f h = rest_asked S (next (S p)) f h.1
  rest_asked S (Tick rule) f h = rest_asked S rule f h

  -- the edit changes paths that it has looked at
  abbrev Edits : Store → Ask (Answered (List Change)) → Type 0
  Edits S edit = (cs : List Change) → Each (Among ps) (asked S edit) → answer S edit ≡ Ok cs → AreAmong cs

  looked_edits : (S : Store) (edit : Ask (Answered (List Change))) → LooksAtChanges (known_among ps S) no_own edit → Edits S edit
  looked_edits S edit looks cs h e = known_changes S cs (looks cs (followed_by S edit h ∙ ap Found e))

  placed_edits : (S : Store) (root : SpecTree) (a : Address) (edit : PlaceTree → Ask (Answered (List Change))) → ((at : PlaceTree) → Edits S (edit at)) → Edits S (at_place root a edit)
  placed_edits S root a edit each cs h e =
      go (answer S (place root a)) (rest_asked S (place root a) (λ at. unrefused edit (needed Refusal.NoPlace at)) h) (sym (answer-bind S (place root a) (λ at. unrefused edit (needed Refusal.NoPlace at))) ∙ e)
    where
      go : (o : Option PlaceTree) → Each (Among ps) (asked S (unrefused edit (needed Refusal.NoPlace o))) → answer S (unrefused edit (needed Refusal.NoPlace o)) ≡ Ok cs → AreAmong cs
      go None h e = cc
      go (Some at) h e = each at cs h e

  stored_edits : (S : Store) (root : SpecTree) (a : Address) (x : Answered Tree) → Edits S (unrefused (λ v. at_place root a (store_at v)) x)
  stored_edits S root a (Err f) cs h e = cc
  stored_edits S root a (Ok v) cs h e = placed_edits S root a (store_at v) (λ at. looked_edits S (store_at v at) (edits_look_at_changes.store (known_among ps S) no_own v at)) cs h e

  -- ---- effects

  editing_among : (S : Store) (rule : Ask (Answered (List Change))) → Edits S rule → (cs : List Change) → Each (Among ps) (asked S (editing rule)) → answer S (editing rule) ≡ Ok (Changes cs) → AreAmong cs
  editing_among S rule is cs h e =
      is cs (front_asked S rule (λ changes. Answer (edits changes)) h) (edited (answer S rule) cs (sym (answer-bind S rule (λ changes. Answer (edits changes))) ∙ e))

  effect_among : (S : Store) (root : SpecTree) (a : Address) (vars : Bindings) (act : ActTree) (cs : List Change) → Each (Among ps) (asked S (effect root a vars act)) → answer S (effect root a vars act) ≡ Ok (Changes cs) → AreAmong cs
  effect_among S root a vars ActTree.into cs h e = absurd (not_moving S (from_place root a go_into) cs e)
  effect_among S root a vars (ActTree.to t) cs h e = absurd (not_moving S (unrefused (λ t. from_place root a (go_to (text_in t))) (evaluated (eval_of vars t))) cs e)
  effect_among S root a vars ActTree.next cs h e = absurd (not_moving S (go_next root a) cs e)
  effect_among S root a vars ActTree.prev cs h e = absurd (not_moving S (go_prev root a) cs e)
  effect_among S root a vars ActTree.out cs h e = absurd (not_moving S (Answer (go_out a)) cs e)
  effect_among S root a vars ActTree.down cs h e = absurd (not_moving S (from_place root a go_down) cs e)
  effect_among S root a vars ActTree.up cs h e = absurd (not_moving S (Answer (go_up a)) cs e)
  effect_among S root a vars ActTree.top cs h e = absurd (not_moving S (Answer (Ok [])) cs e)
  effect_among S root a vars (ActTree.store t) cs h e =
      editing_among S (unrefused (λ v. at_place root a (store_at v)) (evaluated (eval_of vars t))) (stored_edits S root a (evaluated (eval_of vars t))) cs h e
  effect_among S root a vars ActTree.create cs h e =
      editing_among S (at_place root a create_at) (placed_edits S root a create_at (λ at. looked_edits S (create_at at) (edits_look_at_changes.create (known_among ps S) no_own at))) cs h e
  effect_among S root a vars ActTree.remove cs h e =
      editing_among S (at_place root a remove_at) (placed_edits S root a remove_at (λ at. looked_edits S (remove_at at) (edits_look_at_changes.remove (known_among ps S) no_own at))) cs h e

  -- ---- tasks

  -- where all that the task looks at is among the paths, all that it sets is
  abbrev Touches : {A : Type 0} → Store → Task A → Type 0
  Touches S (Ends a) = Unit {0}
  Touches S (Looks p next) = Among ps p → Touches S (next (S p))
  Touches S (Sets cs next) = AreAmong cs × Touches (over S cs) next

  touched_written : {A : Type 0} (t : Task A) (S : Store) → Each (Among ps) (consulted S t) → Touches S t → AreAmong (written S t)
  touched_written (Ends a) S h is = tt
  touched_written (Looks p next) S h is = touched_written (next (S p)) S h.1 (is h.0)
  touched_written (Sets cs next) S h is = each_append (λ (c : Change). Among ps c.path) cs (written (over S cs) next) is.0 (touched_written next (over S cs) h is.1)

  touch_asking : {A B : Type 0} (rule : Ask A) (next : A → Task B) (S : Store) → (Each (Among ps) (asked S rule) → Touches S (next (answer S rule))) → Touches S (asking rule next)
  touch_asking (Answer a) next S h = h tt
  touch_asking (Look p rule) next S h = λ is. touch_asking (rule (S p)) next S (λ all. h (is, all))
  touch_asking (Tick rule) next S h = touch_asking rule next S h

  touch_then : {A B : Type 0} (t : Task A) (next : A → Task B) (S : Store) → Touches S t → ((a : A) (T : Store) → Touches T (next a)) → Touches S (t >=> next)
  touch_then (Ends a) next S h on = on a S
  touch_then (Looks p t) next S h on = λ is. touch_then (t (S p)) next S (h is) on
  touch_then (Sets cs t) next S h on = (h.0, touch_then t next (over S cs) h.1 on)

  touch_taking : (S : Store) (s : Standing) (x : Effect) → ((cs : List Change) → x ≡ Changes cs → AreAmong cs) → Touches S (taking s x)
  touch_taking S s (Moves a) is = tt
  touch_taking S s (Changes cs) is = (is cs refl, tt)

  touch_effect : (S : Store) (i : ℕ) (s : Standing) (x : Answered Effect) → ((cs : List Change) → x ≡ Ok (Changes cs) → AreAmong cs) → Touches S (or_stop i s (taking s) x)
  touch_effect S i s (Ok e) is = touch_taking S s e (λ cs f. is cs (ap Ok f))
  touch_effect S i s (Err f) is = tt

  touch_tried : (S : Store) (s : Standing) (x : List ℕ) (o : Answered Effect) → ((cs : List Change) → o ≡ Ok (Changes cs) → AreAmong cs) → Touches S (tried s x o)
  touch_tried S s x (Ok e) is = touch_taking S (binding s x _) e (λ cs f. is cs (ap Ok f))
  touch_tried S s x (Err f) is = tt

  touch_or_stop : {A : Type 0} (S : Store) (i : ℕ) (s : Standing) (next : A → Task Flow) (x : Answered A) → ((a : A) → Touches S (next a)) → Touches S (or_stop i s next x)
  touch_or_stop S i s next (Ok a) on = on a
  touch_or_stop S i s next (Err f) on = tt

  touch_go_on : (S : Store) (next : Standing → Task Flow) (f : Flow) → ((s : Standing) → Touches S (next s)) → Touches S (go_on next f)
  touch_go_on S next (On s) on = on s
  touch_go_on S next (Over end outputs) on = tt

  touch_within : (S : Store) (s : Standing) (body : Task Flow) → Touches S body → Touches S (within s body)
  touch_within S s body is = touch_then body (λ f. Ends (leaving s f)) S is (λ f T. tt)

  touch_each : (body : Standing → Task Flow) (x : List ℕ) → ((s : Standing) (T : Store) → Touches T (body s)) → (names : List (List ℕ)) (s : Standing) (S : Store) → Touches S (each_in body x names s)
  touch_each body x is [] s S = tt
  touch_each body x is (t ∷ ts) s S =
      touch_then (within s (body (binding s x (Tree.str t)))) (go_on (λ s. each_in body x ts s)) S (touch_within S s (body (binding s x (Tree.str t))) (is (binding s x (Tree.str t)) S))
      (λ f T. touch_go_on T (λ s. each_in body x ts s) f (λ u. touch_each body x is ts u T))

  touch_cond : (S : Store) (b : Bool) (t u : Task Flow) → Touches S t → Touches S u → Touches S (cond b t u)
  touch_cond S true t u is other = is
  touch_cond S false t u is other = other

  mutual
    touch_run : (root : SpecTree) (c : CommandTree) (i : ℕ) (s : Standing) (S : Store) → Touches S (run root i c s)
    touch_run root (CommandTree.act a) i s S = touch_asking (effect root s.address s.vars a) (or_stop i s (taking s)) S (λ all. touch_effect S i s (answer S (effect root s.address s.vars a)) (λ cs e. effect_among S root s.address s.vars a cs all e))
    touch_run root (CommandTree.attempt x a) i s S = touch_asking (effect root s.address s.vars a) (tried s x) S (λ all. touch_tried S s x (answer S (effect root s.address s.vars a)) (λ cs e. effect_among S root s.address s.vars a cs all e))
    touch_run root (CommandTree.bind x e) i s S = touch_or_stop S i s (λ v. Ends (On (binding s x v))) (evaluated (eval_of s.vars e)) (λ v. tt)
    touch_run root (CommandTree.assign x e) i s S = touch_or_stop S i s (λ v. Ends (On (assigning s x v))) (evaluated (eval_of s.vars e)) (λ v. tt)
    touch_run root (CommandTree.fetch x shape) i s S = touch_asking (at_place root s.address (fetch_at shape)) (or_stop i s (λ v. Ends (On (binding s x v)))) S (λ all. touch_or_stop S i s (λ v. Ends (On (binding s x v))) (answer S (at_place root s.address (fetch_at shape))) (λ v. tt))
    touch_run root (CommandTree.whole x shape) i s S = touch_asking (at_place root s.address (whole_at shape)) (or_stop i s (λ v. Ends (On (binding s x v)))) S (λ all. touch_or_stop S i s (λ v. Ends (On (binding s x v))) (answer S (at_place root s.address (whole_at shape))) (λ v. tt))
    touch_run root (CommandTree.validate x) i s S = touch_asking (at_place root s.address validate_at) (or_stop i s (λ v. Ends (On (binding s x v)))) S (λ all. touch_or_stop S i s (λ v. Ends (On (binding s x v))) (answer S (at_place root s.address validate_at)) (λ v. tt))
    touch_run root (CommandTree.print e) i s S = touch_or_stop S i s (λ v. Ends (On (record s { outputs = s.outputs ++ v ∷ [] }))) (evaluated (eval_of s.vars e)) (λ v. tt)
    touch_run root (CommandTree.branch e a b) i s S =
        touch_or_stop S i s (λ v. within s (cond (truth_in v) (run_block root (1 + i) a s) (run_block root (1 + (i + count_block a)) b s))) (evaluated (eval_of s.vars e))
        (λ v. touch_within S s (cond (truth_in v) (run_block root (1 + i) a s) (run_block root (1 + (i + count_block a)) b s)) (touch_cond S (truth_in v) (run_block root (1 + i) a s) (run_block root (1 + (i + count_block a)) b s) (touch_block root a (1 + i) s S) (touch_block root b (1 + (i + count_block a)) s S)))
    touch_run root (CommandTree.each x e a) i s S =
        touch_or_stop S i s (λ v. each_in (λ s. run_block root (1 + i) a s) x (names_in v) s) (evaluated (eval_of s.vars e))
        (λ v. touch_each (λ s. run_block root (1 + i) a s) x (λ u T. touch_block root a (1 + i) u T) (names_in v) s S)
    touch_run root CommandTree.abort i s S = tt

    touch_block : (root : SpecTree) (b : Block) (i : ℕ) (s : Standing) (S : Store) → Touches S (run_block root i b s)
    touch_block root Block.none i s S = tt
    touch_block root (Block.then c cs) i s S =
        touch_then (run root i c s) (go_on (λ s. run_block root (i + count c) cs s)) S (touch_run root c i s S)
        (λ f T. touch_go_on T (λ s. run_block root (i + count c) cs s) f (λ u. touch_block root cs (i + count c) u T))

-- all that a transaction sets is at paths that it consults
pub written_consulted : (root : SpecTree) (t : List CommandTree) (S : Store) → Each (λ (c : Change). Among (consulted S (transaction root t)) c.path) (written S (transaction root t))
unfolding transaction
written_consulted root t S =
    touched_written (consulted S (transaction root t)) (transaction root t) S (each_itself (consulted S (transaction root t))) (touch_block (consulted S (transaction root t)) root (block t) 0 _ S)
