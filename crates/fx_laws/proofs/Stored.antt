-- A store of what is there changes nothing.
use Rattle.std.proofs.Common.{◌≡◌, ℕ, ◌+◌, ◌<◌, ◌≤◌, nat_lt, Bool, true, false, cond, ◌&&◌, ◌||◌, refl, ap, subst, sym, ◌∙◌, List, [], ◌∷◌, ◌++◌, length, Option, Some, None, Ok, Err, nat_eq, arith}
use Rattle.std.proofs.lemmas.Bool.{true≢false, ltb-true, or_left, or_right}
use Rattle.std.proofs.lemmas.List.Folds.{list_any-append}
use Rattle.std.specs.Cmp.Lexicographic.{pointwise}
use Rattle.std.specs.List.{list_all}
use Rattle.std.specs.Option.{IfSome, IsSome, unwrap_or, option_or}
use Rattle.std.specs.Ordering.{eq_by_cmp}
use Rattle.fx_base.proofs.Names.{name_itself}
use Rattle.fx_base.proofs.Orders.{bytes_itself}
use Rattle.fx_store.specs.declared.node.Node.{Node}
use Rattle.fx_store.specs.declared.node.Node.TheVariants.{File, Dir, Link}
use Rattle.fx_store.specs.declared.node.Landing.{Landing}
use Rattle.fx_store.specs.declared.node.Landing.TheVariants.{At, Absent, Blocked, TooManyLinks}
use Rattle.fx_store.specs.declared.changes.Change.{Change}
use Rattle.fx_store.specs.declared.name.PathFault.TheVariants.{BadName, TooDeep}
use Rattle.fx_store.specs.Faults.{read_link}
use Rattle.fx_store.specs.Names.{name_cmp, path_cmp, is_name, has, components, has_link_form, IsPath}
use Rattle.fx_store.specs.Orders.{path_eq_same}
use Rattle.fx_store.specs.Resolve.{resolve, lands, ◌/ₚ◌}
use Rattle.fx_store.specs.Rule.{Ask, Answer, Look, Tick, answer, ◌>>=◌}
use Rattle.fx_store.specs.Whole.{Store, IsNode, over}
use Rattle.fx_store.proofs.Asks.{answer-bind}
use Rattle.fx_expr.specs.Bindings.{bind, bound}
use Rattle.fx_expr.specs.Eval.{eval_of}
use Rattle.fx_expr.specs.ExprTree.{ExprTree}
use Rattle.fx_expr.specs.Sets.{set_of}
use Rattle.fx_expr.specs.ShapeTree.{ShapeTree}
use Rattle.fx_expr.specs.Tree.{Tree}
use Rattle.fx_spec.specs.declared.refusal.Refusal.{Refusal}
use Rattle.fx_spec.specs.SpecTree.{SpecTree}
use Rattle.fx_spec.specs.CommandTree.{ActTree, CommandTree, Block, block, count}
use Rattle.fx_spec.specs.Describe.{Bindings, file_value, flag_value, dir_value, link_value, landed_value, content}
use Rattle.fx_spec.specs.Move.{Answered, unrefused, evaluated, needed, at_place, fetch_shape, has_fetch_shape, fetched, of_shape, asks_flag, flag_at, fetch_at}
use Rattle.fx_spec.specs.Edit.{set_to, clear, entry, entries, new_names, lacks_room, unless_deep, renewed, replaced, is_flag, store_landed, names_node, link_node, is_storable, stored_node, follows_last, store_at}
use Rattle.fx_spec.specs.Place.{Address, PlaceTree, place}
use Rattle.fx_spec.specs.Task.{Task, Ends, Looks, Sets, result, after, asking, ◌>=>◌}
use Rattle.fx_spec.specs.Transaction.{edits, effect, Standing, Flow, On, Over, go_on, binding, or_stop, taking, run, run_block, transaction, flow_end, is_done, end}
use Rattle.fx_spec.proofs.EditsClear.{has-set_of}
use Rattle.fx_laws.specs.Stored.{IsHeldValue, Same, SameContentIsAccepted, SameContentChangesNothing, storing, fetching_and_storing, ChangesNothing, SameStoreChangesNothing, FetchedStoreChangesNothing, LastLeaveNothing, SameStoreLeavesNothing, FetchedStoreLeavesNothing}

-- ---------------------------------------------------------------------------------------------- the changes of such a store

-- setting a path to what is there
set_same : (S : Store) (q : List (List ℕ)) (node : Node) → S q ≡ Some node → Same S (over S (set_to q node ∷ []))
set_same S q node e p = at (eq_by_cmp path_cmp p q) refl
  where
    at : (b : Bool) → eq_by_cmp path_cmp p q ≡ b → cond b (Some node) (S p) ≡ S p
    at true f = sym (ap S (path_eq_same p q f) ∙ e)
    at false f = refl

either : (b : Bool) → (b || b) ≡ true → b ≡ true
either true e = refl
either false e = e

-- a directory that lists the same names has no entry that changes
entry_none : (S : Store) (q names : List (List ℕ)) (n : List ℕ) → has names n ≡ true → answer S (entry q names names n) ≡ []
entry_none S q names n e = ap (λ b. answer S (cond b (cond b (Answer []) (Look (q /ₚ n) (λ node. Answer (set_to (q /ₚ n) (File [] false) ∷ [])))) (clear (q /ₚ n)))) e

entries_none : (S : Store) (q names ns : List (List ℕ)) → ((n : List ℕ) → has ns n ≡ true → has names n ≡ true) → answer S (entries (entry q names names) ns) ≡ []
entries_none S q names [] h = refl
entries_none S q names (n ∷ ns) h =
    answer-bind S (entry q names names n) (λ first. entries (entry q names names) ns >>= λ rest. Answer (first ++ rest))
    ∙ answer-bind S (entries (entry q names names) ns) (λ rest. Answer (answer S (entry q names names n) ++ rest))
    ∙ (λ i. entry_none S q names n (h n (or_left (eq_by_cmp name_cmp n n) (has ns n) (name_itself n))) i ++ entries_none S q names ns (λ m g. h m (or_right (eq_by_cmp name_cmp m n) (has ns m) g)) i)

same_names : (S : Store) (q names : List (List ℕ)) → answer S (new_names q names names) ≡ Ok (set_to q (Dir names) ∷ [])
same_names S q names =
    answer-bind S (entries (entry q names names) (set_of (names ++ names))) (λ below. Answer (Ok (set_to q (Dir names) ∷ below)))
    ∙ ap (λ below. Ok (set_to q (Dir names) ∷ below)) (entries_none S q names (set_of (names ++ names)) listed)
  where
    listed : (n : List ℕ) → has (set_of (names ++ names)) n ≡ true → has names n ≡ true
    listed n h = either (has names n) (sym (list_any-append (eq_by_cmp name_cmp n) names names) ∙ sym (has-set_of (names ++ names) n) ∙ h)

-- only a directory or a link of the same content replaces one by itself
renewed_dir : (flag : Bool) (made : Node) (names : List (List ℕ)) → renewed flag made (Dir names) ≡ Dir names → made ≡ Dir names
renewed_dir true (File bytes exec) names h = h
renewed_dir true (Dir new) names h = h
renewed_dir true (Link text) names h = h
renewed_dir false (File bytes exec) names h = h
renewed_dir false (Dir new) names h = h
renewed_dir false (Link text) names h = h

renewed_link : (flag : Bool) (made : Node) (text : List ℕ) → renewed flag made (Link text) ≡ Link text → made ≡ Link text
renewed_link true (File bytes exec) text h = h
renewed_link true (Dir names) text h = h
renewed_link true (Link new) text h = h
renewed_link false (File bytes exec) text h = h
renewed_link false (Dir names) text h = h
renewed_link false (Link new) text h = h

-- the node is replaced by itself
replaced_same : (S : Store) (q : List (List ℕ)) (flag : Bool) (made node : Node) → renewed flag made node ≡ node → lacks_room q node ≡ false → answer S (replaced flag q made (Some node)) ≡ Ok (set_to q node ∷ [])
replaced_same S q flag (File new is) (File bytes exec) holds room = ap (λ (n : Node). Ok (set_to q n ∷ [])) holds
replaced_same S q true (Dir names) (File bytes exec) holds room = absurd (cc)
replaced_same S q false (Dir names) (File bytes exec) holds room = absurd (cc)
replaced_same S q true (Link text) (File bytes exec) holds room = absurd (cc)
replaced_same S q false (Link text) (File bytes exec) holds room = absurd (cc)
replaced_same S q flag made (Link text) holds room = ap (λ m. answer S (replaced flag q m (Some (Link text)))) (renewed_link flag made text holds)
replaced_same S q flag made (Dir names) holds room =
    ap (λ m. answer S (replaced flag q m (Some (Dir names)))) (renewed_dir flag made names holds) ∙ ap (λ b. answer S (unless_deep b (new_names q names names))) room ∙ same_names S q names

replaced_deep : (S : Store) (q : List (List ℕ)) (flag : Bool) (made node : Node) → renewed flag made node ≡ node → lacks_room q node ≡ true → answer S (replaced flag q made (Some node)) ≡ Err Refusal.TooDeep
replaced_deep S q flag made (File bytes exec) holds deep = absurd (true≢false (sym deep))
replaced_deep S q flag made (Link text) holds deep = absurd (true≢false (sym deep))
replaced_deep S q flag made (Dir names) holds deep =
    ap (λ m. answer S (replaced flag q m (Some (Dir names)))) (renewed_dir flag made names holds) ∙ ap (λ b. answer S (unless_deep b (new_names q names names))) deep

-- a store of what is held replaces a node by itself
store_replaces : (S : Store) (at : PlaceTree) (v : Tree) (node : Node) (q : List (List ℕ)) (held : IsHeldValue S at v node q) → answer S (store_at v at) ≡ answer S (replaced (is_flag v) q held.made (Some node))
store_replaces S at v node q held =
    ap (λ x. answer S (unrefused (λ made. resolve at.path (follows_last made) >>= store_landed (is_flag v) at.path made) x)) held.stores
    ∙ answer-bind S (resolve at.path (follows_last held.made)) (store_landed (is_flag v) at.path held.made)
    ∙ ap (λ l. answer S (store_landed (is_flag v) at.path held.made l)) held.lands
    ∙ ap (λ n. answer S (replaced (is_flag v) q held.made n)) held.stands

pub same_content_changes_nothing : SameContentChangesNothing
same_content_changes_nothing S at v node q held changes e = by (lacks_room q node) refl
  where
    by : (b : Bool) → lacks_room q node ≡ b → Same S (over S changes)
    by true f = let g : ◌≡◌ {A = Answered (List Change)} (Err Refusal.TooDeep) (Ok changes) = sym (replaced_deep S q (is_flag v) held.made node held.holds f) ∙ sym (store_replaces S at v node q held) ∙ e in cc
    by false f =
        let g : ◌≡◌ {A = Answered (List Change)} (Ok (set_to q node ∷ [])) (Ok changes) = sym (replaced_same S q (is_flag v) held.made node held.holds f) ∙ sym (store_replaces S at v node q held) ∙ e in
        let same : set_to q node ∷ [] ≡ changes = cc in
        subst (λ cs. Same S (over S cs)) same (set_same S q node held.stands)

has_room : (q : List (List ℕ)) (node : Node) → length q ≤ 64 → IsNode q node → lacks_room q node ≡ false
has_room q (File bytes exec) short ok = refl
has_room q (Link text) short ok = refl
has_room q (Dir names) short ok = by (nat_lt 63 (length q)) refl
  where
    by : (b : Bool) → nat_lt 63 (length q) ≡ b → (b && nat_lt 0 (length names)) ≡ false
    by true f = let long : 63 < length q = ltb-true 63 (length q) f in ap (λ ns. nat_lt 0 (length ns)) (ok.1 (omega (arith, long, short)))
    by false f = refl

pub same_content_is_accepted : SameContentIsAccepted
same_content_is_accepted S whole at v node q held =
    store_replaces S at v node q held ∙ replaced_same S q (is_flag v) held.made node held.holds (has_room q node path.short (subst (λ n. IfSome n (IsNode q)) held.stands (whole.nodes q)))
  where
    path : IsPath q
    path = whole.paths q (subst IsSome (sym held.stands) refl)

-- ----------------------------------------------------------------------------------------------------------- tasks

pub after-asking : {A B : Type 0} (S : Store) (rule : Ask A) (next : A → Task B) → after S (asking rule next) ≡ after S (next (answer S rule))
after-asking S (Answer a) next = refl
after-asking S (Look p rule) next = after-asking S (rule (S p)) next
after-asking S (Tick rule) next = after-asking S rule next

pub result-asking : {A B : Type 0} (S : Store) (rule : Ask A) (next : A → Task B) → result S (asking rule next) ≡ result S (next (answer S rule))
result-asking S (Answer a) next = refl
result-asking S (Look p rule) next = result-asking S (rule (S p)) next
result-asking S (Tick rule) next = result-asking S rule next

pub after-then : {A B : Type 0} (S : Store) (t : Task A) (next : A → Task B) → after S (t >=> next) ≡ after (after S t) (next (result S t))
after-then S (Ends a) next = refl
after-then S (Looks p t) next = after-then S (t (S p)) next
after-then S (Sets cs t) next = after-then (over S cs) t next

pub result-then : {A B : Type 0} (S : Store) (t : Task A) (next : A → Task B) → result S (t >=> next) ≡ result (after S t) (next (result S t))
result-then S (Ends a) next = refl
result-then S (Looks p t) next = result-then S (t (S p)) next
result-then S (Sets cs t) next = result-then (over S cs) t next

-- a block of one command leaves what the command leaves
after-one : (root : SpecTree) (i : ℕ) (c : CommandTree) (s : Standing) (S : Store) → after S (run_block root i (block (c ∷ [])) s) ≡ after S (run root i c s)
after-one root i c s S = after-then S (run root i c s) (go_on (λ s. run_block root (i + count c) Block.none s)) ∙ ends (result S (run root i c s))
  where
    ends : (f : Flow) → after (after S (run root i c s)) (go_on (λ s. run_block root (i + count c) Block.none s) f) ≡ after S (run root i c s)
    ends (On t) = refl
    ends (Over e outputs) = refl

-- ------------------------------------------------------------------------------------------------------ the store command

-- what a store command leaves, by what the store answers at the place
stores_same : (S : Store) (i : ℕ) (s : Standing) (o : Answered (List Change)) → ((changes : List Change) → o ≡ Ok changes → Same S (over S changes)) → Same S (after S (or_stop i s (taking s) (edits o)))
stores_same S i s (Ok changes) h p = h changes refl p
stores_same S i s (Err f) h p = refl

-- the answer of an edit at a place
placed_answer : {A : Type 0} (S : Store) (root : SpecTree) (a : Address) (at : PlaceTree) (next : PlaceTree → Ask (Answered A)) → answer S (place root a) ≡ Some at → answer S (at_place root a next) ≡ answer S (next at)
placed_answer S root a at next e = answer-bind S (place root a) (λ at. unrefused next (needed Refusal.NoPlace at)) ∙ ap (λ o. answer S (unrefused next (needed Refusal.NoPlace o))) e

pub store_effect : (S : Store) (root : SpecTree) (a : Address) (vars : Bindings) (e : ExprTree) (v : Tree) (at : PlaceTree) → answer S (place root a) ≡ Some at → eval_of vars e ≡ Ok v → answer S (effect root a vars (ActTree.store e)) ≡ edits (answer S (store_at v at))
store_effect S root a vars e v at there is =
    answer-bind S (unrefused (λ v. at_place root a (store_at v)) (evaluated (eval_of vars e))) (λ changes. Answer (edits changes))
    ∙ ap (λ o. edits (answer S (unrefused (λ v. at_place root a (store_at v)) (evaluated o)))) is
    ∙ ap edits (placed_answer S root a at (store_at v) there)

store_leaves : (S : Store) (root : SpecTree) (i : ℕ) (e : ExprTree) (s : Standing) (v : Tree) (at : PlaceTree) → answer S (place root s.address) ≡ Some at → eval_of s.vars e ≡ Ok v → ((changes : List Change) → answer S (store_at v at) ≡ Ok changes → Same S (over S changes)) → Same S (after S (run_block root i (block (storing e)) s))
store_leaves S root i e s v at there is h p =
    ap (λ (T : Store). T p) (after-one root i (CommandTree.act (ActTree.store e)) s S ∙ after-asking S (effect root s.address s.vars (ActTree.store e)) (or_stop i s (taking s)) ∙ ap (λ o. after S (or_stop i s (taking s) o)) (store_effect S root s.address s.vars e v at there is))
    ∙ stores_same S i s (answer S (store_at v at)) h p

pub same_store_changes_nothing : SameStoreChangesNothing
same_store_changes_nothing root e s S same i = store_leaves S root i e s same.value same.at same.place same.expression (same_content_changes_nothing S same.at same.value same.node same.path same.held)

-- ------------------------------------------------------------------------------------------------- what was fetched, stored

-- the newest binding of a word is its own
bound_own : (env : Bindings) (x : List ℕ) (v : Tree) → bound (bind env x v) x ≡ Some v
bound_own [] x v = ap (λ b. cond b (Some v) None) (bytes_itself x)
bound_own (e ∷ env) x v = ap (λ o. option_or o (cond (pointwise nat_eq e.0 x) (Some e.1) None)) (bound_own env x v)

-- what is landed on holds the value
landed_there : (S : Store) (held : Option Node → Option Tree) (l : Landing) (v : Tree) → answer S (landed_value held l) ≡ Some v → (q : List (List ℕ)) × (l ≡ At q) × (held (S q) ≡ Some v)
landed_there S held (At q) v e = (q, refl, e)
landed_there S held (Absent here names) v e = absurd (cc)
landed_there S held (Blocked q) v e = absurd (cc)
landed_there S held TooManyLinks v e = absurd (cc)

needed_some : (o : Option Tree) (v : Tree) → needed Refusal.Lacks o ≡ Ok v → o ≡ Some v
needed_some None v e = absurd (cc)
needed_some (Some w) v e = cc

pub content_there : (S : Store) (held : Option Node → Option Tree) (follow : Bool) (p : List (List ℕ)) (v : Tree) → answer S (content held follow p >>= λ v. Answer (needed Refusal.Lacks v)) ≡ Ok v → (q : List (List ℕ)) × (lands S p follow ≡ At q) × (held (S q) ≡ Some v)
content_there S held follow p v e =
    landed_there S held (lands S p follow) v (sym (answer-bind S (resolve p follow) (landed_value held)) ∙ needed_some (answer S (content held follow p)) v (sym (answer-bind S (content held follow p) (λ v. Answer (needed Refusal.Lacks v))) ∙ e))

pub file_there : (n : Option Node) (v : Tree) → file_value n ≡ Some v → (bytes : List ℕ) × (exec : Bool) × (v ≡ Tree.str bytes) × (n ≡ Some (File bytes exec))
file_there None v e = absurd (cc)
file_there (Some (File bytes exec)) v e = (bytes, exec, (let same : v ≡ Tree.str bytes = cc in same), refl)
file_there (Some (Dir names)) v e = absurd (cc)
file_there (Some (Link text)) v e = absurd (cc)

pub flag_there : (n : Option Node) (v : Tree) → flag_value n ≡ Some v → (bytes : List ℕ) × (exec : Bool) × (v ≡ Tree.bool exec) × (n ≡ Some (File bytes exec))
flag_there None v e = absurd (cc)
flag_there (Some (File bytes exec)) v e = (bytes, exec, (let same : v ≡ Tree.bool exec = cc in same), refl)
flag_there (Some (Dir names)) v e = absurd (cc)
flag_there (Some (Link text)) v e = absurd (cc)

pub dir_there : (n : Option Node) (v : Tree) → dir_value n ≡ Some v → (names : List (List ℕ)) × (v ≡ Tree.names names) × (n ≡ Some (Dir names))
dir_there None v e = absurd (cc)
dir_there (Some (File bytes exec)) v e = absurd (cc)
dir_there (Some (Dir names)) v e = (names, (let same : v ≡ Tree.names names = cc in same), refl)
dir_there (Some (Link text)) v e = absurd (cc)

pub link_there : (n : Option Node) (v : Tree) → link_value n ≡ Some v → (text : List ℕ) × (v ≡ Tree.str text) × (n ≡ Some (Link text))
link_there None v e = absurd (cc)
link_there (Some (File bytes exec)) v e = absurd (cc)
link_there (Some (Dir names)) v e = absurd (cc)
link_there (Some (Link text)) v e = (text, (let same : v ≡ Tree.str text = cc in same), refl)

-- the node that is stored, where one is
no_node : (b : Bool) (node : Node) → ◌≡◌ {A = Answered Node} (cond b (Err Refusal.WrongForm) (Err Refusal.WrongForm)) (Ok node) → ⊥
no_node true node e = cc
no_node false node e = cc

one_node : (b : Bool) (made node : Node) (f : Refusal) → ◌≡◌ {A = Answered Node} (cond b (Ok made) (Err f)) (Ok node) → node ≡ made
one_node true made node f e = cc
one_node false made node f e = absurd (cc)

pub file_node : (bytes : List ℕ) (node : Node) → stored_node SpecTree.file (Tree.str bytes) ≡ Ok node → node ≡ File bytes false
file_node bytes node e = one_node (is_storable (Tree.str bytes)) (File bytes false) node Refusal.WrongForm e

pub flag_node : (exec : Bool) (node : Node) → stored_node SpecTree.file (Tree.bool exec) ≡ Ok node → node ≡ File [] exec
flag_node exec node e = one_node (is_storable (Tree.bool exec)) (File [] exec) node Refusal.WrongForm e

pub dir_node : (names : List (List ℕ)) (node : Node) → stored_node SpecTree.dir (Tree.names names) ≡ Ok node → node ≡ Dir names
dir_node names node e = at (is_storable (Tree.names names)) e
  where
    at : (b : Bool) → cond b (names_node names) (Err Refusal.WrongForm) ≡ Ok node → node ≡ Dir names
    at true f = one_node (list_all is_name names) (Dir names) node Refusal.BadName f
    at false f = absurd (cc)

pub link_node_is : (text : List ℕ) (node : Node) → stored_node SpecTree.link (Tree.str text) ≡ Ok node → node ≡ Link text
link_node_is text node e = at (is_storable (Tree.str text)) e
  where
    short : (b : Bool) → link_node (cond b (Err TooDeep) (Ok text)) ≡ Ok node → node ≡ Link text
    short true f = absurd (cc)
    short false f = cc

    formed : (b : Bool) → link_node (cond b (cond (nat_lt 64 (length (components text))) (Err TooDeep) (Ok text)) (Err BadName)) ≡ Ok node → node ≡ Link text
    formed true f = short (nat_lt 64 (length (components text))) f
    formed false f = absurd (cc)

    at : (b : Bool) → cond b (link_node (read_link text)) (Err Refusal.WrongForm) ≡ Ok node → node ≡ Link text
    at true f = formed (has_link_form text) f
    at false f = absurd (cc)

-- the node of an accepted store
pub node_of : (S : Store) (at : PlaceTree) (v : Tree) (changes : List Change) → answer S (store_at v at) ≡ Ok changes → (node : Node) × (stored_node at.spec v ≡ Ok node)
node_of S at v changes e = go (stored_node at.spec v) refl e
  where
    go : (o : Answered Node) → stored_node at.spec v ≡ o → answer S (unrefused (λ node. resolve at.path (follows_last node) >>= store_landed (is_flag v) at.path node) o) ≡ Ok changes → (node : Node) × (stored_node at.spec v ≡ Ok node)
    go (Ok node) f g = (node, f)
    go (Err f) h g = absurd (cc)

-- a node that the made one replaces by itself, where the place's path lands
pub held_of : (S : Store) (at : PlaceTree) (v w : Tree) (made is node : Node) (q : List (List ℕ)) → stored_node at.spec v ≡ Ok made → made ≡ is → v ≡ w → renewed (is_flag w) is node ≡ node → lands S at.path (follows_last is) ≡ At q → S q ≡ Some node → IsHeldValue S at v node q
held_of S at v w made is node q e same value holds l n = record {
  made = made;
  stores = e;
  holds = ap (λ (m : Node). renewed (is_flag v) m node) same ∙ ap (λ (u : Tree). renewed (is_flag u) is node) value ∙ holds;
  lands = ap (λ (m : Node). lands S at.path (follows_last m)) same ∙ l;
  stands = n;
}

-- some node holds the value where a store at the place lands
abbrev HoldsIt : Store → PlaceTree → Tree → Type 0
HoldsIt S at v = (q : List (List ℕ)) × (node : Node) × IsHeldValue S at v node q

fetched_held : (S : Store) (at : PlaceTree) (v : Tree) (made : Node) (spec : SpecTree) → at.spec ≡ spec → stored_node spec v ≡ Ok made → answer S (fetched at.path at.env spec) ≡ Ok v → HoldsIt S at v
fetched_held S at v made SpecTree.file is e f =
    let c : (q : List (List ℕ)) × (lands S at.path true ≡ At q) × (file_value (S q) ≡ Some v) = content_there S file_value true at.path v f in
    let t : (bytes : List ℕ) × (exec : Bool) × (v ≡ Tree.str bytes) × (S c.0 ≡ Some (File bytes exec)) = file_there (S c.0) v c.2 in
    (c.0, File t.0 t.1, held_of S at v (Tree.str t.0) made (File t.0 false) (File t.0 t.1) c.0 (ap (λ s. stored_node s v) is ∙ e) (file_node t.0 made (ap (stored_node SpecTree.file) (sym t.2) ∙ e)) t.2 refl c.1 t.3)
fetched_held S at v made SpecTree.dir is e f =
    let c : (q : List (List ℕ)) × (lands S at.path true ≡ At q) × (dir_value (S q) ≡ Some v) = content_there S dir_value true at.path v f in
    let t : (names : List (List ℕ)) × (v ≡ Tree.names names) × (S c.0 ≡ Some (Dir names)) = dir_there (S c.0) v c.2 in
    (c.0, Dir t.0, held_of S at v (Tree.names t.0) made (Dir t.0) (Dir t.0) c.0 (ap (λ s. stored_node s v) is ∙ e) (dir_node t.0 made (ap (stored_node SpecTree.dir) (sym t.1) ∙ e)) t.1 refl c.1 t.2)
fetched_held S at v made SpecTree.link is e f =
    let c : (q : List (List ℕ)) × (lands S at.path false ≡ At q) × (link_value (S q) ≡ Some v) = content_there S link_value false at.path v f in
    let t : (text : List ℕ) × (v ≡ Tree.str text) × (S c.0 ≡ Some (Link text)) = link_there (S c.0) v c.2 in
    (c.0, Link t.0, held_of S at v (Tree.str t.0) made (Link t.0) (Link t.0) c.0 (ap (λ s. stored_node s v) is ∙ e) (link_node_is t.0 made (ap (stored_node SpecTree.link) (sym t.1) ∙ e)) t.1 refl c.1 t.2)
fetched_held S at v made (SpecTree.focus t s) is e f = absurd (no_node (is_storable v) made e)
fetched_held S at v made (SpecTree.pair x a b) is e f = absurd (no_node (is_storable v) made e)
fetched_held S at v made (SpecTree.comp s x t) is e f = absurd (no_node (is_storable v) made e)
fetched_held S at v made (SpecTree.opt s) is e f = absurd (no_node (is_storable v) made e)
fetched_held S at v made (SpecTree.pred t) is e f = absurd (no_node (is_storable v) made e)
fetched_held S at v made (SpecTree.call es ps s) is e f = absurd (no_node (is_storable v) made e)
fetched_held S at v made (SpecTree.last es ps) is e f = absurd (no_node (is_storable v) made e)

-- the flag that was fetched at a file
flag_held : (S : Store) (at : PlaceTree) (v : Tree) (made : Node) → at.spec ≡ SpecTree.file → stored_node SpecTree.file v ≡ Ok made → answer S (flag_at at.path) ≡ Ok v → HoldsIt S at v
flag_held S at v made is e f =
    let c : (q : List (List ℕ)) × (lands S at.path true ≡ At q) × (flag_value (S q) ≡ Some v) = content_there S flag_value true at.path v f in
    let t : (bytes : List ℕ) × (exec : Bool) × (v ≡ Tree.bool exec) × (S c.0 ≡ Some (File bytes exec)) = flag_there (S c.0) v c.2 in
    (c.0, File t.0 t.1, held_of S at v (Tree.bool t.1) made (File [] t.1) (File t.0 t.1) c.0 (ap (λ s. stored_node s v) is ∙ e) (flag_node t.1 made (ap (stored_node SpecTree.file) (sym t.2) ∙ e)) t.2 refl c.1 t.3)

-- a flag is asked for at a file alone
pub flag_of_file : (shape : ShapeTree) (spec : SpecTree) → asks_flag shape spec ≡ true → spec ≡ SpecTree.file
flag_of_file ShapeTree.bool SpecTree.file e = refl
flag_of_file ShapeTree.bool SpecTree.dir e = absurd (true≢false (sym e))
flag_of_file ShapeTree.bool SpecTree.link e = absurd (true≢false (sym e))
flag_of_file ShapeTree.bool (SpecTree.focus t s) e = absurd (true≢false (sym e))
flag_of_file ShapeTree.bool (SpecTree.pair x a b) e = absurd (true≢false (sym e))
flag_of_file ShapeTree.bool (SpecTree.comp s x t) e = absurd (true≢false (sym e))
flag_of_file ShapeTree.bool (SpecTree.opt s) e = absurd (true≢false (sym e))
flag_of_file ShapeTree.bool (SpecTree.pred t) e = absurd (true≢false (sym e))
flag_of_file ShapeTree.bool (SpecTree.call es ps s) e = absurd (true≢false (sym e))
flag_of_file ShapeTree.bool (SpecTree.last es ps) e = absurd (true≢false (sym e))
flag_of_file ShapeTree.str spec e = absurd (true≢false (sym e))
flag_of_file ShapeTree.int spec e = absurd (true≢false (sym e))
flag_of_file ShapeTree.names spec e = absurd (true≢false (sym e))
flag_of_file (ShapeTree.pair a b) spec e = absurd (true≢false (sym e))
flag_of_file (ShapeTree.opt a) spec e = absurd (true≢false (sym e))
flag_of_file (ShapeTree.table a) spec e = absurd (true≢false (sym e))

pub of_its_shape : (S : Store) (b : Bool) (rule : Ask (Answered Tree)) (v : Tree) → answer S (of_shape b rule) ≡ Ok v → answer S rule ≡ Ok v
of_its_shape S true rule v e = e
of_its_shape S false rule v e = absurd (cc)

stored_fetched : (S : Store) (at : PlaceTree) (shape : ShapeTree) (v : Tree) → answer S (fetch_at shape at) ≡ Ok v → (changes : List Change) → answer S (store_at v at) ≡ Ok changes → Same S (over S changes)
stored_fetched S at shape v e changes f =
    let n : (made : Node) × (stored_node at.spec v ≡ Ok made) = node_of S at v changes f in
    let h : HoldsIt S at v = by n (asks_flag shape at.spec) refl e in
    same_content_changes_nothing S at v h.1 h.0 h.2 changes f
  where
    form : Ask (Answered Tree)
    form = of_shape (has_fetch_shape shape (fetch_shape at.spec)) (fetched at.path at.env at.spec)

    by : ((made : Node) × (stored_node at.spec v ≡ Ok made)) → (b : Bool) → asks_flag shape at.spec ≡ b → answer S (cond b (flag_at at.path) form) ≡ Ok v → HoldsIt S at v
    by n true asks g =
        let file : at.spec ≡ SpecTree.file = flag_of_file shape at.spec asks in
        flag_held S at v n.0 file (ap (λ s. stored_node s v) (sym file) ∙ n.1) g
    by n false asks g = fetched_held S at v n.0 at.spec refl n.1 (of_its_shape S (has_fetch_shape shape (fetch_shape at.spec)) (fetched at.path at.env at.spec) v g)

pub fetched_store_changes_nothing : FetchedStoreChangesNothing
fetched_store_changes_nothing root x shape s S i p =
    ap (λ (T : Store). T p) (after-then S fetching on ∙ (λ k. after (after-asking S rule bound_on k) (on (result-asking S rule bound_on k))))
    ∙ by_place (answer S (place root s.address)) refl
  where
    rule : Ask (Answered Tree)
    rule = at_place root s.address (fetch_at shape)

    bound_on : Answered Tree → Task Flow
    bound_on = or_stop i s (λ v. Ends (On (binding s x v)))

    fetching : Task Flow
    fetching = asking rule bound_on

    on : Flow → Task Flow
    on = go_on (λ t. run_block root (i + 1) (block (storing (ExprTree.var x))) t)

    by_answer : (at : PlaceTree) → answer S (place root s.address) ≡ Some at → (o : Answered Tree) → answer S (fetch_at shape at) ≡ o → after (after S (bound_on o)) (on (result S (bound_on o))) p ≡ S p
    by_answer at there (Ok v) e =
        store_leaves S root (i + 1) (ExprTree.var x) (binding s x v) v at there (ap (λ o. Ok (unwrap_or o (Tree.bool false))) (bound_own s.vars x v)) (stored_fetched S at shape v e) p
    by_answer at there (Err f) e = refl

    by_place : (o : Option PlaceTree) → answer S (place root s.address) ≡ o → after (after S (bound_on (answer S rule))) (on (result S (bound_on (answer S rule)))) p ≡ S p
    by_place (Some at) e =
        ap (λ r. after (after S (bound_on r)) (on (result S (bound_on r))) p) (placed_answer S root s.address at (fetch_at shape) e) ∙ by_answer at e (answer S (fetch_at shape at)) refl
    by_place None e =
        ap (λ r. after (after S (bound_on r)) (on (result S (bound_on r))) p) (answer-bind S (place root s.address) (λ at. unrefused (fetch_at shape) (needed Refusal.NoPlace at)) ∙ ap (λ o. answer S (unrefused (fetch_at shape) (needed Refusal.NoPlace o))) e)

-- ------------------------------------------------------------------------------------------------------ whole transactions

-- where a block is done, its last commands leave what the ones before them leave, if they change nothing there
pub record LastSame (root : SpecTree) (cs last : List CommandTree) (i : ℕ) (s : Standing) (S : Store) : Type 0 where
  pub same : Same (after S (run_block root i (block cs) s)) (after S (run_block root i (block (cs ++ last)) s))
  pub done : is_done (flow_end (result S (run_block root i (block cs) s))) ≡ true

-- the last commands change nothing from where the ones before them end
abbrev LastChangesNothing : SpecTree → List CommandTree → List CommandTree → ℕ → Standing → Store → Type 0
LastChangesNothing root cs last i s S = (t : Standing) → result S (run_block root i (block cs) s) ≡ On t → ChangesNothing root last t (after S (run_block root i (block cs) s))

last_same : (root : SpecTree) (last cs : List CommandTree) (i : ℕ) (s : Standing) (S : Store) → LastChangesNothing root cs last i s S → is_done (flow_end (result S (run_block root i (block (cs ++ last)) s))) ≡ true → LastSame root cs last i s S
last_same root last [] i s S h e = record { same = h s refl i; done = refl }
last_same root last (c ∷ cs) i s S h e = go (result S (run root i c s)) refl (λ t. last_same root last cs (i + count c) t (after S (run root i c s)))
  where
    T : Store
    T = after S (run root i c s)

    on : List CommandTree → Flow → Task Flow
    on ds = go_on (λ t. run_block root (i + count c) (block ds) t)

    left_by : (ds : List CommandTree) (f : Flow) → result S (run root i c s) ≡ f → after S (run_block root i (block (c ∷ ds)) s) ≡ after T (on ds f)
    left_by ds f r = after-then S (run root i c s) (on ds) ∙ ap (λ f. after T (on ds f)) r

    ended_by : (ds : List CommandTree) (f : Flow) → result S (run root i c s) ≡ f → result S (run_block root i (block (c ∷ ds)) s) ≡ result T (on ds f)
    ended_by ds f r = result-then S (run root i c s) (on ds) ∙ ap (λ f. result T (on ds f)) r

    go : (f : Flow) → result S (run root i c s) ≡ f
        → ((t : Standing) → LastChangesNothing root cs last (i + count c) t T → is_done (flow_end (result T (run_block root (i + count c) (block (cs ++ last)) t))) ≡ true → LastSame root cs last (i + count c) t T)
        → LastSame root (c ∷ cs) last i s S
    go (Over why outputs) r next =
        record {
          same = λ p. ap (λ (U : Store). U p) (left_by (cs ++ last) (Over why outputs) r ∙ sym (left_by cs (Over why outputs) r));
          done = ap (λ f. is_done (flow_end f)) (ended_by cs (Over why outputs) r ∙ sym (ended_by (cs ++ last) (Over why outputs) r)) ∙ e;
        }
    go (On t) r next =
        let rest : LastSame root cs last (i + count c) t T =
        next t (λ u g j p. subst (λ (U : Store). after U (run_block root j (block last) u) p ≡ U p) (left_by cs (On t) r) (h u (ended_by cs (On t) r ∙ g) j p))
        (sym (ap (λ f. is_done (flow_end f)) (ended_by (cs ++ last) (On t) r)) ∙ e) in
        record {
          same = λ p. ap (λ (U : Store). U p) (left_by (cs ++ last) (On t) r) ∙ rest.same p ∙ sym (ap (λ (U : Store). U p) (left_by cs (On t) r));
          done = ap (λ f. is_done (flow_end f)) (ended_by cs (On t) r) ∙ rest.done;
        }

last_leave_nothing : (root : SpecTree) (cs last : List CommandTree) (S : Store) → LastChangesNothing root cs last 0 (record { vars = []; address = []; outputs = [] }) S → LastLeaveNothing root cs last S
unfolding transaction
last_leave_nothing root cs last S h e p =
    let done : is_done (end root (cs ++ last) S) ≡ true = ap is_done e in
    let same : LastSame root cs last 0 (record { vars = []; address = []; outputs = [] }) S = last_same root last cs 0 (record { vars = []; address = []; outputs = [] }) S h done in
    ap (λ b. cond b (after S (transaction root (cs ++ last))) S p) done ∙ same.same p ∙ sym (ap (λ b. cond b (after S (transaction root cs)) S p) same.done)

pub same_store_leaves_nothing : SameStoreLeavesNothing
unfolding transaction
same_store_leaves_nothing root commands e S h =
    last_leave_nothing root commands (storing e) S (λ t g. same_store_changes_nothing root e t (after S (run_block root 0 (block commands) (record { vars = []; address = []; outputs = [] }))) (h t g))

pub fetched_store_leaves_nothing : FetchedStoreLeavesNothing
fetched_store_leaves_nothing root commands x shape S =
    last_leave_nothing root commands (fetching_and_storing x shape) S (λ t g. fetched_store_changes_nothing root x shape t (after S (run_block root 0 (block commands) (record { vars = []; address = []; outputs = [] }))))
