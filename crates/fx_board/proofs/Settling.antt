-- What an attempt that no entry stands in the way of becomes.
use Rattle.std.proofs.Common.{◌≡◌, ◌≢◌, ℕ, zero, suc, ◌+◌, ◌-◌, ◌<◌, ◌≤◌, Bool, true, false, cond, List, [], ◌∷◌, ◌++◌, map, length, Option, Some, None, slice_get, refl, sym, ap, subst, ◌∙◌, inl, inr, arith, length-append}
use Rattle.std.specs.Prelude.{◌↔◌, ◌⊎◌, unwrap_or}
use Rattle.std.specs.FinMap.{get}
use Rattle.std.specs.List.{Contains}
use Rattle.std.specs.Option.{option_map}
use Rattle.std.specs.Ordering.{eq_by_cmp}
use Rattle.std.proofs.lemmas.List.{length-map, map-append}
use Rattle.std.proofs.lemmas.Option.{same_Some, none-some, slice_get_within, slice_get-get_or}
use Rattle.fx_base.proofs.Lists.{get_front, Contains-at}
use Rattle.fx_base.proofs.Names.{path_itself}
use Rattle.fx_store.specs.declared.node.Node.{Node}
use Rattle.fx_store.specs.declared.changes.Change.{Change}
use Rattle.fx_store.specs.Changes.{IsChanges, changed_paths, change_at}
use Rattle.fx_store.specs.Filestore.{Table}
use Rattle.fx_store.specs.Names.{path_cmp}
use Rattle.fx_store.specs.Orders.{path_eq_same}
use Rattle.fx_store.specs.Whole.{Nodes, IsWhole, over, over_nodes}
use Rattle.fx_store.proofs.Overlays.{over-change_at}
use Rattle.fx_store.proofs.Stores.{IsWhole-same, get-over_nodes}
use Rattle.fx_view.specs.ReadList.{ReadList}
use Rattle.fx_view.specs.Reads.{IsReads, read_at, Agrees}
use Rattle.fx_spec.specs.declared.base.Base.{Base}
use Rattle.fx_spec.specs.Bases.{base_tree}
use Rattle.fx_spec.specs.Plans.{Turn, IsPlan, txn_of}
use Rattle.fx_spec.specs.Order.{BaseTree, state, after_txn, Changes, IsLegal}
use Rattle.fx_spec.specs.Transaction.{outputs, end}
use Rattle.fx_spec.proofs.Orders.{legal-next, state-front, state-next}
use Rattle.fx_spec.proofs.Transactions.{states_are_whole}
use Rattle.fx_machine.specs.declared.attempt.Attempt.{Attempt}
use Rattle.fx_machine.specs.declared.entry.Entry.{Entry}
use Rattle.fx_machine.specs.Explained.{IsExplained, RunsAs, IsNew}
use Rattle.fx_machine.specs.Machine.{next_number}
use Rattle.fx_machine.specs.Passes.{AreTrueReads}
use Rattle.fx_machine.proofs.Legal.{fewer_settled}
use Rattle.fx_machine.proofs.Stays.{stays_through}
use Rattle.fx_board.specs.Board.{IsEntry, IsBoard, IsIndex, IsFreshReads, IsNamed, log_of, entry_turn, settled}
use Rattle.fx_board.specs.Growing.{entry_of, nodes_by, StaysWhole}
use Rattle.fx_board.specs.Log.{Log}
use Rattle.fx_board.specs.Index.{Index, IsNoted, least_stale}
use Rattle.fx_board.proofs.Indexes.{changes_within, index_more, named, none_stale}

abbrev Path : Type 0
Path = List (List ℕ)

-- ---- what stays where no entry changes it

-- where no entry from some position on changes a path, what stood there stands there now
pub stands_now : (base : BaseTree) (o : List Turn) (path : Path) (position : ℕ) → position ≤ length o → ((entry : ℕ) → position ≤ entry → Changes base o entry path → ⊥) → get (state base o position) path ≡ get (state base o (length o)) path
stands_now base o path position le none =
    let all : position + (length o - position) ≡ length o = omega (arith, le) in
    stays_through base o path position (length o - position) (λ entry since lt changes. none entry since changes) ∙ ap (λ n. get (state base o n) path) all

-- true reads that are not stale agree with the last state
pub agrees_now : (base : BaseTree) (o : List Turn) (reads : ReadList) → AreTrueReads base o reads → IsFreshReads base o reads → Agrees reads (get (state base o (length o)))
agrees_now base o reads true_ fresh path node known = at (read_at reads path) refl known
  where
    at : (r : Option (Option Node × ℕ)) → read_at reads path ≡ r → option_map (λ (r : Option Node × ℕ). r.0) r ≡ Some node → get (state base o (length o)) path ≡ node
    at None e known = absurd (none-some _ known)
    at (Some read) e known =
        let position : ℕ = read.1 in
        let stood = true_ path read.0 read.1 e in
        let le : read.1 ≤ length o = stood.0 in
        let all : read.1 + (length o - read.1) ≡ length o = omega (arith, le) in
        let stays : get (state base o read.1) path ≡ get (state base o (read.1 + (length o - read.1))) path =
        stays_through base o path read.1 (length o - read.1) (λ entry since lt changes. fresh entry path (read.0, read.1, e, since, omega (arith, lt, all), changes)) in
        sym (ap (λ n. get (state base o n) path) all) ∙ (sym stays ∙ (sym stood.1 ∙ same_Some _ _ known))

-- ---- the changes of an attempt

-- a changed path has a change, and a path with a change is changed
change_stands : (cs : List Change) (k : ℕ) (path : Path) → slice_get (changed_paths cs) k ≡ Some path → (node : Option Node) × (change_at cs path ≡ Some node)
change_stands [] k path e = absurd (none-some _ e)
change_stands (c ∷ cs) zero path e = (c.node, ap (λ t. cond t (Some c.node) (change_at cs path)) (ap (eq_by_cmp path_cmp path) (same_Some _ _ e) ∙ path_itself path))
change_stands (c ∷ cs) (suc k) path e = at (eq_by_cmp path_cmp path c.path) (change_stands cs k path e)
  where
    at : (t : Bool) → (node : Option Node) × (change_at cs path ≡ Some node) → (node : Option Node) × (cond t (Some c.node) (change_at cs path) ≡ Some node)
    at true rest = (c.node, refl)
    at false rest = rest

is_changed : (cs : List Change) (path : Path) (now : Option Node) → change_at cs path ≡ Some now → (k : ℕ) × (slice_get (changed_paths cs) k ≡ Some path)
is_changed [] path now e = absurd (none-some _ e)
is_changed (c ∷ cs) path now e = at (eq_by_cmp path_cmp path c.path) refl e (is_changed cs path now)
  where
    at : (t : Bool) → eq_by_cmp path_cmp path c.path ≡ t → cond t (Some c.node) (change_at cs path) ≡ Some now → (change_at cs path ≡ Some now → (k : ℕ) × (slice_get (changed_paths cs) k ≡ Some path)) → (k : ℕ) × (slice_get (changed_paths (c ∷ cs)) k ≡ Some path)
    at true f e rest = (0, ap Some (sym (path_eq_same path c.path f)))
    at false f e rest = let found = rest e in (suc found.0, found.1)

-- what the changes leave at a path
left_at : (nodes : Nodes) (cs : List Change) → IsChanges cs → (path : Path) → get (over_nodes nodes cs) path ≡ unwrap_or (change_at cs path) (get nodes path)
left_at nodes cs up path = get-over_nodes nodes cs path ∙ over-change_at (get nodes) cs up path

module _ (base : BaseTree) (o : List Turn) (a : Attempt) (explained : IsExplained base a) (next : a.txn ≡ next_number o a.shell) (whole : IsWhole (get base.loaded)) (agrees : Agrees a.reads (get (state base o (length o)))) (up : IsChanges a.changes) where
  runs : RunsAs base.description explained.txn a (state base o (length o))
  runs = explained.runs (state base o (length o)) (states_are_whole base whole o (length o)) agrees

  -- the next state is the last one with the attempt's changes
  pub next_state : state base (o ++ (a.shell, a.txn) ∷ []) (suc (length o)) ≡ over_nodes (state base o (length o)) a.changes
  next_state = state-next base o (a.shell, a.txn) ∙ (ap (after_txn base.description (state base o (length o))) explained.planned ∙ runs.left)

  pub next_whole : IsWhole (over (get (state base o (length o))) a.changes)
  next_whole =
      IsWhole-same (get (over_nodes (state base o (length o)) a.changes)) (over (get (state base o (length o))) a.changes) (get-over_nodes (state base o (length o)) a.changes) (subst (λ (n : Nodes). IsWhole (get n)) next_state (states_are_whole base whole (o ++ (a.shell, a.txn) ∷ []) (suc (length o))))

  -- it differs from the last one exactly at the changed paths
  differs : (path : Path) → Contains (changed_paths a.changes) path → get (state base o (length o)) path ≢ get (over_nodes (state base o (length o)) a.changes) path
  differs path has same =
      let found = change_stands a.changes has.0 path (slice_get-get_or (changed_paths a.changes) has.0 path has.1 ∙ ap Some has.2) in
      let new : IsNew a.reads path found.0 = explained.changed path found.0 found.1 in
      let stood : get (state base o (length o)) path ≡ new.0 = agrees path new.0 new.1 in
      let left : get (over_nodes (state base o (length o)) a.changes) path ≡ found.0 = left_at (state base o (length o)) a.changes up path ∙ ap (λ c. unwrap_or c (get (state base o (length o)) path)) found.1 in
      new.2 (sym left ∙ (sym same ∙ stood))

  changed : (path : Path) → get (state base o (length o)) path ≢ get (over_nodes (state base o (length o)) a.changes) path → Contains (changed_paths a.changes) path
  changed path other = at (change_at a.changes path) refl
    where
      at : (c : Option (Option Node)) → change_at a.changes path ≡ c → Contains (changed_paths a.changes) path
      at None e = absurd (other (sym (left_at (state base o (length o)) a.changes up path ∙ ap (λ c. unwrap_or c (get (state base o (length o)) path)) e)))
      at (Some node) e = let found = is_changed a.changes path node e in Contains-at (changed_paths a.changes) found.0 path found.1

  pub next_legal : IsLegal base o → IsLegal base (o ++ (a.shell, a.txn) ∷ [])
  next_legal legal =
      subst (λ txn. IsLegal base (o ++ (a.shell, txn) ∷ [])) (sym next)
      (legal-next base o a.shell legal (fewer_settled base o a.shell explained.txn (ap (λ txn. txn_of base.plan (a.shell, txn)) (sym next) ∙ explained.planned)))

-- ---- the log with one entry more

abbrev order_of : List Entry → List Turn
order_of entries = map entry_turn entries

pub order_more : (entries : List Entry) (e : Entry) → order_of (entries ++ e ∷ []) ≡ order_of entries ++ entry_turn e ∷ []
order_more entries e = map-append entry_turn entries (e ∷ [])

last_at : {X : Type 0} (xs : List X) (x : X) → slice_get (xs ++ x ∷ []) (length xs) ≡ Some x
last_at [] x = refl
last_at (y ∷ xs) x = last_at xs x

at_or_last : {X : Type 0} (xs : List X) (x y : X) (i : ℕ) → slice_get (xs ++ x ∷ []) i ≡ Some y → (slice_get xs i ≡ Some y) ⊎ ((i ≡ length xs) × (x ≡ y))
at_or_last [] x y zero e = inr (refl, same_Some x y e)
at_or_last [] x y (suc i) e = absurd (none-some _ e)
at_or_last (z ∷ xs) x y zero e = inl e
at_or_last (z ∷ xs) x y (suc i) e = elim (at_or_last xs x y i e) [ inl f ↦ inl f | inr f ↦ inr (ap suc f.0, f.1) ]

-- what was said of an entry goes on to hold
entry_stays : (log : Log) (i : ℕ) (e : Entry) (shell txn : ℕ) → IsEntry log i e → IsEntry (settled log shell txn) i e
entry_stays log i e shell txn entry =
    let lt : i < length log.order = slice_get_within log.order i (entry_turn e) entry.turn in
    let here : state log.base log.order i ≡ state log.base (log.order ++ (shell, txn) ∷ []) i = sym (state-front log.base log.order ((shell, txn) ∷ []) i (omega (arith, lt))) in
    let there : state log.base log.order (suc i) ≡ state log.base (log.order ++ (shell, txn) ∷ []) (suc i) = sym (state-front log.base log.order ((shell, txn) ∷ []) (suc i) (omega (arith, lt))) in
    record {
      turn = get_front log.order ((shell, txn) ∷ []) i (entry_turn e) entry.turn;
      txn = entry.txn;
      planned = entry.planned;
      outputs = subst (λ (n : Nodes). outputs log.base.description entry.txn (get n) ≡ e.outputs) here entry.outputs;
      end = subst (λ (n : Nodes). end log.base.description entry.txn (get n) ≡ e.end) here entry.end;
      changed = λ path.
          subst (λ (n : Nodes). Contains e.changed path ↔ (get n path ≢ get (state log.base (log.order ++ (shell, txn) ∷ []) (suc i)) path)) here
          (subst (λ (n : Nodes). Contains e.changed path ↔ (get (state log.base log.order i) path ≢ get n path)) there (entry.changed path));
    }

-- what is said of the new one
entry_new : (base : BaseTree) (o : List Turn) (a : Attempt) (explained : IsExplained base a) → a.txn ≡ next_number o a.shell → IsWhole (get base.loaded) → Agrees a.reads (get (state base o (length o))) → IsChanges a.changes → IsEntry (settled (record { base = base; order = o }) a.shell a.txn) (length o) (entry_of a)
entry_new base o a explained next whole agrees up =
    let here : state base o (length o) ≡ state base (o ++ (a.shell, a.txn) ∷ []) (length o) = sym (state-front base o ((a.shell, a.txn) ∷ []) (length o) (omega arith)) in
    let there : over_nodes (state base o (length o)) a.changes ≡ state base (o ++ (a.shell, a.txn) ∷ []) (suc (length o)) = sym (next_state base o a explained next whole agrees up) in
    let ran : RunsAs base.description explained.txn a (state base o (length o)) = runs base o a explained next whole agrees up in
    record {
      turn = last_at o (a.shell, a.txn);
      txn = explained.txn;
      planned = explained.planned;
      outputs = subst (λ (n : Nodes). outputs base.description explained.txn (get n) ≡ a.outputs) here ran.outputs;
      end = subst (λ (n : Nodes). end base.description explained.txn (get n) ≡ a.end) here ran.end;
      changed = λ path.
          subst (λ (n : Nodes). Contains (changed_paths a.changes) path ↔ (get n path ≢ get (state base (o ++ (a.shell, a.txn) ∷ []) (suc (length o))) path)) here
          (subst (λ (n : Nodes). Contains (changed_paths a.changes) path ↔ (get (state base o (length o)) path ≢ get n path)) there
          (differs base o a explained next whole agrees up path, changed base o a explained next whole agrees up path));
    }

pub settles : (base : Base) (entries : List Entry) (nodes : Nodes) (index noted : Index) (a : Attempt) → IsBoard base entries nodes index → IsNoted index noted (changed_paths a.changes) (length (order_of entries)) → IsExplained (base_tree base) a → a.txn ≡ next_number (order_of entries) a.shell → Agrees a.reads (get (state (base_tree base) (order_of entries) (length (order_of entries)))) → IsChanges a.changes → IsBoard base (entries ++ entry_of a ∷ []) (over_nodes nodes a.changes) noted
settles base entries nodes index noted a board notes explained next agrees up =
    let more : order_of (entries ++ entry_of a ∷ []) ≡ order_of entries ++ (a.shell, a.txn) ∷ [] = order_more entries (entry_of a) in
    let log : settled (log_of base entries) a.shell a.txn ≡ log_of base (entries ++ entry_of a ∷ []) = ap (λ (o : List Turn). record { base = base_tree base; order = o }) (sym more) in
    let count : suc (length (order_of entries)) ≡ length (order_of entries ++ (a.shell, a.txn) ∷ []) = omega (arith, length-append (order_of entries) ((a.shell, a.txn) ∷ [])) in
    record {
      log = record {
        loaded = board.log.loaded;
        plan = board.log.plan;
        legal = subst (IsLegal (base_tree base)) (sym more) (next_legal (base_tree base) (order_of entries) a explained next board.log.loaded agrees up board.log.legal);
      };
      each = λ i e at. subst (λ (l : Log). IsEntry l i e) log (elim (at_or_last entries (entry_of a) e i at) [
        | inl old ↦ entry_stays (log_of base entries) i e a.shell a.txn (board.each i e old)
        | inr new ↦
            let place : length (order_of entries) ≡ i = length-map entries entry_turn ∙ sym new.0 in
            subst (λ (e : Entry). IsEntry (settled (log_of base entries) a.shell a.txn) i e) new.1
            (subst (λ i. IsEntry (settled (log_of base entries) a.shell a.txn) i (entry_of a)) place
            (entry_new (base_tree base) (order_of entries) a explained next board.log.loaded agrees up))
      ]);
      after =
          ap (λ n. over_nodes n a.changes) board.after
          ∙ (sym (next_state (base_tree base) (order_of entries) a explained next board.log.loaded agrees up)
          ∙ (ap (state (base_tree base) (order_of entries ++ (a.shell, a.txn) ∷ [])) count
          ∙ ap (λ o. state (base_tree base) o (length o)) (sym more)));
      last = subst (λ (l : Log). IsIndex l noted) log (index_more (base_tree base) (order_of entries) (a.shell, a.txn) (changed_paths a.changes) (entry_new (base_tree base) (order_of entries) a explained next board.log.loaded agrees up).changed index noted board.last notes);
    }

-- ---- what the calls say

-- no entries yet
pub starts : (base : Base) (nodes : Nodes) → IsWhole (get base.loaded.nodes) → IsPlan base.plan → nodes ≡ base.loaded.nodes → IsBoard base [] nodes []
unfolding state
starts base nodes whole plan same = record {
  log = record { loaded = whole; plan = plan; legal = λ shell. record { in_turn = refl; planned = omega arith } };
  each = λ i e at. absurd (none-some _ at);
  after = same;
  last = λ path i changes. absurd (omega (arith, changes_within (base_tree base) [] i path changes));
}

pub stays_whole : (loaded : Nodes) (own : Option Table) (changes : List Change) → IsWhole (over (get (nodes_by loaded own)) changes) → StaysWhole own changes
stays_whole loaded None changes whole = tt
stays_whole loaded (Some own) changes whole = whole

-- with an attempt whose reads are fresh the log is one again
pub record IsReady (base : Base) (entries : List Entry) (nodes : Nodes) (index : Index) (a : Attempt) : Type 0 where
  pub whole : IsWhole (over (get nodes) a.changes)
  pub board : (noted : Index) → IsNoted index noted (changed_paths a.changes) (length entries) → IsBoard base (entries ++ entry_of a ∷ []) (over_nodes nodes a.changes) noted

module _ (base : Base) (entries : List Entry) (nodes : Nodes) (index : Index) (board : IsBoard base entries nodes index) (a : Attempt) (log : Log) (view : log_of base entries ≡ log) where
  pub ready : IsExplained log.base a → a.txn ≡ next_number log.order a.shell → AreTrueReads log.base log.order a.reads → IsFreshReads log.base log.order a.reads → IsChanges a.changes → IsReady base entries nodes index a
  ready explained next true_ fresh =
      at (subst (λ (l : Log). IsExplained l.base a) (sym view) explained) (subst (λ (l : Log). a.txn ≡ next_number l.order a.shell) (sym view) next) (subst (λ (l : Log). AreTrueReads l.base l.order a.reads) (sym view) true_)
      (subst (λ (l : Log). IsFreshReads l.base l.order a.reads) (sym view) fresh)
    where
      at : IsExplained (base_tree base) a → a.txn ≡ next_number (order_of entries) a.shell → AreTrueReads (base_tree base) (order_of entries) a.reads → IsFreshReads (base_tree base) (order_of entries) a.reads → IsChanges a.changes → IsReady base entries nodes index a
      at explained next true_ fresh up =
          let agrees : Agrees a.reads (get (state (base_tree base) (order_of entries) (length (order_of entries)))) = agrees_now (base_tree base) (order_of entries) a.reads true_ fresh in
          record {
            whole = subst (λ (n : Nodes). IsWhole (over (get n) a.changes)) (sym board.after) (next_whole (base_tree base) (order_of entries) a explained next board.log.loaded agrees up);
            board = λ noted notes. settles base entries nodes index noted a board (subst (IsNoted index noted (changed_paths a.changes)) (sym (length-map entries entry_turn)) notes) explained next agrees up;
          }

  pub fresh_now : least_stale index a.reads ≡ None → IsFreshReads log.base log.order a.reads
  fresh_now none = none_stale log index (subst (λ (l : Log). IsIndex l index) view board.last) a.reads none

  pub named_now : (path : Path) (entry : ℕ) → IsReads a.reads → least_stale index a.reads ≡ Some (path, entry) → IsNamed log a.reads entry path
  named_now path entry = named log index (subst (λ (l : Log). IsIndex l index) view board.last) a.reads (path, entry)
