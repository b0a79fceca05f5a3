-- A transaction that was pursued over some reads: what it comes to on each filestore that agrees with them.
use Rattle.std.proofs.Common.{◌≡◌, ℕ, false, cond, List, [], ◌∷◌, ◌++◌, Contains, All, Option, Some, None, IsSome, unwrap_or, refl, ap, ◌∙◌, sym, subst, ◌⊎◌, inl, inr}
use Rattle.std.specs.FinMap.{get}
use Rattle.std.specs.Map.{keys_of}
use Rattle.std.specs.Option.{option_map}
use Rattle.std.proofs.lemmas.List.Elements.{All-contains, Contains-append_left, Contains-append_right}
use Rattle.fx_store.specs.declared.node.Node.{Node}
use Rattle.fx_store.specs.declared.changes.Change.{Change}
use Rattle.fx_store.specs.Changes.{IsChanges, change_at}
use Rattle.fx_store.specs.Rule.{answer, seen, changed, follow, Found, Needs, first_unknown}
use Rattle.fx_store.specs.Whole.{Store, Nodes, IsWhole, over, over_nodes}
use Rattle.fx_store.proofs.Overlays.{over-change_at}
use Rattle.fx_store.proofs.Stores.{same_nodes, get-over_nodes}
use Rattle.fx_store.proofs.Asks.{all_known}
use Rattle.fx_spec.specs.declared.refusal.End.{End}
use Rattle.fx_spec.specs.SpecTree.{SpecTree}
use Rattle.fx_spec.specs.CommandTree.{CommandTree}
use Rattle.fx_spec.specs.Plans.{Turn, txn_of}
use Rattle.fx_spec.specs.Order.{BaseTree}
use Rattle.fx_spec.specs.Task.{result, after, consulted, written}
use Rattle.fx_spec.specs.Transaction.{Flow, flow_end, flow_outputs, is_done, end, way, left_nodes, transaction}
use Rattle.fx_spec.proofs.Tasks.{leaves_as_data}
use Rattle.fx_view.specs.OwnList.{OwnList}
use Rattle.fx_view.specs.ReadList.{ReadList}
use Rattle.fx_view.specs.Own.{own_at, AreRead, IsNet, no_own}
use Rattle.fx_view.specs.Reads.{read_at, known_of, IsRead, Agrees}
use Rattle.fx_view.specs.Follows.{walked}
use Rattle.fx_view.proofs.Growing.{agrees_before, read_known}
use Rattle.fx_view.proofs.Rules.{walked_known, found_answer, found_asked, needs_asked, needs_first, needs_unknown}
use Rattle.fx_machine.specs.declared.attempt.Attempt.{Attempt}
use Rattle.fx_machine.specs.Explained.{IsNew, IsExplained}
use Rattle.fx_run.specs.Course.{pursued}
use Rattle.fx_run.specs.Pursuing.{Came}
use Rattle.fx_run.specs.Keeping.{AreKept}
use Rattle.fx_machine.specs.Needs.{ReadsFit, IsNeeded}
use Rattle.fx_run.proofs.Pursuits.{pursued_end, pursued_after, pursued_asked}
use Rattle.fx_run.proofs.Ways.{once-within, within-once, first-once, read_among}
use Rattle.fx_run.proofs.Stable.{stable_node}

abbrev Path : Type 0
Path = List (List ℕ)

module _ (root : SpecTree) (t : List CommandTree) (reads : ReadList) (S : Store) (agrees : Agrees reads S) where
  -- ---- a transaction that has come to its end

  module _ (c : Came Flow) (found : follow (known_of reads) no_own (pursued root t) ≡ Found c) where
    answered : answer S (pursued root t) ≡ c
    answered = found_answer (known_of reads) no_own S agrees (pursued root t) c found

    found_flow : result S (transaction root t) ≡ c.end
    found_flow = sym (pursued_end S [] (transaction root t)) ∙ ap (λ (c : Came Flow). c.end) answered

    found_after : after S (transaction root t) ≡ changed (own_at c.own) S
    found_after = sym (pursued_after S [] (transaction root t)) ∙ ap (λ (c : Came Flow). changed (own_at c.own) S) answered

    found_consulted : walked (known_of reads) no_own (pursued root t) ≡ consulted S (transaction root t)
    found_consulted = found_asked (known_of reads) no_own S agrees (pursued root t) c found ∙ pursued_asked S [] (transaction root t)

    -- each path on the way was read
    way_read : (p : Path) → Contains (way root t S) p → IsRead reads p
    way_read p h =
        read_known reads p
        (All-contains (λ p. IsSome (known_of reads p)) (walked (known_of reads) no_own (pursued root t)) p
        (all_known (known_of reads) (walked (known_of reads) no_own (pursued root t)) (walked_known (known_of reads) no_own (pursued root t)))
        (subst (λ ps. Contains ps p) (sym found_consulted) (once-within (consulted S (transaction root t)) p h)))

    -- a path that was walked is on the way
    walked_way : (p : Path) → Contains (walked (known_of reads) no_own (pursued root t)) p → Contains (way root t S) p
    walked_way p h = within-once (consulted S (transaction root t)) p (subst (λ ps. Contains ps p) found_consulted h)

    -- ---- the changes that are kept

    net_at : (changes : List Change) → IsNet c.own reads changes → AreRead c.own reads → (p : Path) → seen (own_at c.own p) (S p) ≡ unwrap_or (change_at changes p) (S p)
    net_at changes net read p = at (own_at c.own p) refl (change_at changes p) refl
      where
        was_read : (n : Option Node) → own_at c.own p ≡ Some n → (w : Option Node) × (known_of reads p ≡ Some w)
        was_read n is = known (read_at reads p) (read p (subst (λ o. IsSome o) (sym is) refl))
          where
            known : (r : Option (Option Node × ℕ)) → IsSome r → (w : Option Node) × (option_map (λ (r : Option Node × ℕ). r.0) r ≡ Some w)
            known None h = cc
            known (Some r) h = (r.0, refl)

        at : (o : Option (Option Node)) → own_at c.own p ≡ o → (d : Option (Option Node)) → change_at changes p ≡ d → seen o (S p) ≡ unwrap_or d (S p)
        at None is None e = refl
        at None is (Some m) e = let set : own_at c.own p ≡ Some m = (net.sets p m e).0 in let wrong : None ≡ Some m = sym is ∙ set in cc
        at (Some n) is (Some m) e = let set : own_at c.own p ≡ Some m = (net.sets p m e).0 in let same : Some n ≡ Some m = sym is ∙ set in cc
        at (Some n) is None e =
            let w = was_read n is in
            let same : n ≡ w.0 = stable_node n w.0 (λ f. let kept : change_at changes p ≡ Some n = net.keeps p n w.0 is w.1 f in let wrong : None ≡ Some n = sym e ∙ kept in cc) in
            same ∙ sym (agrees p w.0 w.1)

    net_left : (changes : List Change) → IsNet c.own reads changes → IsChanges changes → AreRead c.own reads → (p : Path) → after S (transaction root t) p ≡ over S changes p
    net_left changes net up read p = ap (λ (T : Store). T p) found_after ∙ (net_at changes net read p ∙ sym (over-change_at S changes up p))

  -- ---- a transaction that needs a path

  module _ (q : Path) (needs : follow (known_of reads) no_own (pursued root t) ≡ Needs q) where
    needs_consulted : (rest : List Path) × (consulted S (transaction root t) ≡ walked (known_of reads) no_own (pursued root t) ++ q ∷ rest)
    needs_consulted =
        let on = needs_asked (known_of reads) no_own S agrees (pursued root t) q needs in
        (on.0, sym (pursued_asked S [] (transaction root t)) ∙ on.1)

    pub needs_way : first_unknown (known_of reads) (way root t S) ≡ Some q
    needs_way =
        first-once (known_of reads) (consulted S (transaction root t))
        ∙ (ap (first_unknown (known_of reads)) (sym (pursued_asked S [] (transaction root t))) ∙ needs_first (known_of reads) no_own S agrees (pursued root t) q needs)

    -- what was walked, and the needed path, are on the way
    front_way : (p : Path) → Contains (walked (known_of reads) no_own (pursued root t)) p ⊎ Contains (q ∷ []) p → Contains (way root t S) p
    front_way p h = within-once (consulted S (transaction root t)) p (subst (λ ps. Contains ps p) (sym needs_consulted.1) (at h))
      where
        at : Contains (walked (known_of reads) no_own (pursued root t)) p ⊎ Contains (q ∷ []) p → Contains (walked (known_of reads) no_own (pursued root t) ++ q ∷ needs_consulted.0) p
        at (inl k) = Contains-append_left (walked (known_of reads) no_own (pursued root t)) (q ∷ needs_consulted.0) p k
        at (inr k) = Contains-append_right (walked (known_of reads) no_own (pursued root t)) (q ∷ needs_consulted.0) p (Contains-append_left (q ∷ []) needs_consulted.0 p k)

-- ---- the changes that are kept, by the end

undone : (root : SpecTree) (t : List CommandTree) (nodes : Nodes) (e : End) (changes : List Change) → end root t (get nodes) ≡ e → is_done e ≡ false → changes ≡ [] → left_nodes root t nodes ≡ over_nodes nodes changes
undone root t nodes e changes is not none =
    ap (λ b. over_nodes nodes (cond b (written (get nodes) (transaction root t)) [])) (ap is_done is ∙ not) ∙ ap (over_nodes nodes) (sym none)

module _ (root : SpecTree) (t : List CommandTree) (reads : ReadList) (c : Came Flow) (found : follow (known_of reads) no_own (pursued root t) ≡ Found c) (read : AreRead c.own reads) where
  done : (nodes : Nodes) (changes : List Change) → Agrees reads (get nodes) → end root t (get nodes) ≡ End.Done → IsNet c.own reads changes → IsChanges changes → left_nodes root t nodes ≡ over_nodes nodes changes
  done nodes changes agrees is net up =
      same_nodes (left_nodes root t nodes) (over_nodes nodes changes) (λ q.
      leaves_as_data root t nodes q
      ∙ (ap (λ b. cond b (after (get nodes) (transaction root t)) (get nodes) q) (ap is_done is)
      ∙ (net_left root t reads (get nodes) agrees c found changes net up read q ∙ sym (get-over_nodes nodes changes q))))

  leaves : (nodes : Nodes) (changes : List Change) → Agrees reads (get nodes) → (e : End) → end root t (get nodes) ≡ e → AreKept e c.own reads changes → left_nodes root t nodes ≡ over_nodes nodes changes
  leaves nodes changes agrees End.Done is are = done nodes changes agrees is are.0 are.1
  leaves nodes changes agrees (End.Stopped i f) is none = undone root t nodes (End.Stopped i f) changes is refl none
  leaves nodes changes agrees End.Aborted is none = undone root t nodes End.Aborted changes is refl none

-- a change that is kept is of a path that was read, with another node
kept_new : (e : End) (own : OwnList) (reads : ReadList) (changes : List Change) → AreKept e own reads changes → (path : Path) (node : Option Node) → change_at changes path ≡ Some node → IsNew reads path node
kept_new End.Done own reads changes are path node is = (are.0.sets path node is).1
kept_new (End.Stopped i f) own reads changes none path node is = let wrong : None ≡ Some node = sym (ap (λ cs. change_at cs path) none) ∙ is in cc
kept_new End.Aborted own reads changes none path node is = let wrong : None ≡ Some node = sym (ap (λ cs. change_at cs path) none) ∙ is in cc

module _ (base : BaseTree) (turn : Turn) (t : List CommandTree) (planned : txn_of base.plan turn ≡ Some t) (old more reads : ReadList) (fit : ReadsFit base turn old) (kept : reads ≡ old ++ more) where
  before : (S : Store) → Agrees reads S → Agrees old S
  before S agrees = agrees_before old more S (subst (λ rs. Agrees rs S) kept agrees)

  -- a read path is on the way, where the new ones were walked
  read_way : (walk : List Path) → All (Contains walk) (keys_of more) → (nodes : Nodes) → IsWhole (get nodes) → Agrees reads (get nodes) → ((p : Path) → Contains walk p → Contains (way base.description t (get nodes)) p)
      → (p : Path) → IsRead reads p → Contains (way base.description t (get nodes)) p
  read_way walk only nodes whole agrees on p is = at (read_among old more p (subst (λ rs. IsRead rs p) kept is))
    where
      at : IsRead old p ⊎ Contains (keys_of more) p → Contains (way base.description t (get nodes)) p
      at (inl h) = fit t planned nodes whole (before (get nodes) agrees) p h
      at (inr h) = on p (All-contains (Contains walk) (keys_of more) p only h)

  -- the attempt of a transaction that has come to its end
  pub explained : (c : Came Flow) → follow (known_of reads) no_own (pursued base.description t) ≡ Found c → All (Contains (walked (known_of reads) no_own (pursued base.description t))) (keys_of more) → AreRead c.own reads
      → (a : Attempt) → turn ≡ (a.shell, a.txn) → a.reads ≡ reads → AreKept (flow_end c.end) c.own reads a.changes → a.outputs ≡ flow_outputs c.end → a.end ≡ flow_end c.end → IsExplained base a
  explained c found only read a turned same are printed ended = record {
    txn = t;
    planned = ap (txn_of base.plan) (sym turned) ∙ planned;
    changed = λ path node is. subst (λ rs. IsNew rs path node) (sym same) (kept_new (flow_end c.end) c.own reads a.changes are path node is);
    runs = λ nodes whole agreeing.
        let agrees : Agrees reads (get nodes) = subst (λ rs. Agrees rs (get nodes)) same agreeing in
        let flow = found_flow base.description t reads (get nodes) agrees c found in
        record {
          outputs = ap flow_outputs flow ∙ sym printed;
          end = ap flow_end flow ∙ sym ended;
          left = leaves base.description t reads c found read nodes a.changes agrees (flow_end c.end) (ap flow_end flow) are;
          foot = λ path. (
            λ is. read_way (walked (known_of reads) no_own (pursued base.description t)) only nodes whole agrees (walked_way base.description t reads (get nodes) agrees c found) path (subst (λ rs. IsRead rs path) same is),
            λ on. subst (λ rs. IsRead rs path) (sym same) (way_read base.description t reads (get nodes) agrees c found path on),
          );
        };
  }

  -- the needed path of a transaction that needs one
  pub next_needed : (q : Path) → follow (known_of reads) no_own (pursued base.description t) ≡ Needs q → IsNeeded base turn reads q
  next_needed q needs u is nodes whole agrees =
      let same : t ≡ u = cc in
      subst (λ u. first_unknown (known_of reads) (way base.description u (get nodes)) ≡ Some q) same (needs_way base.description t reads (get nodes) agrees q needs)

  pub unread_needed : (q : Path) → follow (known_of reads) no_own (pursued base.description t) ≡ Needs q → read_at reads q ≡ None
  unread_needed q needs = none (read_at reads q) (needs_unknown (known_of reads) no_own (pursued base.description t) q needs)
    where
      none : (r : Option (Option Node × ℕ)) → option_map (λ (r : Option Node × ℕ). r.0) r ≡ None → r ≡ None
      none None h = refl
      none (Some r) h = cc

  -- with the path read, the reads fit the transaction again
  pub fit_again : (q : Path) → follow (known_of reads) no_own (pursued base.description t) ≡ Needs q → All (Contains (walked (known_of reads) no_own (pursued base.description t))) (keys_of more)
      → (node : Option Node) (position : ℕ) → ReadsFit base turn (reads ++ (q, (node, position)) ∷ [])
  fit_again q needs only node position u is nodes whole agreeing p read =
      let same : t ≡ u = cc in
      let agrees : Agrees reads (get nodes) = agrees_before reads ((q, (node, position)) ∷ []) (get nodes) agreeing in
      subst (λ u. Contains (way base.description u (get nodes)) p) same (at agrees (read_among reads ((q, (node, position)) ∷ []) p read))
    where
      at : Agrees reads (get nodes) → IsRead reads p ⊎ Contains (q ∷ []) p → Contains (way base.description t (get nodes)) p
      at agrees (inl h) = read_way (walked (known_of reads) no_own (pursued base.description t)) only nodes whole agrees (λ x k. front_way base.description t reads (get nodes) agrees q needs x (inl k)) p h
      at agrees (inr h) = front_way base.description t reads (get nodes) agrees q needs p (inr h)
