-- What stands in each state of a run of the case, and that each of its transactions is done there.
use Rattle.std.proofs.Common.{◌≡◌, ℕ, ◌+◌, ◌*◌, ◌/◌, ◌%◌, ◌^◌, ◌<◌, ◌≤◌, Bool, true, false, cond, not, ◌||◌, ◌==◌, nat_eq, List, [], ◌∷◌, ◌++◌, length, get_or, Option, Some, None, refl, sym, ap, subst, ◌∙◌, arith, codes, length-append, eq-eqb}
use Rattle.std.specs.Prelude.{is_some}
use mathlib.Core.Path.{fun_ext}
use Rattle.std.specs.Fmt.{decimal}
use Rattle.std.specs.FinMap.{get, len, len-insert, same_map, insert}
use Rattle.std.specs.List.{count_by, sum_by}
use Rattle.std.specs.Ordering.{eq_by_cmp}
use Rattle.std.proofs.lemmas.Bool.{ne_eqb, eqb-true, eqb-false, and_from}
use Rattle.std.proofs.lemmas.List.Sums.{sum_by_push}
use Rattle.fx_store.specs.declared.node.Node.{Node}
use Rattle.fx_store.specs.declared.node.Node.TheVariants.{File, Dir}
use Rattle.fx_store.specs.declared.changes.Change.{Change}
use Rattle.fx_store.specs.Names.{name_cmp, IsNameSet, has}
use Rattle.fx_store.specs.Orders.{path_total, path_same}
use Rattle.fx_store.specs.Resolve.{◌/ₚ◌}
use Rattle.fx_store.specs.Whole.{Nodes, IsWhole, over, over_nodes, update, lists}
use Rattle.fx_base.proofs.Names.{name_is}
use Rattle.fx_base.proofs.Results.{none_of}
use Rattle.fx_text.specs.declared.set.TheConstants.{UNION_LIMIT}
use Rattle.fx_text.specs.Sets.{set_of, with_text, weight}
use Rattle.fx_text.proofs.Order.{ascending_one}
use Rattle.fx_text.proofs.Weights.{union_fits}
use Rattle.fx_spec.specs.declared.refusal.End.{End}
use Rattle.fx_spec.specs.CommandTree.{CommandTree}
use Rattle.fx_spec.specs.Edit.{set_to}
use Rattle.fx_spec.specs.Laws.{is_turn}
use Rattle.fx_spec.specs.Order.{first_numbers}
use Rattle.fx_spec.specs.Plans.{Turn}
use Rattle.fx_spec.specs.Transaction.{end, left_nodes}
use Rattle.fx_spec.proofs.EditsKeep.{dir_node}
use Rattle.fx_spec.proofs.EditsMake.{has-with}
use Rattle.fx_spec.proofs.EditsWhole.{update_here, update_away}
use Rattle.fx_spec.proofs.Tasks.{get-set_node, get-over_nodes, leaves_as_data}
use Rattle.fx_spec.proofs.Transactions.{transactions_keep_whole}
use Rattle.fx_machine.proofs.Sums.{sum_apart}
use Rattle.fx_gen.specs.Draws.{draw}
use Rattle.fx_gen.specs.Notes.{project, part_names, config}
use Rattle.fx_gen.specs.Scripts.{tag, kind_of, project_of}
use Rattle.fx_gen.specs.Trees.{description_tree, count_tree, log_tree, txn_tree}
use Rattle.fx_laws_above.proofs.Adding.{length-with, union_is}
use Rattle.fx_laws_above.proofs.Counting.{number_of}
use Rattle.fx_laws_above.proofs.Steps.{Does, HasCount, count_does, log_does}
use Rattle.fx_laws_above.proofs.Tags.{tag_short, tag_tells, tag_named}
use Rattle.fx_laws_above.proofs.Walks.{count_path, log_path}

abbrev Path : Type 0
Path = List (List ℕ)

-- whether the transaction of a number logs
abbrev pub logs_at : ℕ → ℕ → Bool
logs_at number t = kind_of number t == 3

abbrev pub is_logging : ℕ → Turn → Bool
is_logging number turn = logs_at number (number_of turn)

abbrev pub is_counting : ℕ → Turn → Bool
is_counting number turn = not (logs_at number (number_of turn))

-- the name of a transaction of an order
pub record IsTagOf (done : List Turn) (n : List ℕ) : Type 0 where
  pub k : ℕ
  pub j : ℕ
  pub script : k < 8
  pub place : j < 200
  pub there : 0 < count_by (is_turn k j) done
  pub is : n ≡ tag k j

-- what stands in the filestore after some transactions
pub record Stands (number : ℕ) (done : List Turn) (nodes : Nodes) : Type 0 where
  pub whole : IsWhole (get nodes)
  pub listing : get nodes (codes "config" ∷ []) ≡ Some (File config false)
  pub dir : (p : ℕ) → p < 16 → get nodes (project p ∷ []) ≡ Some (Dir part_names)
  pub counts : ℕ → ℕ
  pub count : (p : ℕ) → p < 16 → get nodes (count_path p) ≡ Some (File (decimal (counts p)) false)
  pub logs : ℕ → Path
  pub log : (p : ℕ) → p < 16 → get nodes (log_path p) ≡ Some (Dir (logs p))
  pub few : (p : ℕ) → counts p ≤ length done
  pub light : (p : ℕ) → weight (logs p) ≤ 7 * length done
  pub tags : (p : ℕ) → p < 16 → (n : List ℕ) → has (logs p) n ≡ true → IsTagOf done n
  pub counted : sum_by counts (first_numbers 16) ≡ count_by (is_counting number) done
  pub logged : sum_by (λ p. length (logs p)) (first_numbers 16) ≡ count_by (is_logging number) done
  pub size : len nodes ≡ 195 + count_by (is_logging number) done

-- ---- paths of projects

pub same_project : (p q : ℕ) → p < 16 → q < 16 → project p ≡ project q → p ≡ q
same_project p q a b e =
    let tens : 48 + p / 10 ≡ 48 + q / 10 = ap (λ l. get_or l 1 0) e in
    let units : 48 + p % 10 ≡ 48 + q % 10 = ap (λ l. get_or l 2 0) e in
    omega (arith, tens, units)

first_of : (p q : ℕ) (a b : Path) → project p ∷ a ≡ project q ∷ b → project p ≡ project q
first_of p q a b e = ap (λ l. get_or l 0 []) e

second_of : (a b : List ℕ) (p q : ℕ) → project p ∷ a ∷ [] ≡ project q ∷ b ∷ [] → a ≡ b
second_of a b p q e = ap (λ l. get_or l 1 []) e

no_log : (p q : ℕ) → count_path p ≡ log_path q → ⊥
no_log p q e = let lengths : 5 ≡ 3 = ap length (second_of (codes "count") (codes "log") p q e) in absurd (omega (arith, lengths))

-- ---- the filestore that a done transaction leaves

module _ (nodes : Nodes) (t : List CommandTree) (cs : List Change) (does : Does (get nodes) t cs) where
  left_is : left_nodes description_tree t nodes ≡ over_nodes nodes cs
  left_is =
      same_map path_total path_same (left_nodes description_tree t nodes) (over_nodes nodes cs)
      (λ q. leaves_as_data description_tree t nodes q ∙ ap (λ (S : List (List ℕ) → Option Node). S q) does.left ∙ sym (ap (λ (S : List (List ℕ) → Option Node). S q) (get-over_nodes nodes cs)))

  left_get : get (left_nodes description_tree t nodes) ≡ over (get nodes) cs
  left_get = ap get left_is ∙ get-over_nodes nodes cs

  left_whole : IsWhole (get nodes) → IsWhole (get (left_nodes description_tree t nodes))
  left_whole whole = subst IsWhole (sym (fun_ext (λ q. leaves_as_data description_tree t nodes q))) (transactions_keep_whole description_tree t (get nodes) whole)

-- ---- one transaction more

-- a count of what fails is one of what passes, the other way round
pub either : (b : Bool) → ◌≡◌ {A = ℕ} (cond (not b) 1 0) (cond b 0 1)
either true = refl
either false = refl

module _ (number k j : ℕ) (done : List Turn) (nodes : Nodes) (s : Stands number done nodes) (script : k < 8) (place : j < 200) (absent : count_by (is_turn k j) done ≡ 0) (room : length done < 1600) where
  abbrev turn : Turn
  turn = (k, j)

  abbrev more : List Turn
  more = done ++ turn ∷ []

  abbrev p : ℕ
  p = project_of number (200 * k + j)

  inside : p < 16
  unfolding project_of draw
  inside = omega arith

  long : length more ≡ length done + 1
  long = length-append done (turn ∷ [])

  stands : HasCount (get nodes) p (s.counts p)
  stands = record { config = s.listing; dir = s.dir p inside; count = s.count p inside }

  -- its name stays one of the order
  still_tag : (n : List ℕ) → IsTagOf done n → IsTagOf more n
  still_tag n tag = record {
    k = tag.k;
    j = tag.j;
    script = tag.script;
    place = tag.place;
    there = let push = sum_by_push (λ u. cond (is_turn tag.k tag.j u) 1 0) done turn in let was = tag.there in omega (arith, push, was);
    is = tag.is;
  }

  counts_one : (b : Bool) → logs_at number (200 * k + j) ≡ b → count_by (is_counting number) more ≡ count_by (is_counting number) done + cond b 0 1
  counts_one b e = sum_by_push (λ u. cond (is_counting number u) 1 0) done turn ∙ ap (λ n. count_by (is_counting number) done + n) (ap (λ c. cond (not c) 1 0) e ∙ either b)

  logs_one : (b : Bool) → logs_at number (200 * k + j) ≡ b → count_by (is_logging number) more ≡ count_by (is_logging number) done + cond b 1 0
  logs_one b e = sum_by_push (λ u. cond (is_logging number u) 1 0) done turn ∙ ap (λ c. count_by (is_logging number) done + cond c 1 0) e

  -- ---- one that counts

  module _ (kind : logs_at number (200 * k + j) ≡ false) where
    abbrev c : Change
    c = set_to (count_path p) (File (decimal (s.counts p + 1)) false)

    small : s.counts p + 1 < 2 ^ 63
    small = let few = s.few p in omega (arith, few, room)

    does : Does (get nodes) (count_tree p) (c ∷ [])
    does = count_does (get nodes) p (s.counts p) inside small stands

    abbrev nodes' : Nodes
    nodes' = left_nodes description_tree (count_tree p) nodes

    other : (r : Path) → (r ≡ count_path p → ⊥) → get nodes' r ≡ get nodes r
    other r apart = ap (λ (S : Path → Option Node). S r) (left_get nodes (count_tree p) (c ∷ []) does) ∙ update_away (get nodes) c r apart

    abbrev counts' : ℕ → ℕ
    counts' q = cond (nat_eq q p) (s.counts p + 1) (s.counts q)

    count' : (q : ℕ) → q < 16 → get nodes' (count_path q) ≡ Some (File (decimal (counts' q)) false)
    count' q l = by (nat_eq q p) refl
      where
        by : (b : Bool) → nat_eq q p ≡ b → get nodes' (count_path q) ≡ Some (File (decimal (cond b (s.counts p + 1) (s.counts q))) false)
        by true e = ap (λ (S : Path → Option Node). S (count_path q)) (left_get nodes (count_tree p) (c ∷ []) does) ∙ update_here (get nodes) c (count_path q) (ap count_path (eqb-true q p e))
        by false e = other (count_path q) (λ same. eqb-false q p e (same_project q p l inside (first_of q p (codes "count" ∷ []) (codes "count" ∷ []) same))) ∙ s.count q l

    few' : (q : ℕ) → counts' q ≤ length more
    few' q = by (nat_eq q p)
      where
        by : (b : Bool) → cond b (s.counts p + 1) (s.counts q) ≤ length more
        by true = let few = s.few p in omega (arith, few, long)
        by false = let few = s.few q in omega (arith, few, long)

    sum' : sum_by counts' (first_numbers 16) ≡ sum_by s.counts (first_numbers 16) + 1
    sum' =
        sum_apart s.counts counts' 16 p 1 inside (ap (λ b. cond b (s.counts p + 1) (s.counts p)) (eq-eqb p p refl))
        (λ q apart. ap (λ b. cond b (s.counts p + 1) (s.counts q)) (sym (ne_eqb q p apart)))

    size' : len nodes' ≡ len nodes
    size' =
        ap len (left_is nodes (count_tree p) (c ∷ []) does)
        ∙ len-insert path_total nodes (count_path p) (File (decimal (s.counts p + 1)) false)
        ∙ ap (λ (o : Option Node). cond (is_some o) (len nodes) (len nodes + 1)) (s.count p inside)

    stands_counted : Stands number more nodes'
    stands_counted = record {
      whole = left_whole nodes (count_tree p) (c ∷ []) does s.whole;
      listing = other (codes "config" ∷ []) (λ e. let lengths : 1 ≡ 2 = ap length e in absurd (omega (arith, lengths))) ∙ s.listing;
      dir = λ q l. other (project q ∷ []) (λ e. let lengths : 1 ≡ 2 = ap length e in absurd (omega (arith, lengths))) ∙ s.dir q l;
      counts = counts';
      count = count';
      logs = s.logs;
      log = λ q l. other (log_path q) (λ e. no_log p q (sym e)) ∙ s.log q l;
      few = few';
      light = λ q. let was = s.light q in omega (arith, was, long);
      tags = λ q l n h. still_tag n (s.tags q l n h);
      counted = sum' ∙ ap (λ n. n + 1) s.counted ∙ sym (counts_one false kind);
      logged = s.logged ∙ zero_more (count_by (is_logging number) done) ∙ sym (logs_one false kind);
      size = size' ∙ s.size ∙ ap (λ n. 195 + n) (zero_more (count_by (is_logging number) done) ∙ sym (logs_one false kind));
    }
      where
        zero_more : (n : ℕ) → n ≡ n + 0
        zero_more n = omega arith

  -- ---- one that logs

  module _ (kind : logs_at number (200 * k + j) ≡ true) where
    abbrev t : List ℕ
    t = tag k j

    abbrev old : Path
    old = s.logs p

    set : IsNameSet old
    set = (dir_node (get nodes) s.whole (log_path p) old (s.log p inside)).0

    fresh : has old t ≡ false
    fresh = by (has old t) refl
      where
        by : (b : Bool) → has old t ≡ b → b ≡ false
        by false e = refl
        by true e =
            let was : IsTagOf done t = s.tags p inside t e in
            let same = tag_tells k j was.k was.j script was.script place was.place was.is in
            let there : 0 < count_by (is_turn k j) done = subst (λ i. 0 < count_by (is_turn k i) done) (sym same.1) (subst (λ m. 0 < count_by (is_turn m was.j) done) (sym same.0) was.there) in
            absurd (omega (arith, there, absent))

    fits : weight (set_of (old ++ t ∷ [])) ≤ 7 * length done + 7
    fits =
        let short = tag_short k j script place in
        union_fits old (t ∷ []) (weight old) (length t + 1) (7 * length done + 7) (record { ascending = set.ascending; weighed = refl }) (record { ascending = ascending_one (t ∷ []) t refl; weighed = omega arith }) (let was = s.light p in omega (arith, was, short))

    under : weight (set_of (old ++ t ∷ [])) ≤ UNION_LIMIT
    under = omega (arith, fits, room)

    abbrev new : Path
    new = with_text t old

    abbrev d : Change
    d = set_to (log_path p) (Dir new)

    abbrev f : Change
    f = set_to (log_path p /ₚ t) (File [] false)

    logs_it : Does (get nodes) (log_tree p k j) (d ∷ f ∷ [])
    logs_it = log_does (get nodes) p (s.counts p) k j old inside set (tag_named k j script place) fresh under stands (s.log p inside)

    abbrev nodes'' : Nodes
    nodes'' = left_nodes description_tree (log_tree p k j) nodes

    abbrev at_log : (r : Path) → get nodes'' r ≡ update (update (get nodes) d) f r
    at_log r = ap (λ (S : Path → Option Node). S r) (left_get nodes (log_tree p k j) (d ∷ f ∷ []) logs_it)

    apart : (r : Path) → (r ≡ log_path p → ⊥) → (r ≡ log_path p /ₚ t → ⊥) → get nodes'' r ≡ get nodes r
    apart r one two = at_log r ∙ update_away (update (get nodes) d) f r two ∙ update_away (get nodes) d r one

    three : (n : ℕ) → n < 3 → n ≡ 3 → ⊥
    three n l e = absurd (omega (arith, l, e))

    abbrev logs' : ℕ → Path
    logs' q = cond (nat_eq q p) new (s.logs q)

    log' : (q : ℕ) → q < 16 → get nodes'' (log_path q) ≡ Some (Dir (logs' q))
    log' q l = by (nat_eq q p) refl
      where
        by : (b : Bool) → nat_eq q p ≡ b → get nodes'' (log_path q) ≡ Some (Dir (cond b new (s.logs q)))
        by true e =
            at_log (log_path q) ∙ update_away (update (get nodes) d) f (log_path q) (λ e. three 2 (omega arith) (ap length e)) ∙ update_here (get nodes) d (log_path q) (ap log_path (eqb-true q p e))
        by false e =
            apart (log_path q) (λ same. eqb-false q p e (same_project q p l inside (first_of q p (codes "log" ∷ []) (codes "log" ∷ []) same))) (λ e. three 2 (omega arith) (ap length e))
            ∙ s.log q l

    light' : (q : ℕ) → weight (logs' q) ≤ 7 * length more
    light' q = by (nat_eq q p)
      where
        by : (b : Bool) → weight (cond b new (s.logs q)) ≤ 7 * length more
        by true = let same : weight (set_of (old ++ t ∷ [])) ≡ weight new = ap weight (union_is (get nodes) (log_path p) old t set fresh) in omega (arith, fits, long, same)
        by false = let was = s.light q in omega (arith, was, long)

    own_tag : IsTagOf more t
    own_tag = record {
      k = k;
      j = j;
      script = script;
      place = place;
      there = let push = sum_by_push (λ u. cond (is_turn k j u) 1 0) done turn in let own : ◌≡◌ {A = ℕ} (cond (is_turn k j turn) 1 0) 1 = ap (λ b. cond b 1 0) (and_from (nat_eq k k) (nat_eq j j) (eq-eqb k k refl) (eq-eqb j j refl)) in omega (arith, push, own);
      is = refl;
    }

    tags' : (q : ℕ) → q < 16 → (n : List ℕ) → has (logs' q) n ≡ true → IsTagOf more n
    tags' q l n = by (nat_eq q p)
      where
        new_one : (b : Bool) → eq_by_cmp name_cmp n t ≡ b → (b || has old n) ≡ true → IsTagOf more n
        new_one true e h = subst (IsTagOf more) (sym (name_is n t e)) own_tag
        new_one false e h = still_tag n (s.tags p inside n h)

        by : (b : Bool) → has (cond b new (s.logs q)) n ≡ true → IsTagOf more n
        by true h = new_one (eq_by_cmp name_cmp n t) refl (sym (has-with t old set n) ∙ h)
        by false h = still_tag n (s.tags q l n h)

    sum_logs : sum_by (λ q. length (logs' q)) (first_numbers 16) ≡ sum_by (λ q. length (s.logs q)) (first_numbers 16) + 1
    sum_logs =
        sum_apart (λ q. length (s.logs q)) (λ q. length (logs' q)) 16 p 1 inside
        (ap (λ b. length (cond b new (s.logs p))) (eq-eqb p p refl) ∙ length-with (get nodes) (log_path p) old t set fresh)
        (λ q apart. ap (λ b. length (cond b new (s.logs q))) (sym (ne_eqb q p apart)))

    nothing_there : get nodes (log_path p /ₚ t) ≡ None
    nothing_there = none_of (get nodes (log_path p /ₚ t)) (s.whole.listed (log_path p) t ∙ ap (λ (o : Option Node). lists o t) (s.log p inside) ∙ fresh)

    size'' : len nodes'' ≡ len nodes + 1
    size'' =
        ap len (left_is nodes (log_tree p k j) (d ∷ f ∷ []) logs_it)
        ∙ len-insert path_total (insert nodes (log_path p) (Dir new)) (log_path p /ₚ t) (File [] false)
        ∙ ap (λ (o : Option Node). cond (is_some o) (len (insert nodes (log_path p) (Dir new))) (len (insert nodes (log_path p) (Dir new)) + 1)) not_yet
        ∙ ap (λ n. n + 1) (len-insert path_total nodes (log_path p) (Dir new) ∙ ap (λ (o : Option Node). cond (is_some o) (len nodes) (len nodes + 1)) (s.log p inside))
      where
        not_yet : get (insert nodes (log_path p) (Dir new)) (log_path p /ₚ t) ≡ None
        not_yet =
            ap (λ (S : Path → Option Node). S (log_path p /ₚ t)) (get-set_node nodes d)
            ∙ update_away (get nodes) d (log_path p /ₚ t) (λ e. three 2 (omega arith) (sym (ap length e)))
            ∙ nothing_there

    stands_logged : Stands number more nodes''
    stands_logged = record {
      whole = left_whole nodes (log_tree p k j) (d ∷ f ∷ []) logs_it s.whole;
      listing = apart (codes "config" ∷ []) (λ e. one_two (ap length e)) (λ e. three 1 (omega arith) (ap length e)) ∙ s.listing;
      dir = λ q l. apart (project q ∷ []) (λ e. one_two (ap length e)) (λ e. three 1 (omega arith) (ap length e)) ∙ s.dir q l;
      counts = s.counts;
      count = λ q l. apart (count_path q) (λ e. no_log q p e) (λ e. three 2 (omega arith) (ap length e)) ∙ s.count q l;
      logs = logs';
      log = log';
      few = λ q. let few = s.few q in omega (arith, few, long);
      light = light';
      tags = tags';
      counted = s.counted ∙ zero_more (count_by (is_counting number) done) ∙ sym (counts_one true kind);
      logged = sum_logs ∙ ap (λ n. n + 1) s.logged ∙ sym (logs_one true kind);
      size = size'' ∙ ap (λ n. n + 1) s.size ∙ later (count_by (is_logging number) done) ∙ ap (λ n. 195 + n) (sym (logs_one true kind));
    }
      where
        zero_more : (n : ℕ) → n ≡ n + 0
        zero_more n = omega arith

        one_two : ◌≡◌ {A = ℕ} 1 2 → ⊥
        one_two e = absurd (omega (arith, e))

        later : (n : ℕ) → 195 + n + 1 ≡ 195 + (n + 1)
        later n = omega arith

  -- ---- either

  pub step : (end description_tree (txn_tree (kind_of number (200 * k + j)) p k j) (get nodes) ≡ End.Done) × Stands number more (left_nodes description_tree (txn_tree (kind_of number (200 * k + j)) p k j) nodes)
  step = by (logs_at number (200 * k + j)) refl
    where
      by : (b : Bool) → logs_at number (200 * k + j) ≡ b → (end description_tree (cond b (log_tree p k j) (count_tree p)) (get nodes) ≡ End.Done) × Stands number more (left_nodes description_tree (cond b (log_tree p k j) (count_tree p)) nodes)
      by true e = ((logs_it e).end, stands_logged e)
      by false e = ((does e).end, stands_counted e)
