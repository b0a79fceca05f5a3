-- Each complete order of a number's case is summed up to the same numbers.
use Rattle.std.proofs.Common.{◌≡◌, ℕ, zero, suc, ◌+◌, ◌*◌, ◌<◌, ◌≤◌, pos, ◌+ℤ◌, cond, not, nat_eq, List, [], ◌∷◌, ◌++◌, take, length, get_or, Option, Some, refl, sym, ap, subst, ◌∙◌, arith, codes}
use Rattle.std.specs.Fmt.{decimal, signed_decimal, digits}
use Rattle.std.specs.FinMap.{get, len-entries}
use Rattle.std.specs.List.{All, count_by, sum_by, slice_get}
use Rattle.std.proofs.Math.Seq.{take-length, take-suc}
use Rattle.std.proofs.lemmas.Bool.{eq-eqb, and_from}
use Rattle.std.proofs.lemmas.List.{get_or_past, length-take-le}
use Rattle.std.proofs.lemmas.List.FromFn.{get_or-map-range_with_len, length-map-range_with_len}
use Rattle.std.proofs.lemmas.List.Sums.{sum_by-cons, sum_by_push, sum_by_more_le}
use Rattle.std.proofs.lemmas.Option.{slice_get-get_or}
use Rattle.fx_store.specs.declared.node.Node.{Node}
use Rattle.fx_store.specs.Whole.{Nodes}
use Rattle.fx_spec.specs.declared.refusal.End.{End}
use Rattle.fx_spec.specs.CommandTree.{CommandTree}
use Rattle.fx_spec.specs.Laws.{is_turn}
use Rattle.fx_spec.specs.Order.{BaseTree, IsComplete, after_txn, after_all, state, first_numbers}
use Rattle.fx_spec.specs.Plans.{Turn, script_of, count_of, txn_of}
use Rattle.fx_spec.specs.Transaction.{end, left_nodes}
use Rattle.fx_report.specs.declared.printed.PrintedEntry.{PrintedEntry}
use Rattle.fx_report.specs.Entries.{commands_or_none, entry, entries_from, entries_of}
use Rattle.fx_gen.specs.Notes.{nodes}
use Rattle.fx_gen.specs.Scripts.{kind_of, project_of, counting_of, logging_of}
use Rattle.fx_gen.proofs.Ranges.{counting_rest}
use Rattle.fx_gen.specs.Trees.{description_tree, txn_tree, script_tree}
use Rattle.fx_large_commands.specs.Base.{generated_base, plan_to}
use Rattle.fx_large_commands.specs.Summary.{is_done, done_of, integer_or_zero, counted_at, logged_at, counted_to, logged_to, node_count, lines}
use Rattle.fx_laws_above.specs.Totals.{counting_total, logs, SumsUp, LargeTellsTheSame}
use Rattle.fx_laws_above.proofs.Generated.{begins}
use Rattle.fx_laws_above.proofs.Counting.{IsOne, each_is_one, each_once, counted_once, has_1600}
use Rattle.fx_laws_above.proofs.Reading.{read_decimal}
use Rattle.fx_laws_above.proofs.States.{Stands, is_logging, is_counting, logs_at, step, either}
use Rattle.fx_laws_above.proofs.Walks.{count_path, log_path}

-- ---- the plan

module _ (number : ℕ) where
  abbrev base : BaseTree
  base = generated_base number

  script_is : (k : ℕ) → k < 8 → script_of base.plan k ≡ script_tree number k
  unfolding plan_to
  script_is k h = get_or-map-range_with_len (script_tree number) 0 8 k k [] h (omega arith)

  eight : (k : ℕ) → k < 8 → count_of base.plan k ≡ 200
  eight k h = ap length (script_is k h) ∙ length-map-range_with_len (λ j. txn_tree (kind_of number (200 * k + j)) (project_of number (200 * k + j)) k j) 0 200

  no_more : (k : ℕ) → 8 ≤ k → count_of base.plan k ≡ 0
  unfolding plan_to
  no_more k h = ap length (get_or_past base.plan k [] (let few = length-map-range_with_len (script_tree number) 0 8 in omega (arith, few, h)))

  abbrev txn : ℕ → ℕ → List CommandTree
  txn k j = txn_tree (kind_of number (200 * k + j)) (project_of number (200 * k + j)) k j

  txn_is : (k j : ℕ) → k < 8 → j < 200 → txn_of base.plan (k, j) ≡ Some (txn k j)
  txn_is k j h l =
      let long = length-map-range_with_len (λ j. txn k j) 0 200 in
      ap (λ script. slice_get script j) (script_is k h)
      ∙ slice_get-get_or (script_tree number k) j [] (omega (arith, long, l))
      ∙ ap Some (get_or-map-range_with_len (λ j. txn k j) 0 200 j j [] l (omega arith))

  -- ---- along an order

  module _ (o : List Turn) (complete : IsComplete base o) where
    all : All IsOne o
    all = each_is_one base o complete eight no_more

    long : length o ≡ 1600
    long = has_1600 base o complete eight no_more

    state_next : (i : ℕ) → i < length o → state base o (suc i) ≡ after_txn base.description (state base o i) (txn_of base.plan (get_or o i (0, 0)))
    unfolding state
    state_next i h = ap (after_all base base.loaded) (take-suc o i (0, 0) h) ∙ along (take i o) base.loaded
      where
        along : (front : List Turn) (nodes : Nodes) → after_all base nodes (front ++ get_or o i (0, 0) ∷ []) ≡ after_txn base.description (after_all base nodes front) (txn_of base.plan (get_or o i (0, 0)))
        along [] nodes = refl
        along (turn ∷ front) nodes = along front (after_txn base.description nodes (txn_of base.plan turn))

    abbrev Reaches : ℕ → Type 0
    Reaches i = Stands number (take i o) (state base o i)

    -- a transaction of the order has not stood in it before
    not_yet : (i : ℕ) → i < length o → (turn : Turn) → get_or o i (0, 0) ≡ turn → IsOne turn → count_by (is_turn turn.0 turn.1) (take i o) ≡ 0
    not_yet i h turn is one =
        let front : count_by (is_turn turn.0 turn.1) (take i o) + cond (is_turn turn.0 turn.1 (get_or o i (0, 0))) 1 0 ≤ count_by (is_turn turn.0 turn.1) o = sum_by_more_le (λ u. cond (is_turn turn.0 turn.1 u) 1 0) o i (0, 0) h in
        let own : ◌≡◌ {A = ℕ} (cond (is_turn turn.0 turn.1 (get_or o i (0, 0))) 1 0) 1 =
        ap (λ u. cond (is_turn turn.0 turn.1 u) 1 0) is ∙ ap (λ b. cond b 1 0) (and_from (nat_eq turn.0 turn.0) (nat_eq turn.1 turn.1) (eq-eqb turn.0 turn.0 refl) (eq-eqb turn.1 turn.1 refl)) in
        let once = each_once base o complete eight no_more turn.0 turn.1 one.0 one.1 in
        omega (arith, front, own, once)

    abbrev here : ℕ → Turn
    here i = get_or o i (0, 0)

    stepped : (i : ℕ) → i < length o → Reaches i → (end description_tree (txn (here i).0 (here i).1) (get (state base o i)) ≡ End.Done) × Stands number (take i o ++ here i ∷ []) (left_nodes description_tree (txn (here i).0 (here i).1) (state base o i))
    stepped i h s =
        let one : IsOne (here i) = all i (0, 0) h in
        step number (here i).0 (here i).1 (take i o) (state base o i) s one.0 one.1 (not_yet i h (here i) refl one) (let few = length-take-le i o (omega (arith, h)) in omega (arith, few, h, long))

    planned : (i : ℕ) → i < length o → txn_of base.plan (here i) ≡ Some (txn (here i).0 (here i).1)
    planned i h = let one : IsOne (here i) = all i (0, 0) h in txn_is (here i).0 (here i).1 one.0 one.1

    first : Stands number (take 0 o) (state base o 0)
    unfolding state
    first = begins number

    reaches : (i : ℕ) → i ≤ length o → Reaches i
    reaches zero h = first
    reaches (suc i) h =
        let inside : i < length o = omega (arith, h) in
        let next : state base o (suc i) ≡ left_nodes description_tree (txn (here i).0 (here i).1) (state base o i) = state_next i inside ∙ ap (after_txn base.description (state base o i)) (planned i inside) in
        subst (λ (m : Nodes). Stands number (take (suc i) o) m) (sym next)
        (subst (λ front. Stands number front (left_nodes description_tree (txn (here i).0 (here i).1) (state base o i))) (sym (take-suc o i (0, 0) inside)) (stepped i inside (reaches i (omega (arith, h)))).1)

    -- each is done
    ends_done : (i : ℕ) → i < length o → (entry base o i (here i)).end ≡ End.Done
    ends_done i h = ap (λ t. end base.description (commands_or_none t) (get (state base o i))) (planned i h) ∙ (stepped i h (reaches i (omega (arith, h)))).0

    done_from : (i : ℕ) (turns : List Turn) → ((n : ℕ) → n < length turns → (entry base o (i + n) (get_or turns n (0, 0))).end ≡ End.Done) → count_by (λ (e : PrintedEntry). is_done e.end) (entries_from base o i turns) ≡ length turns
    done_from i [] all = refl
    done_from i (turn ∷ turns) all =
        let first : (entry base o i turn).end ≡ End.Done = subst (λ m. (entry base o m turn).end ≡ End.Done) (omega arith) (all 0 (omega arith)) in
        let rest : count_by (λ (e : PrintedEntry). is_done e.end) (entries_from base o (suc i) turns) ≡ length turns =
        done_from (suc i) turns (λ n l. subst (λ m. (entry base o m (get_or turns n (0, 0))).end ≡ End.Done) (omega arith) (all (suc n) (omega (arith, l)))) in
        sum_by-cons (λ (e : PrintedEntry). cond (is_done e.end) 1 0) (entry base o i turn) (entries_from base o (suc i) turns)
        ∙ ap (λ e. cond (is_done e) 1 0 + count_by (λ (e : PrintedEntry). is_done e.end) (entries_from base o (suc i) turns)) first
        ∙ ap (λ n. 1 + n) rest ∙ omega arith

    all_done : done_of base o ≡ 1600
    unfolding entries_of
    all_done = done_from 0 o (λ n l. subst (λ m. (entry base o m (get_or o n (0, 0))).end ≡ End.Done) (omega arith) (ends_done n l)) ∙ long

    -- ---- the last state

    abbrev end_state : Nodes
    end_state = state base o (length o)

    at_end : Stands number o end_state
    at_end = subst (λ front. Stands number front end_state) (take-length o) (reaches (length o) (omega arith))

    counted_is : (n : ℕ) → n ≤ 16 → counted_to end_state n ≡ pos (sum_by at_end.counts (first_numbers n))
    unfolding counted_to
    counted_is zero h = refl
    counted_is (suc n) h =
        let few = at_end.few n in
        ap (λ z. z +ℤ counted_at (get end_state (count_path n))) (counted_is n (omega (arith, h)))
        ∙ ap (λ (x : Option Node). pos (sum_by at_end.counts (first_numbers n)) +ℤ counted_at x) (at_end.count n (omega (arith, h)))
        ∙ ap (λ r. pos (sum_by at_end.counts (first_numbers n)) +ℤ integer_or_zero r) (read_decimal (at_end.counts n) (omega (arith, few, long)))
        ∙ ap pos (sym (sum_by_push at_end.counts (first_numbers n) n))

    logged_is : (n : ℕ) → n ≤ 16 → logged_to end_state n ≡ sum_by (λ p. length (at_end.logs p)) (first_numbers n)
    unfolding logged_to
    logged_is zero h = refl
    logged_is (suc n) h =
        ap (λ m. m + logged_at (get end_state (log_path n))) (logged_is n (omega (arith, h)))
        ∙ ap (λ (x : Option Node). sum_by (λ p. length (at_end.logs p)) (first_numbers n) + logged_at x) (at_end.log n (omega (arith, h)))
        ∙ sym (sum_by_push (λ p. length (at_end.logs p)) (first_numbers n) n)

    logging_sum : (n : ℕ) → sum_by (λ t. cond (logs_at number t) 1 0) (first_numbers n) ≡ logging_of number n
    unfolding logging_of
    logging_sum zero = refl
    logging_sum (suc n) = sum_by_push (λ t. cond (logs_at number t) 1 0) (first_numbers n) n ∙ ap (λ m. m + cond (logs_at number n) 1 0) (logging_sum n)

    counting_sum : (n : ℕ) → sum_by (λ t. cond (not (logs_at number t)) 1 0) (first_numbers n) ≡ counting_of number n
    unfolding counting_of
    counting_sum zero = refl
    counting_sum (suc n) =
        sum_by_push (λ t. cond (not (logs_at number t)) 1 0) (first_numbers n) n ∙ ap (λ m. m + cond (not (logs_at number n)) 1 0) (counting_sum n)
        ∙ ap (λ m. counting_of number n + m) (either (logs_at number n))

    logging_all : count_by (is_logging number) o ≡ logs number
    logging_all = counted_once base o complete eight no_more (logs_at number) ∙ logging_sum 1600

    counting_all : count_by (is_counting number) o ≡ counting_total number
    counting_all = counted_once base o complete eight no_more (λ t. not (logs_at number t)) ∙ counting_sum 1600

    counted : counted_to end_state 16 ≡ pos (counting_total number)
    counted = counted_is 16 (omega arith) ∙ ap pos (at_end.counted ∙ counting_all)

    logged : logged_to end_state 16 ≡ logs number
    logged = logged_is 16 (omega arith) ∙ at_end.logged ∙ logging_all

    sized : node_count end_state ≡ 195 + logs number
    sized = sym (len-entries end_state) ∙ at_end.size ∙ ap (λ n. 195 + n) logging_all

    sums_up : SumsUp number o
    unfolding lines digits
    sums_up = record {
      transactions = long;
      done = all_done;
      counted = counted;
      logged = logged;
      nodes = sized;
      printed = ap (λ n. lines n (done_of base o) end_state) long ∙ ap (λ n. lines 1600 n end_state) all_done
          ∙ ap (λ z. codes "transactions 1600\ndone 1600\ncounted " ++ signed_decimal z ++ codes "\nlogged " ++ decimal (logged_to end_state 16) ++ codes "\nnodes " ++ decimal (node_count end_state) ++ codes "\n") counted
          ∙ ap (λ n. codes "transactions 1600\ndone 1600\ncounted " ++ decimal (counting_total number) ++ codes "\nlogged " ++ decimal n ++ codes "\nnodes " ++ decimal (node_count end_state) ++ codes "\n") logged
          ∙ ap (λ n. codes "transactions 1600\ndone 1600\ncounted " ++ decimal (counting_total number) ++ codes "\nlogged " ++ decimal (logs number) ++ codes "\nnodes " ++ decimal n ++ codes "\n") sized;
    }

pub large_tells_the_same : LargeTellsTheSame
large_tells_the_same = record { each = sums_up; together = λ number. counting_rest number 1600 }
