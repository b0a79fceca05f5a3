-- Neighbours in an order that are apart, and the order of one script.
use Rattle.std.proofs.Common.{◌≡◌, ◌≢◌, ℕ, suc, ◌+◌, ◌<◌, ◌≤◌, Bool, true, false, cond, nat_eq, refl, ap, sym, subst, ◌∙◌, List, [], ◌∷◌, map, take, length, Some, None, arith, ⊎_elim, eq-eqb}
use Rattle.std.proofs.lemmas.Bool.{cases_eq, cases_lt}
use Rattle.std.proofs.lemmas.List.{get_or_past}
use Rattle.std.proofs.lemmas.List.Elements.{All-nil, All-cons, All-weaker, All-contains}
use Rattle.std.specs.FinMap.{get}
use Rattle.std.specs.List.{All, Contains, cons_option}
use Rattle.fx_store.specs.Whole.{Nodes, Store}
use Rattle.fx_store.proofs.Stores.{same_nodes}
use mathlib.Core.Path.{fun_ext}
use Rattle.fx_base.proofs.Lists.{Contains-later, Contains-first}
use Rattle.fx_spec.specs.SpecTree.{SpecTree}
use Rattle.fx_spec.specs.CommandTree.{CommandTree}
use Rattle.fx_spec.specs.Plans.{Turn, txn_of, count_of, script_of}
use Rattle.fx_spec.specs.Order.{BaseTree, after_txn, after_all, state, numbers_of, first_numbers, IsComplete}
use Rattle.fx_spec.specs.Transaction.{left, left_nodes}
use Rattle.fx_spec.proofs.Tasks.{leaves_as_data}
use Rattle.fx_laws.specs.Apart.{AreApart}
use Rattle.fx_machine.proofs.Complete.{below_first}
use Rattle.fx_laws.specs.Swapped.{NeighboursMaySwap, OneScriptOneOrder}
use Rattle.fx_laws.proofs.Apart.{apart_commute}
use Rattle.fx_laws.proofs.Undone.{state_past}

-- ---- neighbours

data_left : (root : SpecTree) (t : List CommandTree) (nodes : Nodes) → get (left_nodes root t nodes) ≡ left root t (get nodes)
data_left root t nodes = fun_ext (λ p. leaves_as_data root t nodes p)

both_left : (root : SpecTree) (t u : List CommandTree) (nodes : Nodes) → AreApart root t u (get nodes) → left_nodes root u (left_nodes root t nodes) ≡ left_nodes root t (left_nodes root u nodes)
both_left root t u nodes apart =
    same_nodes (left_nodes root u (left_nodes root t nodes)) (left_nodes root t (left_nodes root u nodes)) (λ q.
    leaves_as_data root u (left_nodes root t nodes) q
    ∙ (ap (λ (S : Store). left root u S q) (data_left root t nodes)
    ∙ ((apart_commute root t u (get nodes) apart).left q
    ∙ (sym (ap (λ (S : Store). left root t S q) (data_left root u nodes)) ∙ sym (leaves_as_data root t (left_nodes root u nodes) q)))))

pub neighbours_may_swap : NeighboursMaySwap
neighbours_may_swap base before later a b n i =
    state_past base before (a ∷ b ∷ later) (2 + i)
    ∙ (count (a ∷ b ∷ later)
    ∙ (ap (λ nodes. after_all base nodes (take i later)) same
    ∙ (sym (count (b ∷ a ∷ later)) ∙ sym (state_past base before (b ∷ a ∷ later) (2 + i)))))
  where
    here : Nodes
    here = state base before (length before)

    count : (more : List Turn) → after_all base here (take (2 + i) more) ≡ after_all base here (take (suc (suc i)) more)
    count more = let steps : 2 + i ≡ suc (suc i) = omega arith in ap (λ k. after_all base here (take k more)) steps

    same : after_txn base.description (after_txn base.description here (txn_of base.plan a)) (txn_of base.plan b) ≡ after_txn base.description (after_txn base.description here (txn_of base.plan b)) (txn_of base.plan a)
    same =
        (λ k. after_txn base.description (after_txn base.description here (n.planned_first k)) (n.planned_second k))
        ∙ (both_left base.description n.first n.second here n.apart ∙ sym (λ k. after_txn base.description (after_txn base.description here (n.planned_second k)) (n.planned_first k)))

-- ---- one script

-- where no other shell has a number, the order is that of the first one's numbers
only_first : (o : List Turn) → ((shell : ℕ) → shell ≢ 0 → numbers_of shell o ≡ []) → o ≡ map (λ n. (0, n)) (numbers_of 0 o)
only_first [] none = refl
only_first ((k, j) ∷ o) none = ⊎_elim
    (λ (e : k ≡ 0). subst (λ k. ((k, j) ∷ o) ≡ map (λ n. (0, n)) (numbers_of 0 ((k, j) ∷ o))) (sym e) (ap (λ ts. (0, j) ∷ ts) (only_first o (rest e))))
    (λ (other : k ≢ 0). absurd (own (sym (ap (λ b. cons_option (cond b (Some j) None) (numbers_of k o)) (eq-eqb k k refl)) ∙ none k other)))
    (cases_eq k 0)
  where
    own : (j ∷ numbers_of k o) ≡ [] → ⊥
    own e = cc

    tail : (b : Bool) (ns : List ℕ) → cons_option (cond b (Some j) None) ns ≡ [] → ns ≡ []
    tail true ns e = cc
    tail false ns e = e

    rest : k ≡ 0 → (shell : ℕ) → shell ≢ 0 → numbers_of shell o ≡ []
    rest e shell other = tail (nat_eq k shell) (numbers_of shell o) (none shell other)

no_numbers : (ns : List ℕ) → length ns ≤ 0 → ns ≡ []
no_numbers [] h = refl
no_numbers (n ∷ ns) h = absurd (omega (arith, h))

-- a shell's turn in an order has its number among the shell's
pub turns_counted : (shell : ℕ) (o : List Turn) → All (λ (t : Turn). t.0 ≡ shell → Contains (numbers_of shell o) t.1) o
turns_counted shell [] = All-nil (λ (t : Turn). t.0 ≡ shell → Contains (numbers_of shell []) t.1)
turns_counted shell (t ∷ o) =
    All-cons (λ (u : Turn). u.0 ≡ shell → Contains (numbers_of shell (t ∷ o)) u.1) t o
    (λ e. subst (λ b. Contains (cons_option (cond b (Some t.1) None) (numbers_of shell o)) t.1) (sym (eq-eqb t.0 shell e)) (Contains-first t.1 (numbers_of shell o)))
    (All-weaker (λ (u : Turn). u.0 ≡ shell → Contains (numbers_of shell o) u.1) (λ (u : Turn). u.0 ≡ shell → Contains (numbers_of shell (t ∷ o)) u.1) (λ u h e. more (nat_eq t.0 shell) u.1 (h e)) o (turns_counted shell o))
  where
    more : (b : Bool) (n : ℕ) → Contains (numbers_of shell o) n → Contains (cons_option (cond b (Some t.1) None) (numbers_of shell o)) n
    more true n h = Contains-later t.1 (numbers_of shell o) n h
    more false n h = h

-- a complete order has all of a shell's transactions
pub all_there : (base : BaseTree) (o : List Turn) (shell : ℕ) → IsComplete base o → length (numbers_of shell o) ≡ count_of base.plan shell
all_there base o shell complete = ⊎_elim
    (λ (h : length (numbers_of shell o) < count_of base.plan shell).
    let n : ℕ = length (numbers_of shell o) in
    let here : Contains (numbers_of shell o) n = All-contains (λ (t : Turn). t.0 ≡ shell → Contains (numbers_of shell o) t.1) o (shell, n) (turns_counted shell o) (complete.all shell n h) refl in
    let low : n < n = All-contains (λ m. m < n) (first_numbers n) n (below_first n) (subst (λ l. Contains l n) (complete.legal shell).in_turn here) in
    absurd (omega (arith, low)))
    (λ (h : count_of base.plan shell ≤ length (numbers_of shell o)). omega (arith, h, (complete.legal shell).planned))
    (cases_lt (length (numbers_of shell o)) (count_of base.plan shell))

pub one_script_one_order : OneScriptOneOrder
one_script_one_order base o one complete =
    only_first o none ∙ ap (map (λ n. (0, n))) ((complete.legal 0).in_turn ∙ ap first_numbers (all_there base o 0 complete))
  where
    none : (shell : ℕ) → shell ≢ 0 → numbers_of shell o ≡ []
    none shell other =
        let past : script_of base.plan shell ≡ [] = get_or_past base.plan shell [] (omega (arith, one, other)) in
        let empty : count_of base.plan shell ≡ 0 = ap length past in
        no_numbers (numbers_of shell o) (omega (arith, empty, (complete.legal shell).planned))
