-- Legal and complete orders: how they grow, and that a complete one has each transaction once.
use Rattle.std.proofs.Common.{◌≡◌, ℕ, zero, suc, ◌+◌, ◌<◌, ◌≤◌, Bool, true, false, cond, ◌&&◌, refl, ap, subst, sym, ◌∙◌, List, [], ◌∷◌, ◌++◌, take, length, nat_eq, nat_lt, Some, None, arith, length-append, eq-eqb, add-one}
use Rattle.std.proofs.Math.Seq.{take-length}
use Rattle.std.proofs.lemmas.Bool.{ltb-true, ltb-false, eqb-true}
use Rattle.std.proofs.lemmas.Bool.Decides.{nat_tests}
use Rattle.std.proofs.lemmas.List.{take-append-le, append-nil}
use Rattle.std.proofs.lemmas.List.Elements.{filter_map-append}
use Rattle.std.proofs.lemmas.List.Sums.{sum_by-append, sum_by-cons, get_or-le-sum_by}
use Rattle.std.specs.List.{cons_option, count_by, Contains}
use Rattle.fx_store.specs.Whole.{Nodes}
use Rattle.fx_spec.specs.Plans.{Turn, count_of, txn_of}
use Rattle.fx_spec.specs.Order.{BaseTree, after_all, after_txn, state, number_in, numbers_of, first_numbers, IsLegalFor, IsLegal, IsComplete}
use Rattle.fx_spec.specs.Laws.{is_turn, CompleteHasEachOnce}

-- the empty order is legal
pub legal_none : (base : BaseTree) → IsLegal base []
legal_none base shell = record { in_turn = refl; planned = omega arith }

-- the numbers of a shell with one more transaction, its own or another shell's
pub numbers_own : (o : List Turn) (shell txn : ℕ) → numbers_of shell (o ++ (shell, txn) ∷ []) ≡ numbers_of shell o ++ txn ∷ []
numbers_own o shell txn =
    filter_map-append (number_in shell) o ((shell, txn) ∷ []) ∙ ap (λ b. numbers_of shell o ++ cons_option (cond b (Some txn) None) []) (eq-eqb shell shell refl)

pub numbers_other : (o : List Turn) (k shell txn : ℕ) → nat_eq shell k ≡ false → numbers_of k (o ++ (shell, txn) ∷ []) ≡ numbers_of k o
numbers_other o k shell txn e =
    filter_map-append (number_in k) o ((shell, txn) ∷ []) ∙ ap (λ b. numbers_of k o ++ cons_option (cond b (Some txn) None) []) e ∙ append-nil (numbers_of k o)

-- an order with one shell's next transaction is legal
pub legal-next : (base : BaseTree) (o : List Turn) (shell : ℕ) → IsLegal base o → length (numbers_of shell o) < count_of base.plan shell → IsLegal base (o ++ (shell, length (numbers_of shell o)) ∷ [])
legal-next base o shell legal room k = at (nat_eq shell k) refl
  where
    at : (b : Bool) → nat_eq shell k ≡ b → IsLegalFor base (o ++ (shell, length (numbers_of shell o)) ∷ []) k
    at true e =
        let same : shell ≡ k = eqb-true shell k e in
        subst (λ k. IsLegalFor base (o ++ (shell, length (numbers_of shell o)) ∷ []) k) same (record {
          in_turn = rw (numbers_own o shell (length (numbers_of shell o)), length-append (numbers_of shell o) (length (numbers_of shell o) ∷ [])) (own (length (numbers_of shell o)) (legal shell).in_turn);
          planned = rw (numbers_own o shell (length (numbers_of shell o))) (omega (arith, length-append (numbers_of shell o) (length (numbers_of shell o) ∷ []), room));
        })
      where
        own : (m : ℕ) → numbers_of shell o ≡ first_numbers m → numbers_of shell o ++ m ∷ [] ≡ first_numbers (m + 1)
        own m f = rw add-one (ap (λ l. l ++ m ∷ []) f)
    at false e = record {
      in_turn = rw (numbers_other o k shell (length (numbers_of shell o)) e) (legal k).in_turn;
      planned = rw (numbers_other o k shell (length (numbers_of shell o)) e) (legal k).planned;
    }

-- the states of an order do not change as it grows, and the next one is that after its last transaction
pub state-front : (base : BaseTree) (o more : List Turn) (i : ℕ) → i ≤ length o → state base (o ++ more) i ≡ state base o i
unfolding state
state-front base o more i h = rw (take-append-le i o more h)

pub after_all-append : (base : BaseTree) (nodes : Nodes) (o more : List Turn) → after_all base nodes (o ++ more) ≡ after_all base (after_all base nodes o) more
after_all-append base nodes [] more = refl
after_all-append base nodes (turn ∷ o) more = after_all-append base (after_txn base.description nodes (txn_of base.plan turn)) o more

pub state-next : (base : BaseTree) (o : List Turn) (turn : Turn) → state base (o ++ turn ∷ []) (suc (length o)) ≡ after_txn base.description (state base o (length o)) (txn_of base.plan turn)
unfolding state
state-next base o turn =
    let whole : take (suc (length o)) (o ++ turn ∷ []) ≡ o ++ turn ∷ [] = let e : length (o ++ turn ∷ []) ≡ suc (length o) = omega (arith, length-append o (turn ∷ [])) in subst (λ n. take n (o ++ turn ∷ []) ≡ o ++ turn ∷ []) e (take-length (o ++ turn ∷ [])) in
    let front : take (length o) o ≡ o = take-length o in
    rw (whole, front) (after_all-append base base.loaded o (turn ∷ []))

-- a turn stands in an order as often as its number among its shell's
count_split : (o : List Turn) (shell txn : ℕ) → count_by (is_turn shell txn) o ≡ count_by (λ n. nat_eq n txn) (numbers_of shell o)
count_split [] shell txn = refl
count_split (turn ∷ o) shell txn = sum_by-cons (λ t. cond (is_turn shell txn t) 1 0) turn o ∙ at (nat_eq turn.0 shell) (count_split o shell txn)
  where
    at : (b : Bool) → count_by (is_turn shell txn) o ≡ count_by (λ n. nat_eq n txn) (numbers_of shell o)
        → cond (b && nat_eq turn.1 txn) 1 0 + count_by (is_turn shell txn) o ≡ count_by (λ n. nat_eq n txn) (cons_option (cond b (Some turn.1) None) (numbers_of shell o))
    at true e = ap (λ n. cond (nat_eq turn.1 txn) 1 0 + n) e ∙ sym (sum_by-cons (λ n. cond (nat_eq n txn) 1 0) turn.1 (numbers_of shell o))
    at false e = omega (arith, e)

one_more : (n txn : ℕ) → cond (nat_lt txn n) 1 0 + (0 + cond (nat_eq n txn) 1 0) ≡ cond (nat_lt txn (suc n)) 1 0
one_more n txn = grind (arith, nat_tests)

count_first : (n txn : ℕ) → count_by (λ m. nat_eq m txn) (first_numbers n) ≡ cond (nat_lt txn n) 1 0
count_first zero txn = grind (arith, nat_tests)
count_first (suc n) txn = sum_by-append (λ m. cond (nat_eq m txn) 1 0) (first_numbers n) (n ∷ []) ∙ rw (count_first n txn) (one_more n txn)

counted : {A : Type 0} (test : A → Bool) (xs : List A) (x : A) → test x ≡ true → Contains xs x → 1 ≤ count_by test xs
counted test xs x t h = subst (λ n. n ≤ count_by test xs) (ap (λ y. cond (test y) 1 0) h.2 ∙ ap (λ b. cond b 1 0) t) (get_or-le-sum_by (λ y. cond (test y) 1 0) xs h.0 x h.1)

is_own_turn : (shell txn : ℕ) → is_turn shell txn (shell, txn) ≡ true
is_own_turn shell txn = rw (eq-eqb shell shell refl, eq-eqb txn txn refl)

-- a complete order has as many transactions of a shell as its script
all_counted : (base : BaseTree) (o : List Turn) → IsComplete base o → (shell : ℕ) → ((j : ℕ) → count_by (is_turn shell j) o ≡ cond (nat_lt j (length (numbers_of shell o))) 1 0) → length (numbers_of shell o) ≡ count_of base.plan shell
all_counted base o complete shell split = at (nat_lt (length (numbers_of shell o)) (count_of base.plan shell)) refl
  where
    at : (b : Bool) → nat_lt (length (numbers_of shell o)) (count_of base.plan shell) ≡ b → length (numbers_of shell o) ≡ count_of base.plan shell
    at true e =
        let here : Contains o (shell, length (numbers_of shell o)) = complete.all shell (length (numbers_of shell o)) (ltb-true _ _ e) in
        let some : 1 ≤ count_by (is_turn shell (length (numbers_of shell o))) o = counted (is_turn shell (length (numbers_of shell o))) o (shell, length (numbers_of shell o)) (is_own_turn shell (length (numbers_of shell o))) here in
        let none : nat_lt (length (numbers_of shell o)) (length (numbers_of shell o)) ≡ false = grind (arith, nat_tests) in
        let zero : count_by (is_turn shell (length (numbers_of shell o))) o ≡ 0 = split (length (numbers_of shell o)) ∙ ap (λ b. cond b 1 0) none in
        absurd (omega (arith, some, zero))
    at false e = omega (arith, (complete.legal shell).planned, ltb-false _ _ e)

pub complete_has_each_once : CompleteHasEachOnce
complete_has_each_once base o complete shell txn =
    let n : ℕ = length (numbers_of shell o) in
    let split : (j : ℕ) → count_by (is_turn shell j) o ≡ cond (nat_lt j (length (numbers_of shell o))) 1 0 = λ j. count_split o shell j ∙ ap (λ l. count_by (λ m. nat_eq m j) l) (complete.legal shell).in_turn ∙ count_first (length (numbers_of shell o)) j in
    split txn ∙ ap (λ m. cond (nat_lt txn m) 1 0) (all_counted base o complete shell split)
