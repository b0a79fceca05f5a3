-- An order without a transaction that is not done.
use Rattle.std.proofs.Common.{◌≡◌, ℕ, suc, ◌+◌, ap, sym, ◌∙◌, List, [], ◌∷◌, ◌++◌, take, length, arith}
use Rattle.std.proofs.Math.Seq.{take-length}
use Rattle.fx_spec.specs.Plans.{Turn, txn_of}
use Rattle.fx_spec.specs.Order.{BaseTree, after_txn, after_all, state}
use Rattle.fx_spec.proofs.Tasks.{undone_leaves_all}
use Rattle.fx_spec.proofs.Orders.{after_all-append}
use Rattle.fx_laws.specs.Undone.{UndoneMayBeLeftOut}

take_past : {X : Type 0} (xs ys : List X) (n : ℕ) → take (length xs + n) (xs ++ ys) ≡ xs ++ take n ys
take_past [] ys n = let same : 0 + n ≡ n = omega arith in ap (λ k. take k ys) same
take_past (x ∷ xs) ys n =
    let same : suc (length xs) + n ≡ suc (length xs + n) = omega arith in
    ap (λ k. take k (x ∷ (xs ++ ys))) same ∙ ap (λ zs. x ∷ zs) (take_past xs ys n)

-- the states of an order behind its front
pub state_past : (base : BaseTree) (o more : List Turn) (i : ℕ) → state base (o ++ more) (length o + i) ≡ after_all base (state base o (length o)) (take i more)
unfolding state
state_past base o more i =
    ap (after_all base base.loaded) (take_past o more i) ∙ (after_all-append base base.loaded o (take i more) ∙ ap (λ p. after_all base (after_all base base.loaded p) (take i more)) (sym (take-length o)))

pub undone_may_be_left_out : UndoneMayBeLeftOut
undone_may_be_left_out base before later turn undone i =
    state_past base before (turn ∷ later) (suc i)
    ∙ (ap (λ nodes. after_all base nodes (take i later)) same ∙ sym (state_past base before later i))
  where
    same : after_txn base.description (state base before (length before)) (txn_of base.plan turn) ≡ state base before (length before)
    same = ap (after_txn base.description (state base before (length before))) undone.planned ∙ undone_leaves_all base.description undone.txn (state base before (length before)) undone.undone
