-- A view is an entry of the order with its transaction put in.
use Rattle.std.proofs.Common.{◌≡◌, ℕ, zero, suc, ◌+◌, ◌<◌, ◌≤◌, refl, ap, subst, ◌∙◌, List, [], ◌∷◌, ◌++◌, take, drop, length, slice_get, Some, arith}
use Rattle.std.proofs.lemmas.List.{get_or_append_left, get_or_at, take_at, length-take-le}
use Rattle.std.proofs.lemmas.List.Elements.{All-nil, All-cons, All-head, All-tail}
use Rattle.std.specs.FinMap.{get}
use Rattle.std.specs.List.{All}
use Rattle.fx_machine.proofs.Turns.{shells_within}
use Rattle.fx_store.specs.Whole.{Nodes}
use Rattle.fx_spec.specs.CommandTree.{CommandTree}
use Rattle.fx_spec.specs.Plans.{Turn, txn_of}
use Rattle.fx_spec.specs.Order.{BaseTree, after_txn, after_all, state, IsLegal}
use Rattle.fx_spec.specs.Transaction.{outputs, end}
use Rattle.fx_report.specs.Entries.{commands_or_none, entry, entries_from, entries_of}
use Rattle.fx_laws_above.specs.Viewed.{base_with_script, put_in, as_entry, ViewsAreEntries}

-- the entry of a turn that stands behind some
entry_behind : (base : BaseTree) (o : List Turn) (xs ys : List Turn) (turn : Turn) (i : ℕ) → slice_get (entries_from base o i (xs ++ turn ∷ ys)) (length xs) ≡ Some (entry base o (i + length xs) turn)
entry_behind base o [] ys turn i = let same : i ≡ i + 0 = omega arith in ap (λ k. Some (entry base o k turn)) same
entry_behind base o (x ∷ xs) ys turn i =
    let same : suc i + length xs ≡ i + suc (length xs) = omega arith in
    entry_behind base o xs ys turn (suc i) ∙ ap (λ k. Some (entry base o k turn)) same

all_take : (P : Turn → Type 0) (n : ℕ) (xs : List Turn) → All P xs → All P (take n xs)
all_take P zero xs all = All-nil P
all_take P (suc n) [] all = All-nil P
all_take P (suc n) (x ∷ xs) all = All-cons P x (take n xs) (All-head P x xs all) (all_take P n xs (All-tail P x xs all))

-- one script more behind the others changes none of their transactions
same_txn : (base : BaseTree) (t : List CommandTree) (turn : Turn) → turn.0 < length base.plan → txn_of (base_with_script base t).plan turn ≡ txn_of base.plan turn
same_txn base t turn h = ap (λ script. slice_get script turn.1) (get_or_append_left base.plan ((t ∷ []) ∷ []) [] turn.0 h)

same_after : (base : BaseTree) (t : List CommandTree) (nodes : Nodes) (xs : List Turn) → All (λ (u : Turn). u.0 < length base.plan) xs → after_all (base_with_script base t) nodes xs ≡ after_all base nodes xs
same_after base t nodes [] all = refl
same_after base t nodes (x ∷ xs) all =
    ap (λ txn. after_all (base_with_script base t) (after_txn base.description nodes txn) xs) (same_txn base t x (All-head (λ (u : Turn). u.0 < length base.plan) x xs all))
    ∙ same_after base t (after_txn base.description nodes (txn_of base.plan x)) xs (All-tail (λ (u : Turn). u.0 < length base.plan) x xs all)

same_state : (base : BaseTree) (t : List CommandTree) (o : List Turn) (n : ℕ) → IsLegal base o → n ≤ length o → state (base_with_script base t) (put_in base n o) n ≡ state base o n
unfolding state
same_state base t o n legal within =
    ap (after_all (base_with_script base t) base.loaded) (take_at (take n o) ((length base.plan, 0) ∷ drop n o) n (length-take-le n o within))
    ∙ same_after base t base.loaded (take n o) (all_take (λ (u : Turn). u.0 < length base.plan) n o (shells_within base o legal))

its_txn : (base : BaseTree) (t : List CommandTree) → txn_of (base_with_script base t).plan (length base.plan, 0) ≡ Some t
its_txn base t = ap (λ script. slice_get script 0) (get_or_at base.plan (t ∷ []) [] [] (length base.plan) refl)

pub views_are_entries : ViewsAreEntries
unfolding entries_of
views_are_entries base t o v legal is =
    let n : ℕ = v.position in
    let long : length (take n o) ≡ n = length-take-le n o is.within in
    let none : 0 + length (take n o) ≡ length (take n o) = omega arith in
    let found : slice_get (entries_from (base_with_script base t) (put_in base n o) 0 (put_in base n o)) (length (take n o)) ≡ Some (entry (base_with_script base t) (put_in base n o) (length (take n o)) (length base.plan, 0)) =
    entry_behind (base_with_script base t) (put_in base n o) (take n o) (drop n o) (length base.plan, 0) 0 ∙ ap (λ k. Some (entry (base_with_script base t) (put_in base n o) k (length base.plan, 0))) none in
    let placed : slice_get (entries_from (base_with_script base t) (put_in base n o) 0 (put_in base n o)) n ≡ Some (entry (base_with_script base t) (put_in base n o) n (length base.plan, 0)) =
    subst (λ k. slice_get (entries_from (base_with_script base t) (put_in base n o) 0 (put_in base n o)) k ≡ Some (entry (base_with_script base t) (put_in base n o) k (length base.plan, 0))) long found in
    placed ∙ ap Some same
  where
    same : entry (base_with_script base t) (put_in base v.position o) v.position (length base.plan, 0) ≡ as_entry base v
    same =
        ap (λ txn. record {
          shell = length base.plan;
          txn = 0;
          outputs = outputs base.description (commands_or_none txn) (get (state (base_with_script base t) (put_in base v.position o) v.position));
          end = end base.description (commands_or_none txn) (get (state (base_with_script base t) (put_in base v.position o) v.position));
        }) (its_txn base t)
        ∙ (ap (λ nodes. record { shell = length base.plan; txn = 0; outputs = outputs base.description t (get nodes); end = end base.description t (get nodes) }) (same_state base t o v.position legal is.within)
        ∙ (λ i. record { shell = length base.plan; txn = 0; outputs = is.outputs i; end = is.end i }))
