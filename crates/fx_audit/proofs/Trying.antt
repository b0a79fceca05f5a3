-- Retries, one by one and all together.
use Rattle.std.proofs.Common.{◌≡◌, inl, inr, ℕ, zero, suc, ◌+◌, ◌≤◌, Bool, true, List, [], ◌∷◌, ◌++◌, length, take, drop, map, slice_get, Option, Some, None, refl, sym, ap, subst, ◌∙◌, arith}
use Rattle.std.specs.Prelude.{IsTrue}
use Rattle.std.specs.List.{All, Contains}
use Rattle.std.proofs.lemmas.List.{map-append}
use Rattle.std.proofs.lemmas.List.Elements.{All-nil, All-cons, All-head, All-tail, All-append}
use Rattle.std.proofs.lemmas.Option.{slice_get_within}
use Rattle.std.proofs.lemmas.Cmp.{eq_by_cmp_equiv}
use Rattle.std.proofs.lemmas.Map.Views.{list_any-from_Contains, Contains-from_any}
use Rattle.fx_base.proofs.Lists.{take_next}
use Rattle.fx_store.specs.Names.{has_path}
use Rattle.fx_store.specs.Orders.{path_eq_same, path_total}
use Rattle.fx_spec.specs.Plans.{Turn}
use Rattle.fx_spec.specs.Order.{BaseTree, InOrder, IsRetry, Precedes, RetriesOk, RetryTree}
use Rattle.fx_machine.specs.declared.entry.Entry.{Entry}
use Rattle.fx_machine.specs.declared.retry.Retry.{Retry}
use Rattle.fx_machine.specs.Tried.{retry_tree}
use Rattle.fx_board.specs.Board.{IsEntry}
use Rattle.fx_board.specs.Log.{Log}
use Rattle.fx_audit.specs.Retries.{IsCause, IsNextRetry, MayFollow}
use Rattle.fx_audit.specs.Verdicts.{IsFirstUntrue}
use Rattle.fx_audit.proofs.Lists.{split}

-- ---- their order

precedes_then : (a b c : RetryTree) → Precedes a b → Precedes b c → Precedes a c
precedes_then a b c (inl h) (inl k) = inl (omega (arith, h, k))
precedes_then a b c (inl h) (inr k) = inl (let same = k.0 in omega (arith, h, same))
precedes_then a b c (inr h) (inl k) = inl (let same = h.0 in omega (arith, same, k))
precedes_then a b c (inr h) (inr k) =
    let s = h.0 in let t = k.0 in
    let u = h.1 in let v = k.1 in
    let w = h.2 in let x = k.2 in
    inr (s ∙ t, omega (arith, u, v), omega (arith, w, x))

abbrev pub last_of : List RetryTree → Option RetryTree
last_of [] = None
last_of (r ∷ []) = Some r
last_of (r ∷ q ∷ rs) = last_of (q ∷ rs)

pub last_more : (rs : List RetryTree) (r : RetryTree) → last_of (rs ++ r ∷ []) ≡ Some r
last_more [] r = refl
last_more (x ∷ []) r = refl
last_more (x ∷ y ∷ rs) r = last_more (y ∷ rs) r

-- each of the retries precedes one that may follow the last of them
first_precedes : (x : RetryTree) (rs : List RetryTree) (r : RetryTree) → InOrder (x ∷ rs) → MayFollow (last_of (x ∷ rs)) r → Precedes x r
first_precedes x [] r ordered follows = follows
first_precedes x (y ∷ rs) r ordered follows = precedes_then x y r (All-head (Precedes x) y rs ordered.0) (first_precedes y rs r ordered.1 follows)

rest_follows : (x : RetryTree) (rs : List RetryTree) (r : RetryTree) → MayFollow (last_of (x ∷ rs)) r → MayFollow (last_of rs) r
rest_follows x [] r follows = tt
rest_follows x (y ∷ rs) r follows = follows

order_more : (rs : List RetryTree) (r : RetryTree) → InOrder rs → MayFollow (last_of rs) r → InOrder (rs ++ r ∷ [])
order_more [] r ordered follows = (All-nil (Precedes r), tt)
order_more (x ∷ rs) r ordered follows =
    (All-append (Precedes x) rs (r ∷ []) ordered.0 (All-cons (Precedes x) r [] (first_precedes x rs r ordered follows) (All-nil (Precedes x))), order_more rs r ordered.1 (rest_follows x rs r follows))

all_front : (P : RetryTree → Type 0) (xs ys : List RetryTree) → All P (xs ++ ys) → All P xs
all_front P [] ys all = All-nil P
all_front P (x ∷ xs) ys all = All-cons P x xs (All-head P x (xs ++ ys) all) (all_front P xs ys (All-tail P x (xs ++ ys) all))

all_last : (P : RetryTree → Type 0) (xs : List RetryTree) (r : RetryTree) → All P (xs ++ r ∷ []) → P r
all_last P [] r all = All-head P r [] all
all_last P (x ∷ xs) r all = all_last P xs r (All-tail P x (xs ++ r ∷ []) all)

order_front : (xs ys : List RetryTree) → InOrder (xs ++ ys) → InOrder xs
order_front [] ys ordered = tt
order_front (x ∷ xs) ys ordered = (all_front (Precedes x) xs ys ordered.0, order_front xs ys ordered.1)

order_last : (rs : List RetryTree) (r : RetryTree) → InOrder (rs ++ r ∷ []) → MayFollow (last_of rs) r
order_last [] r ordered = tt
order_last (x ∷ []) r ordered = All-head (Precedes x) r [] ordered.0
order_last (x ∷ y ∷ rs) r ordered = order_last (y ∷ rs) r ordered.1

ok_more : (base : BaseTree) (o : List Turn) (rs : List RetryTree) (r : RetryTree) → RetriesOk base o rs → IsNextRetry base o (last_of rs) r → RetriesOk base o (rs ++ r ∷ [])
ok_more base o rs r ok next = record {
  each = All-append (IsRetry base o) rs (r ∷ []) ok.each (All-cons (IsRetry base o) r [] next.retry (All-nil (IsRetry base o)));
  order = order_more rs r ok.order next.follows;
}

ok_front : (base : BaseTree) (o : List Turn) (xs ys : List RetryTree) → RetriesOk base o (xs ++ ys) → RetriesOk base o xs
ok_front base o xs ys ok = record { each = all_front (IsRetry base o) xs ys ok.each; order = order_front xs ys ok.order }

ok_last : (base : BaseTree) (o : List Turn) (rs : List RetryTree) (r : RetryTree) → RetriesOk base o (rs ++ r ∷ []) → IsNextRetry base o (last_of rs) r
ok_last base o rs r ok = record { follows = order_last rs r ok.order; retry = all_last (IsRetry base o) rs r ok.each }

-- ---- the first that can't have been

abbrev pub trees : List Retry → List RetryTree
trees rs = map retry_tree rs

trees_more : (rs : List Retry) (m : ℕ) (r : Retry) → slice_get rs m ≡ Some r → trees (take (m + 1) rs) ≡ trees (take m rs) ++ retry_tree r ∷ []
trees_more rs m r is = ap trees (take_next rs m r is) ∙ map-append retry_tree (take m rs) (r ∷ [])

-- the retries up to a number are good, and this is the last of them
pub record AreTried (base : BaseTree) (o : List Turn) (rs : List Retry) (m : ℕ) (last : Option RetryTree) : Type 0 where
  pub ok : RetriesOk base o (trees (take m rs))
  pub last_is : last ≡ last_of (trees (take m rs))

pub tried_more : (base : BaseTree) (o : List Turn) (rs : List Retry) (m : ℕ) (last : Option RetryTree) (r : Retry) → AreTried base o rs m last → slice_get rs m ≡ Some r → IsNextRetry base o last (retry_tree r) → AreTried base o rs (m + 1) (Some (retry_tree r))
tried_more base o rs m last r are is next =
    let more = trees_more rs m r is in
    record {
      ok = subst (RetriesOk base o) (sym more) (ok_more base o (trees (take m rs)) (retry_tree r) are.ok (subst (λ l. IsNextRetry base o l (retry_tree r)) are.last_is next));
      last_is = sym (ap last_of more ∙ last_more (trees (take m rs)) (retry_tree r));
    }

take_take : (rs : List Retry) (m n : ℕ) → m ≤ n → take m (take n rs) ≡ take m rs
take_take [] zero n h = refl
take_take [] (suc m) zero h = refl
take_take [] (suc m) (suc n) h = refl
take_take (t ∷ rs) zero n h = refl
take_take (t ∷ rs) (suc m) zero h = absurd (omega (arith, h))
take_take (t ∷ rs) (suc m) (suc n) h = ap (λ l. t ∷ l) (take_take rs m n (omega (arith, h)))

pub ok_take : (base : BaseTree) (o : List Turn) (rs : List Retry) (n : ℕ) → RetriesOk base o (trees rs) → RetriesOk base o (trees (take n rs))
ok_take base o rs n ok = ok_front base o (trees (take n rs)) (trees (drop n rs)) (subst (RetriesOk base o) (ap trees (split rs n) ∙ map-append retry_tree (take n rs) (drop n rs)) ok)

pub untrue_at : (base : BaseTree) (o : List Turn) (rs : List Retry) (m : ℕ) (last : Option RetryTree) (r : Retry) → AreTried base o rs m last → slice_get rs m ≡ Some r → (IsNextRetry base o last (retry_tree r) → ⊥) → IsFirstUntrue base o rs m
untrue_at base o rs m last r are is other = record {
  before = λ k lt. subst (λ l. RetriesOk base o (trees l)) (take_take rs (suc k) m (omega (arith, lt))) (ok_take base o (take m rs) (suc k) are.ok);
  here = λ ok.
      let one : suc m ≡ m + 1 = omega arith in
      let whole : trees (take (suc m) rs) ≡ trees (take m rs) ++ retry_tree r ∷ [] = ap (λ n. trees (take n rs)) one ∙ trees_more rs m r is in
      other (subst (λ l. IsNextRetry base o l (retry_tree r)) (sym are.last_is) (ok_last base o (trees (take m rs)) (retry_tree r) (subst (RetriesOk base o) whole ok)));
}

-- ---- the entry of a retry

has_from : (changed : List (List (List ℕ))) (path : List (List ℕ)) → Contains changed path → has_path changed path ≡ true
has_from changed path has = list_any-from_Contains (eq_by_cmp_equiv path_total) path changed has

from_has : (changed : List (List (List ℕ))) (path : List (List ℕ)) → has_path changed path ≡ true → Contains changed path
from_has changed path has = Contains-from_any path_eq_same path changed has

pub cause_is : (log : Log) (e : Entry) (r : RetryTree) (b : Bool) → IsEntry log r.entry e → (e.shell ≡ r.shell → ⊥) → b ≡ has_path e.changed r.path → (IsTrue b → IsCause log.base log.order r) × (IsCause log.base log.order r → IsTrue b)
cause_is log e r b is apart found = (
  λ t. record { other = (e.shell, e.txn, is.turn, apart); changed = (is.changed r.path).0 (from_has e.changed r.path (sym found ∙ t)) },
  λ cause. found ∙ has_from e.changed r.path ((is.changed r.path).1 cause.changed),
)

pub no_cause : (log : Log) (r : RetryTree) → length log.order ≤ r.entry → IsCause log.base log.order r → ⊥
no_cause log r past cause =
    let other = cause.other in
    let within = slice_get_within log.order r.entry (other.0, other.1) other.2 in
    omega (arith, within, past)
