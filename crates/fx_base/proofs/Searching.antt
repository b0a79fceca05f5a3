-- A binary search of an ascending list that is read item by item.
use Rattle.std.proofs.Common.{◌≡◌, ℕ, ◌+◌, ◌<◌, ◌≤◌, ◌⊎◌, true, false, List, length, get_or, refl, subst, ◌∙◌, arith}
use Rattle.std.specs.declared.cmp.Ordering.{Ordering}
use Rattle.std.specs.declared.cmp.Ordering.TheVariants.{Less, Equal, Greater}
use Rattle.std.specs.List.{AllWithin, HoldsAt}
use Rattle.std.specs.List.Sorted.{IsNonDecreasingBy, IsPartitionPoint}
use Rattle.std.specs.Ordering.{is_gt, ordering_index}
use Rattle.std.proofs.lemmas.Bool.{false≢true}
use Rattle.std.proofs.lemmas.List.{get_or_default}

any_default : {X : Type 0} (xs : List X) (i : ℕ) (d e : X) → i < length xs → get_or xs i d ≡ get_or xs i e
any_default xs i d e lt = get_or_default xs i d e lt

module _ {X : Type 0} (xs : List X) where
  pub at_read : (P : X → Type 0) (i : ℕ) (x : X) → i < length xs → x ≡ get_or xs i x → P x → HoldsAt P xs i
  at_read P i x h e p d = subst P (e ∙ any_default xs i x d h) p

top : (o : Ordering) → 2 ≤ ordering_index o → o ≡ Greater
top Less h = absurd (omega arith)
top Equal h = absurd (omega arith)
top Greater h = refl

bottom : (o : Ordering) → ordering_index o ≤ 0 → o ≡ Less
bottom Less h = refl
bottom Equal h = absurd (omega arith)
bottom Greater h = absurd (omega arith)

is_Greater : (o : Ordering) → is_gt o ≡ true → o ≡ Greater
is_Greater Less h = absurd (false≢true h)
is_Greater Equal h = absurd (false≢true h)
is_Greater Greater h = refl

module _ {X : Type 0} (ord : X → Ordering) (xs : List X) where
  pub record Narrowed (base size : ℕ) : Type 0 where
    pub low : (base ≡ 0) ⊎ HoldsAt (λ y. is_gt (ord y) ≡ false) xs base
    pub high : IsNonDecreasingBy (λ y. ordering_index (ord y)) xs → AllWithin (λ y. ord y ≡ Greater) xs (base + size) (length xs)

  from_Greater : (m low : ℕ) → m ≤ low → HoldsAt (λ y. ord y ≡ Greater) xs m → IsNonDecreasingBy (λ y. ordering_index (ord y)) xs → AllWithin (λ y. ord y ≡ Greater) xs low (length xs)
  from_Greater m low h p up k d a b = top _ (subst (λ (o : Ordering). ordering_index o ≤ ordering_index (ord (get_or xs k d))) (p d) (up m k d (omega arith) b))

  pub lower : (base size mid left : ℕ) → mid ≤ base + left → Narrowed base size → HoldsAt (λ y. is_gt (ord y) ≡ true) xs mid → Narrowed base left
  lower base size mid left h n p = record { low = n.low; high = from_Greater mid (base + left) h (λ d. is_Greater _ (p d)) }

  pub after_Less : (base size : ℕ) → size ≤ 1 → base < length xs → Narrowed base size → HoldsAt (λ y. ord y ≡ Less) xs base
      → IsNonDecreasingBy (λ y. ordering_index (ord y)) xs → IsPartitionPoint (λ y. ord y ≡ Less) (λ y. ord y ≡ Greater) xs (base + 1)
  after_Less base size one in' n p up = (
    λ k d a b. bottom _ (subst (λ (o : Ordering). ordering_index (ord (get_or xs k d)) ≤ ordering_index o) (p d) (up k base d (omega arith) in')),
    λ k d a b. n.high up k d (omega arith) b,
  )
