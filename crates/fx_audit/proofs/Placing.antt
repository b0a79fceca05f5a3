-- The table of places, one entry more, and what it says of an order.
use Rattle.std.proofs.Common.{◌≡◌, ◌⊎◌, inl, inr, ℕ, suc, ◌+◌, ◌<◌, ◌≤◌, Bool, true, false, cond, nat_eq, List, [], ◌∷◌, ◌++◌, length, get_or, set, slice_get, Some, refl, sym, ap, subst, ◌∙◌, arith, length-append, eq-eqb}
use Rattle.std.specs.List.{Contains}
use Rattle.std.proofs.lemmas.Bool.{cases_lt, eqb-true, eqb-false}
use Rattle.std.proofs.lemmas.List.{get_or-set_same, get_or-set_other, length-set}
use Rattle.std.proofs.lemmas.Option.{slice_get_within, slice_get-get_or}
use Rattle.fx_base.proofs.Lists.{at_middle, Contains-at, get_before, get_front}
use Rattle.fx_spec.specs.Plans.{Turn, count_of}
use Rattle.fx_spec.specs.Order.{BaseTree, IsComplete, IsLegal}
use Rattle.fx_spec.proofs.Orders.{legal-next}
use Rattle.fx_machine.specs.Machine.{next_number}
use Rattle.fx_machine.proofs.Complete.{next_after}
use Rattle.fx_machine.proofs.Reached.{shell_within}
use Rattle.fx_audit.specs.Legal.{IsNextIn}
use Rattle.fx_audit.specs.Places.{AddsNext, ArePlaces, AreShellPlaces, places_of}
use Rattle.fx_audit.specs.Verdicts.{IsFirstMissing}
use Rattle.fx_audit.proofs.Lists.{last_is, place_of}

-- ---- one entry more

own_count : (o : List Turn) (shell txn : ℕ) → next_number (o ++ (shell, txn) ∷ []) shell ≡ suc (next_number o shell)
own_count o shell txn = next_after o shell txn shell ∙ ap (λ b. cond b (suc (next_number o shell)) (next_number o shell)) (eq-eqb shell shell refl)

other_count : (o : List Turn) (shell txn k : ℕ) → nat_eq shell k ≡ false → next_number (o ++ (shell, txn) ∷ []) k ≡ next_number o k
other_count o shell txn k e = next_after o shell txn k ∙ ap (λ b. cond b (suc (next_number o k)) (next_number o k)) e

own_places : (o : List Turn) (shell txn : ℕ) (places : List ℕ) → txn ≡ next_number o shell → AreShellPlaces o shell places → AreShellPlaces (o ++ (shell, txn) ∷ []) shell (places ++ length o ∷ [])
own_places o shell txn places next are =
    let few : length places ≡ txn = are.count ∙ sym next in
    record {
      count = omega (arith, length-append places (length o ∷ []), own_count o shell txn, are.count);
      stand = λ t p e. stand t p e (cases_lt t (length places));
      all = λ t p e. all t p e (cases_lt p (length o));
    }
  where
    stand : (t p : ℕ) → slice_get (places ++ length o ∷ []) t ≡ Some p → (t < length places) ⊎ (length places ≤ t) → slice_get (o ++ (shell, txn) ∷ []) p ≡ Some (shell, t)
    stand t p e (inl lt) = get_front o ((shell, txn) ∷ []) p (shell, t) (are.stand t p (get_before places (length o ∷ []) t p lt e))
    stand t p e (inr ge) =
        let last = last_is places (length o) t p ge e in
        let number : txn ≡ t = next ∙ (sym are.count ∙ sym last.place) in
        subst (λ k. slice_get (o ++ (shell, txn) ∷ []) k ≡ Some (shell, t)) last.item (at_middle o [] (shell, txn) ∙ ap (λ k. Some (shell, k)) number)

    all : (t p : ℕ) → slice_get (o ++ (shell, txn) ∷ []) p ≡ Some (shell, t) → (p < length o) ⊎ (length o ≤ p) → slice_get (places ++ length o ∷ []) t ≡ Some p
    all t p e (inl lt) = get_front places (length o ∷ []) t p (are.all t p (get_before o ((shell, txn) ∷ []) p (shell, t) lt e))
    all t p e (inr ge) =
        let last = last_is o (shell, txn) p (shell, t) ge e in
        let number : txn ≡ t = ap (λ (u : Turn). u.1) last.item in
        let place : length places ≡ t = are.count ∙ (sym next ∙ number) in
        subst (λ k. slice_get (places ++ length o ∷ []) k ≡ Some p) place (at_middle places [] (length o) ∙ ap (λ k. Some k) (sym last.place))

other_places : (o : List Turn) (shell txn k : ℕ) (places : List ℕ) → nat_eq shell k ≡ false → AreShellPlaces o k places → AreShellPlaces (o ++ (shell, txn) ∷ []) k places
other_places o shell txn k places apart are = record {
  count = are.count ∙ sym (other_count o shell txn k apart);
  stand = λ t p e. get_front o ((shell, txn) ∷ []) p (k, t) (are.stand t p e);
  all = λ t p e. all t p e (cases_lt p (length o));
}
  where
    all : (t p : ℕ) → slice_get (o ++ (shell, txn) ∷ []) p ≡ Some (k, t) → (p < length o) ⊎ (length o ≤ p) → slice_get places t ≡ Some p
    all t p e (inl lt) = are.all t p (get_before o ((shell, txn) ∷ []) p (k, t) lt e)
    all t p e (inr ge) =
        let last = last_is o (shell, txn) p (k, t) ge e in
        absurd (eqb-false shell k apart (ap (λ (u : Turn). u.0) last.item))

pub places_more : (base : BaseTree) (o : List Turn) (shell txn : ℕ) (table : List (List ℕ)) → ArePlaces base o table → IsNextIn base o (shell, txn) → ArePlaces base (o ++ (shell, txn) ∷ []) (set table shell (places_of table shell ++ length o ∷ []))
places_more base o shell txn table are next =
    let within : shell < length table = (let inside : shell < length base.plan = shell_within base shell txn next.planned in omega (arith, inside, are.shells)) in
    record {
      shells = length-set table shell (places_of table shell ++ length o ∷ []) ∙ are.shells;
      legal = subst (λ n. IsLegal base (o ++ (shell, n) ∷ [])) (sym next.next) (legal-next base o shell are.legal (let n = next.next in let p = next.planned in omega (arith, n, p)));
      each = λ k. each within k (nat_eq shell k) refl;
    }
  where
    each : shell < length table → (k : ℕ) (b : Bool) → nat_eq shell k ≡ b → AreShellPlaces (o ++ (shell, txn) ∷ []) k (places_of (set table shell (places_of table shell ++ length o ∷ [])) k)
    each within k true e =
        subst (λ k. AreShellPlaces (o ++ (shell, txn) ∷ []) k (places_of (set table shell (places_of table shell ++ length o ∷ [])) k)) (eqb-true shell k e)
        (subst (AreShellPlaces (o ++ (shell, txn) ∷ []) shell) (sym (get_or-set_same table shell (places_of table shell ++ length o ∷ []) [] within)) (own_places o shell txn (places_of table shell) next.next (are.each shell)))
    each within k false e =
        subst (AreShellPlaces (o ++ (shell, txn) ∷ []) k) (sym (get_or-set_other table shell k (places_of table shell ++ length o ∷ []) [] (λ same. eqb-false shell k e (sym same))))
        (other_places o shell txn k (places_of table k) e (are.each k))

-- ---- whether a transaction comes next

pub added : (base : BaseTree) (o : List Turn) (shell txn place count planned : ℕ) (table table' : List (List ℕ)) → ArePlaces base o table → place ≡ length o → count ≡ length (places_of table shell) → txn ≡ count → planned ≡ count_of base.plan shell → txn < planned
    → table' ≡ set table shell (places_of table shell ++ place ∷ []) → ArePlaces base (o ++ (shell, txn) ∷ []) table'
added base o shell txn place count planned table table' are at counted same plan lt is =
    subst (ArePlaces base (o ++ (shell, txn) ∷ [])) (sym (is ∙ ap (λ p. set table shell (places_of table shell ++ p ∷ [])) at))
    (places_more base o shell txn table are (record { next = same ∙ (counted ∙ (are.each shell).count); planned = omega (arith, plan, lt) }))

pub not_added : (base : BaseTree) (o : List Turn) (turn : Turn) (table : List (List ℕ)) (added : Bool) → AddsNext base o turn table added → added ≡ false → IsNextIn base o turn → ⊥
not_added base o turn table true adds is next = let no : true ≡ false = is in cc
not_added base o turn table false adds is next = adds next

-- ---- complete orders

stands : (o : List Turn) (shell txn : ℕ) (places : List ℕ) → AreShellPlaces o shell places → txn < length places → Contains o (shell, txn)
stands o shell txn places are lt = Contains-at o (get_or places txn 0) (shell, txn) (are.stand txn (get_or places txn 0) (slice_get-get_or places txn 0 lt))

-- the scripts of the shells below this one are all there
abbrev pub HasAllBelow : BaseTree → List (List ℕ) → ℕ → Type 0
HasAllBelow base table n = (k : ℕ) → k < n → count_of base.plan k ≤ length (places_of table k)

pub all_there : (base : BaseTree) (o : List Turn) (table : List (List ℕ)) (n : ℕ) → ArePlaces base o table → n ≡ length base.plan → HasAllBelow base table n → IsComplete base o
all_there base o table n are count all = record {
  legal = are.legal;
  all = λ shell txn planned.
      let within : shell < length base.plan = shell_within base shell txn planned in
      let enough : count_of base.plan shell ≤ length (places_of table shell) = all shell (omega (arith, within, count)) in
      stands o shell txn (places_of table shell) (are.each shell) (omega (arith, planned, enough));
}

pub first_missing_is : (base : BaseTree) (o : List Turn) (table : List (List ℕ)) (shell txn count planned : ℕ) → ArePlaces base o table → HasAllBelow base table shell → count ≡ length (places_of table shell) → planned ≡ count_of base.plan shell → count < planned → txn ≡ count → IsFirstMissing base o shell txn
first_missing_is base o table shell txn count planned are all counted plan less is = record {
  planned = omega (arith, plan, less, is);
  lacks = λ h.
      let place : slice_get o h.0 ≡ Some (shell, txn) = place_of o (shell, txn) h in
      let within : txn < length (places_of table shell) = slice_get_within (places_of table shell) txn h.0 ((are.each shell).all txn h.0 place) in
      omega (arith, within, counted, is);
  shells = λ k j lt planned. let enough : count_of base.plan k ≤ length (places_of table k) = all k lt in stands o k j (places_of table k) (are.each k) (omega (arith, planned, enough));
  txns = λ j lt. stands o shell j (places_of table shell) (are.each shell) (omega (arith, lt, counted, is));
}
