-- Legal orders, one transaction more at a time.
use Rattle.std.proofs.Common.{◌≡◌, ℕ, suc, ◌+◌, ◌<◌, Bool, true, false, nat_eq, List, [], ◌∷◌, ◌++◌, length, take, drop, get_or, set, slice_get, Some, refl, sym, ap, subst, ◌∙◌, arith, length-append}
use Rattle.std.specs.Prelude.{slice_index_or}
use Rattle.std.proofs.lemmas.Bool.{eqb-true, eqb-false}
use Rattle.std.proofs.lemmas.List.{length-map, map-append, get_or-set_same, get_or-set_other, length-set, take_at, take-map}
use Rattle.std.proofs.lemmas.Option.{slice_get_within, slice_get-get_or}
use Rattle.fx_base.proofs.Lists.{take_suc}
use Rattle.fx_spec.specs.Plans.{Turn, count_of}
use Rattle.fx_spec.specs.Order.{BaseTree, IsLegal, numbers_of}
use Rattle.fx_spec.proofs.Orders.{legal-next, numbers_own, numbers_other}
use Rattle.fx_machine.specs.declared.entry.Pair.{Pair}
use Rattle.fx_durable.specs.Journal.{turn_of, turns_of}
use Rattle.fx_machine.specs.Machine.{next_number}
use Rattle.fx_audit.specs.Legal.{IsNextIn, IsFirstIllegal}
use Rattle.fx_audit.proofs.Legal.{legal_turn}
use Rattle.fx_commands.specs.Recoveries.Orders.{AreCounts}

-- ---- one transaction more

module _ (base : BaseTree) (o : List Turn) (shell : ℕ) (counts : List ℕ) (are : AreCounts base o counts) where
  -- a transaction is counted
  pub counted : (txn next planned : ℕ) (counts' : List ℕ) → shell < length counts → next ≡ slice_index_or counts shell 0 → txn ≡ next → planned ≡ count_of base.plan shell → next < planned → counts' ≡ set counts shell (next + 1) → AreCounts base (o ++ (shell, txn) ∷ []) counts'
  counted txn next planned counts' within is same plan less sets =
      let number : next ≡ next_number o shell = is ∙ are.each shell in
      record {
        shells = ap length sets ∙ length-set counts shell (next + 1) ∙ are.shells;
        legal = subst (λ n. IsLegal base (o ++ (shell, n) ∷ [])) (sym (same ∙ number)) (legal-next base o shell are.legal (omega (arith, number, plan, less)));
        each = λ k. ap (λ (l : List ℕ). get_or l k 0) sets ∙ each k (nat_eq shell k) refl number;
      }
    where
      each : (k : ℕ) (b : Bool) → nat_eq shell k ≡ b → next ≡ next_number o shell → get_or (set counts shell (next + 1)) k 0 ≡ next_number (o ++ (shell, txn) ∷ []) k
      each k true e number =
          let here : shell ≡ k = eqb-true shell k e in
          subst (λ k. get_or (set counts shell (next + 1)) k 0 ≡ next_number (o ++ (shell, txn) ∷ []) k) here
          (get_or-set_same counts shell (next + 1) 0 within ∙ ap (λ n. n + 1) number ∙ sym (ap length (numbers_own o shell txn) ∙ length-append (numbers_of shell o) (txn ∷ [])))
      each k false e number =
          get_or-set_other counts shell k (next + 1) 0 (λ same. eqb-false shell k e (sym same)) ∙ are.each k ∙ sym (ap length (numbers_other o k shell txn e))

-- ---- over the pairs of an order

-- an item of a slice that holds the list
pub item_at : {X : Type 0} (held xs : List X) (i : ℕ) (d : X) → held ≡ xs → i < length held → slice_get xs i ≡ Some (get_or held i d)
item_at held xs i d same lt = subst (λ l. slice_get l i ≡ Some (get_or held i d)) same (slice_get-get_or held i d lt)

pub turns_more : (pairs : List Pair) (i : ℕ) (pair : Pair) → slice_get pairs i ≡ Some pair → turns_of (take (i + 1) pairs) ≡ turns_of (take i pairs) ++ turn_of pair ∷ []
turns_more pairs i pair is =
    let one : i + 1 ≡ suc i = omega arith in
    ap (λ n. turns_of (take n pairs)) one ∙ ap turns_of (take_suc pairs i pair is) ∙ map-append turn_of (take i pairs) (pair ∷ [])

pub first_illegal_at : (base : BaseTree) (pairs : List Pair) (i : ℕ) (pair : Pair) (counts : List ℕ) → slice_get pairs i ≡ Some pair → AreCounts base (turns_of (take i pairs)) counts → (IsNextIn base (turns_of (take i pairs)) (turn_of pair) → ⊥) → IsFirstIllegal base (turns_of pairs) i
first_illegal_at base pairs i pair counts is are isnt = record {
  inside = subst (λ n. i < n) (sym (length-map pairs turn_of)) (slice_get_within pairs i pair is);
  before = subst (IsLegal base) (sym (take-map turn_of i pairs)) are.legal;
  here = λ legal. isnt (legal_turn base (turns_of (take i pairs)) [] (turn_of pair) (subst (IsLegal base) (take-map turn_of (i + 1) pairs ∙ turns_more pairs i pair is) legal));
}

-- the counts stand in the front of what holds them
pub counts_more : (base : BaseTree) (pairs : List Pair) (i len : ℕ) (pair : Pair) (counts more : List ℕ) → slice_get pairs i ≡ Some pair → length counts ≡ len → AreCounts base (turns_of (take i pairs)) counts → AreCounts base (turns_of (take i pairs) ++ turn_of pair ∷ []) more → AreCounts base (turns_of (take (i + 1) pairs)) (take len (more ++ drop (length more) counts))
counts_more base pairs i len pair counts more is long before after =
    subst (AreCounts base (turns_of (take (i + 1) pairs))) (sym (take_at more (drop (length more) counts) len (after.shells ∙ sym before.shells ∙ long)))
    (subst (λ o. AreCounts base o more) (sym (turns_more pairs i pair is)) after)
