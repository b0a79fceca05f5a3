-- The order that entries tell, and fronts of it.
use Rattle.std.proofs.Common.{◌≡◌, ℕ, ◌+◌, ◌<◌, List, [], ◌∷◌, ◌++◌, length, take, drop, slice_get, Some, sym, ap, subst, ◌∙◌}
use Rattle.std.proofs.lemmas.List.{length-map, map-append, take-map}
use Rattle.std.proofs.lemmas.Option.{slice_get_within}
use Rattle.fx_base.proofs.Lists.{take_next}
use Rattle.fx_spec.specs.Order.{BaseTree, IsLegal}
use Rattle.fx_report.specs.declared.printed.PrintedEntry.{PrintedEntry}
use Rattle.fx_audit.specs.Legal.{IsNextIn, IsFirstIllegal}
use Rattle.fx_audit.proofs.Legal.{legal_front, legal_turn}
use Rattle.fx_audit.specs.Verdicts.{turn_told, order_told}
use Rattle.fx_audit.proofs.Lists.{length_front, split}

pub told_more : (es : List PrintedEntry) (i : ℕ) (e : PrintedEntry) → slice_get es i ≡ Some e → order_told (take (i + 1) es) ≡ order_told (take i es) ++ turn_told e ∷ []
told_more es i e is = ap order_told (take_next es i e is) ∙ map-append turn_told (take i es) (e ∷ [])

pub told_length : (es : List PrintedEntry) (i : ℕ) (e : PrintedEntry) → slice_get es i ≡ Some e → i ≡ length (order_told (take i es))
told_length es i e is = sym (length-map (take i es) turn_told ∙ length_front es i e is)

pub told_split : (es : List PrintedEntry) (i : ℕ) → order_told es ≡ order_told (take i es) ++ order_told (drop i es)
told_split es i = ap order_told (split es i) ∙ map-append turn_told (take i es) (drop i es)

-- the transaction of an entry of a legal order is its shell's next one
pub next_told : (base : BaseTree) (es : List PrintedEntry) (i : ℕ) (e : PrintedEntry) → IsLegal base (order_told es) → slice_get es i ≡ Some e → IsNextIn base (order_told (take i es)) (turn_told e)
next_told base es i e legal is =
    let front : IsLegal base (order_told (take (i + 1) es)) = legal_front base (order_told (take (i + 1) es)) (order_told (drop (i + 1) es)) (subst (IsLegal base) (told_split es (i + 1)) legal) in
    legal_turn base (order_told (take i es)) [] (turn_told e) (subst (IsLegal base) (told_more es i e is) front)

-- an entry whose transaction is not its shell's next one is the first with which the order is not legal
pub first_illegal_at : (base : BaseTree) (es : List PrintedEntry) (i : ℕ) (e : PrintedEntry) → slice_get es i ≡ Some e → IsLegal base (order_told (take i es)) → (IsNextIn base (order_told (take i es)) (turn_told e) → ⊥) → IsFirstIllegal base (order_told es) i
first_illegal_at base es i e is legal other = record {
  inside = subst (λ n. i < n) (sym (length-map es turn_told)) (slice_get_within es i e is);
  before = subst (IsLegal base) (sym (take-map turn_told i es)) legal;
  here = λ longer.
      let whole : take (i + 1) (order_told es) ≡ order_told (take i es) ++ turn_told e ∷ [] = take-map turn_told (i + 1) es ∙ told_more es i e is in
      other (legal_turn base (order_told (take i es)) [] (turn_told e) (subst (IsLegal base) whole longer));
}
