-- Passes for all shells, and the maker's.
use Rattle.std.proofs.Common.{◌≡◌, ⊎_elim, ℕ, ◌<◌, ◌≤◌, List, [], ◌∷◌, ◌++◌, length, Some, sym, ap, subst, ◌∙◌, arith, length-append}
use Rattle.std.specs.Prelude.{slice_index_or}
use Rattle.std.proofs.lemmas.Bool.{cases_lt}
use Rattle.std.proofs.lemmas.List.{get_or_append_left}
use Rattle.std.proofs.Math.Seq.{get_or-append_seam}
use Rattle.std.proofs.lemmas.List.Elements.{All-push}
use Rattle.fx_spec.specs.Plans.{Turn}
use Rattle.fx_spec.specs.Order.{BaseTree}
use Rattle.fx_turn.specs.declared.kept.Kept.{Ghosts}
use Rattle.fx_turn.specs.declared.seat.Seat.{Seat}
use Rattle.fx_turn.specs.Views.{newcomer, parted}
use Rattle.fx_turn.specs.Seats.{view}
use Rattle.fx_shared.specs.declared.shares.Shares.{Shares}
use Rattle.fx_shared.specs.Passes.{LogView}
use Rattle.fx_shared.specs.Shared.{IsPassOf, IsMakerOf, IsFresh, AreFresh}

module _ {T : Type 0} {g : Ghosts T BaseTree Turn} where
  pub fresh_pass : (base : BaseTree) (shares : Shares T) (maker : LogView) (pass : Seat T BaseTree Turn g) → IsPassOf shares pass → maker.base ≡ Some base → view pass ≡ newcomer maker → IsFresh base shares pass
  fresh_pass base shares maker pass turn based new = record {
    ready = record {
      turn = turn;
      numbered = (maker.splits, ap (λ (v : LogView). v.number) new);
      idle = ap (λ (v : LogView). v.in_turn) new;
      based = (base, ap (λ (v : LogView). v.base) new ∙ based, tt);
    };
    based = ap (λ (v : LogView). v.base) new ∙ based;
    none = ap (λ (v : LogView). v.mine) new;
  }

  pub fresh_more : (base : BaseTree) (shares : Shares T) (passes : List (Seat T BaseTree Turn g)) (pass : Seat T BaseTree Turn g) → AreFresh base shares passes → IsFresh base shares pass → (view pass).number ≡ Some (length passes) → AreFresh base shares (passes ++ pass ∷ [])
  fresh_more base shares passes pass all one number = record {
    each = All-push (IsFresh base shares) passes pass all.each one;
    numbered = λ k d h. ⊎_elim
        (λ (early : k < length passes). subst (λ p. (view p).number ≡ Some k) (sym (get_or_append_left passes (pass ∷ []) d k early)) (all.numbered k d early))
        (λ (late : length passes ≤ k). by k d late h) (cases_lt k (length passes));
  }
    where
      by : (k : ℕ) (d : Seat T BaseTree Turn g) → length passes ≤ k → k < length (passes ++ pass ∷ []) → (view (slice_index_or (passes ++ pass ∷ []) k d)).number ≡ Some k
      by k d late h =
          let same : length passes ≡ k = omega (arith, late, h, length-append passes (pass ∷ [])) in
          subst (λ k. (view (slice_index_or (passes ++ pass ∷ []) k d)).number ≡ Some k) same (subst (λ p. (view p).number ≡ Some (length passes)) (sym (get_or-append_seam passes pass [] d)) number)

  pub maker_on : (base : BaseTree) (shares : Shares T) (old new : Seat T BaseTree Turn g) → IsMakerOf base shares old → IsPassOf shares new → view new ≡ parted (view old) → IsMakerOf base shares new
  maker_on base shares old new maker turn e = record {
    pass_of = turn;
    number = ap (λ (v : LogView). v.number) e ∙ maker.number;
    based = ap (λ (v : LogView). v.base) e ∙ maker.based;
  }
