-- A value that keeps a log, as the log that it keeps.
use Rattle.std.proofs.Common.{◌≡◌, inl, inr, ℕ, ◌+◌, cond, nat_eq, List, [], ◌∷◌, ◌++◌, Option, Some, None, Result, Ok, Err, refl, sym, ap, subst, ◌∙◌}
use Rattle.std.specs.Prelude.{IfErr, OnOk, All}
use Rattle.std.proofs.lemmas.List.Sums.{sum_by-cons}
use Rattle.std.proofs.lemmas.List.Elements.{All-weaker}
use Rattle.fx_spec.specs.Plans.{Turn}
use Rattle.fx_spec.specs.Order.{BaseTree}
use Rattle.fx_machine.specs.declared.attempt.Attempt.{Attempt}
use Rattle.fx_board.specs.declared.board.Settle.{Settle}
use Rattle.fx_board.specs.declared.board.Settled.{Settled}
use Rattle.fx_board.specs.Board.{settled, RefusedAs}
use Rattle.fx_board.specs.Log.{Log}
use Rattle.fx_board.proofs.Refused.{left_as}
use Rattle.fx_turn.specs.Histories.{Begins, own, count}
use Rattle.fx_turn.specs.Places.{IsGiven}
use Rattle.fx_turn.specs.Plays.{Fits}
use Rattle.fx_turn.specs.Views.{taking, giving}
use Rattle.fx_machine.specs.Machine.{next_number}
use Rattle.fx_shared.specs.Passes.{LogView}
use Rattle.fx_board.proofs.Counts.{count_own}

abbrev first : Turn → ℕ
first turn = turn.0

same_count : (shell : Turn → ℕ) → ((turn : Turn) → shell turn ≡ first turn) → (n : ℕ) (o : List Turn) → count shell n o ≡ count first n o
same_count shell same n [] = refl
same_count shell same n (turn ∷ o) =
    sum_by-cons (λ (t : Turn). cond (nat_eq (shell t) n) 1 0) turn o
    ∙ (ap (λ k. cond (nat_eq k n) 1 0 + count shell n o) (same turn) ∙ ap (λ k. cond (nat_eq (first turn) n) 1 0 + k) (same_count shell same n o))
    ∙ sym (sum_by-cons (λ (t : Turn). cond (nat_eq (first t) n) 1 0) turn o)

same_own : (shell : Turn → ℕ) → ((turn : Turn) → shell turn ≡ first turn) → (n : Option ℕ) (o : List Turn) → own shell n o ≡ own first n o
same_own shell same None o = refl
same_own shell same (Some n) o = same_count shell same n o

module _ {T : Type 0} (base : T → BaseTree) (history : T → List Turn) (shell : Turn → ℕ) (log : T → Log) (begun : (x : T) → base x ≡ (log x).base) (ordered : (x : T) → history x ≡ (log x).order) (numbered : (turn : Turn) → shell turn ≡ first turn) where
  pub took : (v w : LogView) (x : T) → w ≡ taking v (history x) → w ≡ taking v (log x).order
  took v w x e = e ∙ ap (taking v) (ordered x)

  pub gave : (w x : LogView) (y : T) → x ≡ giving w (history y) → x ≡ giving w (log y).order
  gave w x y e = e ∙ ap (giving w) (ordered y)

  pub fits_log : (v : LogView) (x : T) → Fits base history shell v x → Fits (λ (l : Log). l.base) (λ (l : Log). l.order) first v (log x)
  fits_log v x fits = record {
    base_is = fits.base_is ∙ ap (λ b. Some b) (begun x);
    begins = subst (Begins v.seen) (ordered x) fits.begins;
    own_is = ap (own first v.number) (sym (ordered x)) ∙ (sym (same_own shell numbered v.number (history x)) ∙ fits.own_is);
  }

  -- what is given back has the base of what was taken
  pub same_base : (v w : LogView) (old new : T) → w ≡ taking v (history old) → Fits base history shell v old → (log new).base ≡ (log old).base → w.base ≡ Some (base new)
  same_base v w old new e fits same =
      ap (λ (w : LogView). w.base) e ∙ (fits.base_is ∙ ap (λ b. Some b) (begun old ∙ (sym same ∙ sym (begun new))))

  -- and its history, with one more entry or none
  pub is_given : (v w : LogView) (old new : T) (a : Attempt) (r : Result Settled Settle) → w ≡ taking v (history old) → v.number ≡ Some a.shell → OnOk r (log new ≡ settled (log old) a.shell a.txn) → IfErr r (RefusedAs (log old) (log new) a) → IsGiven shell w (history new)
  is_given v w old new a (Ok s) e whose ok err =
      inr ((a.shell, a.txn), ordered new ∙ (ap (λ (l : Log). l.order) ok ∙ (ap (λ o. o ++ (a.shell, a.txn) ∷ []) (sym (ordered old) ∙ sym (ap (λ (w : LogView). w.seen) e)))), ap (λ (w : LogView). w.number) e ∙ (whose ∙ ap (λ n. Some n) (sym (numbered (a.shell, a.txn)))))
  is_given v w old new a (Err s) e whose ok err =
      inl (ordered new ∙ (ap (λ (l : Log). l.order) (left_as (log old) (log new) a s err) ∙ (sym (ordered old) ∙ sym (ap (λ (w : LogView). w.seen) e))))

  -- ---- what is begun, and closed

  pub closes_base : (v : LogView) (x : T) → v.base ≡ Some (base x) → v.base ≡ Some (log x).base
  closes_base v x e = e ∙ ap (λ b. Some b) (begun x)

  pub closes_seen : (seen : List Turn) (x : T) → Begins seen (history x) → Begins seen (log x).order
  closes_seen seen x b = subst (Begins seen) (ordered x) b

  pub closes_joined : (js : List (ℕ × ℕ)) (x : T) → All (λ (j : ℕ × ℕ). count shell j.0 (history x) ≡ j.1) js → All (λ (j : ℕ × ℕ). next_number (log x).order j.0 ≡ j.1) js
  closes_joined js x all =
      All-weaker (λ (j : ℕ × ℕ). count shell j.0 (history x) ≡ j.1) (λ (j : ℕ × ℕ). next_number (log x).order j.0 ≡ j.1)
      (λ j h. sym (count_own j.0 (log x).order) ∙ (sym (same_count shell numbered j.0 (log x).order) ∙ (ap (count shell j.0) (sym (ordered x)) ∙ h))) js all
