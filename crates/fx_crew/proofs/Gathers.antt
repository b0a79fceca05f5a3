-- What the maker has gathered, pass by pass and in the end.
use Rattle.std.proofs.Common.{◌≡◌, ◌≢◌, ⊎_elim, ℕ, zero, suc, ◌<◌, ◌≤◌, List, [], ◌∷◌, ◌++◌, length, Some, None, Result, Ok, Err, sym, ap, subst, ◌∙◌, arith}
use Rattle.std.specs.Prelude.{OnOk}
use Rattle.std.specs.List.{All, flat_map}
use Rattle.std.proofs.lemmas.Bool.{cases_lt, cases_eq}
use Rattle.std.proofs.lemmas.List.Elements.{All-head, All-tail}
use Rattle.std.proofs.lemmas.Option.{same_Some}
use Rattle.fx_spec.specs.CommandTree.{CommandTree}
use Rattle.fx_spec.specs.Plans.{Turn, count_of}
use Rattle.fx_spec.specs.Order.{BaseTree, IsLegal, IsComplete, first_numbers}
use Rattle.fx_machine.specs.declared.retry.Retry.{Retry}
use Rattle.fx_machine.specs.Machine.{next_number}
use Rattle.fx_board.specs.Board.{IsLog}
use Rattle.fx_board.specs.Log.{Log}
use Rattle.fx_turn.specs.Histories.{Begins}
use Rattle.fx_turn.specs.Views.{joining, joins, number_of}
use Rattle.fx_shared.specs.Passes.{LogView}
use Rattle.fx_diaries.specs.Runs.{HasWorked, IsOfSomeRun}
use Rattle.fx_diaries.proofs.Closing.{worked_more, diaries_make_runs}
use Rattle.fx_diaries.proofs.Growing.{put, put_same, put_other, flat_same, flat_last}
use Rattle.fx_crew.specs.Workers.{HasGathered, counts_below}
use Rattle.fx_crew.proofs.Orders.{completes}

worked_later : (base : BaseTree) (o o' : List Turn) (shell : ℕ) (rs : List Retry) → Begins o o' → HasWorked base o shell rs → HasWorked base o' shell rs
worked_later base o o' shell rs b w = subst (λ o. HasWorked base o shell rs) (sym b.whole) (worked_more base o b.rest shell rs w)

-- no pass is taken in yet
pub none_gathered : (base : BaseTree) (v : LogView) → v.number ≡ None → v.base ≡ Some base → v.joined ≡ [] → HasGathered base v []
none_gathered base v number based joined =
    let none : joins v ≡ 0 = ap length joined in
    record {
      number = number;
      based = based;
      joined = joined ∙ ap (counts_below base.plan) (sym none);
      own = λ shell. [];
      worked = λ shell inside. absurd (omega (arith, inside, none));
      all = ap (λ n. flat_map (λ shell. []) (first_numbers n)) (sym none);
    }

-- one more pass is taken in, of the next shell
pub gathered_more : (base : BaseTree) (v w x : LogView) (rs more : List Retry) → HasGathered base v rs → x ≡ joining v w → w.number ≡ Some (joins v) → w.mine ≡ count_of base.plan (joins v) → HasWorked base w.seen (joins v) more → Begins v.seen x.seen → Begins w.seen x.seen → HasGathered base x (rs ++ more)
gathered_more base v w x rs more g e number count worked b c =
    let joined : x.joined ≡ counts_below base.plan (suc (joins v)) =
    ap (λ (v : LogView). v.joined) e ∙ (ap (λ n. (number_of n, w.mine) ∷ v.joined) number ∙ (ap (λ n. (joins v, n) ∷ v.joined) count ∙ ap (λ js. (joins v, count_of base.plan (joins v)) ∷ js) g.joined)) in
    let one : joins x ≡ suc (joins v) = ap (λ (v : LogView). joins v) e in
    record {
      number = ap (λ (v : LogView). v.number) e ∙ g.number;
      based = ap (λ (v : LogView). v.base) e ∙ g.based;
      joined = joined ∙ ap (counts_below base.plan) (sym one);
      own = own;
      worked = λ shell inside. ⊎_elim
          (λ (last : shell ≡ joins v). subst (λ k. HasWorked base x.seen k (own k)) (sym last) (subst (HasWorked base x.seen (joins v)) (sym (put_same g.own (joins v) more)) (worked_later base w.seen x.seen (joins v) more c worked)))
          (λ (early : shell ≢ joins v). subst (HasWorked base x.seen shell) (sym (put_other g.own (joins v) more shell early)) (worked_later base v.seen x.seen shell (g.own shell) b (g.worked shell (before shell (subst (λ n. shell < n) one inside) early)))) (cases_eq shell (joins v));
      all = ap (λ rs. rs ++ more) g.all ∙ (ap (λ rs. rs ++ more) (flat_same g.own own (joins v) (λ k h. sym (put_other g.own (joins v) more k (λ same. omega (arith, same, h)))))
          ∙ (ap (λ last. flat_map own (first_numbers (joins v)) ++ last) (sym (put_same g.own (joins v) more)) ∙ (sym (flat_last own (joins v)) ∙ ap (λ n. flat_map own (first_numbers n)) (sym one))));
    }
  where
    own : ℕ → List Retry
    own = put g.own (joins v) more

    before : (shell : ℕ) → shell < suc (joins v) → shell ≢ joins v → shell < joins v
    before shell inside early = ⊎_elim (λ (h : shell < joins v). h) (λ (h : joins v ≤ shell). absurd (early (omega (arith, h, inside)))) (cases_lt shell (joins v))

-- and its retries are added, or are not
pub gathered_noted : {E : Type 0} (base : BaseTree) (v w x : LogView) (rs more all : List Retry) (r : Result (Unit {0}) E) → HasGathered base v rs → x ≡ joining v w → w.number ≡ Some (joins v) → w.mine ≡ count_of base.plan (joins v) → HasWorked base w.seen (joins v) more → Begins v.seen x.seen → Begins w.seen x.seen → OnOk r (all ≡ rs ++ more) → OnOk r (HasGathered base x all)
gathered_noted base v w x rs more all (Ok u) g e number count worked b c are = subst (HasGathered base x) (sym are) (gathered_more base v w x rs more g e number count worked b c)
gathered_noted base v w x rs more all (Err e) g _ number count worked b c are = tt

-- what is so of each of these is so of each shell below the number
each_below : (plan : List (List (List CommandTree))) (P : ℕ → ℕ → Type 0) (n : ℕ) → All (λ (j : ℕ × ℕ). P j.0 j.1) (counts_below plan n) → (shell : ℕ) → shell < n → P shell (count_of plan shell)
each_below plan P zero all shell h = absurd (omega (arith, h))
each_below plan P (suc n) all shell h =
    ⊎_elim (λ (l : shell < n). each_below plan P n (All-tail (λ (j : ℕ × ℕ). P j.0 j.1) (n, count_of plan n) (counts_below plan n) all) shell l)
    (λ (g : n ≤ shell). let same : n ≡ shell = omega (arith, h, g) in subst (λ k. P k (count_of plan k)) same (All-head (λ (j : ℕ × ℕ). P j.0 j.1) (n, count_of plan n) (counts_below plan n) all)) (cases_lt shell n)

-- all shells are done
pub is_complete : (base : BaseTree) (v : LogView) (rs : List Retry) (o : List Turn) → HasGathered base v rs → joins v ≡ length base.plan → IsLegal base o → All (λ (j : ℕ × ℕ). next_number o j.0 ≡ j.1) v.joined → IsComplete base o
is_complete base v rs o g all legal counts =
    let below = each_below base.plan (λ k n. next_number o k ≡ n) (joins v) (subst (All (λ (j : ℕ × ℕ). next_number o j.0 ≡ j.1)) g.joined counts) in
    completes base o legal (λ shell within. below shell (omega (arith, within, all)))

-- and what they have done is a run
pub is_some_run : (base : BaseTree) (v : LogView) (rs : List Retry) (o : List Turn) → HasGathered base v rs → joins v ≡ length base.plan → Begins v.seen o → IsComplete base o → IsOfSomeRun base o rs
is_some_run base v rs o g all b complete =
    subst (IsOfSomeRun base o) (ap (λ n. flat_map g.own (first_numbers n)) (sym all) ∙ sym g.all)
    (diaries_make_runs base o g.own complete (λ shell inside. worked_later base v.seen o shell (g.own shell) b (g.worked shell (omega (arith, inside, all)))))

-- the same of the log that is closed
module _ (base : BaseTree) (v : LogView) (rs : List Retry) (log : Log) (g : HasGathered base v rs) (all : joins v ≡ length base.plan) (same : v.base ≡ Some log.base) (is : IsLog log) (counts : All (λ (j : ℕ × ℕ). next_number log.order j.0 ≡ j.1) v.joined) where
  is_base : base ≡ log.base
  is_base = same_Some base log.base (sym g.based ∙ same)

  over_base : IsComplete base log.order
  over_base = is_complete base v rs log.order g all (subst (λ b. IsLegal b log.order) (sym is_base) is.legal) counts

  pub closes : IsComplete log.base log.order
  closes = subst (λ b. IsComplete b log.order) is_base over_base

  pub closes_run : Begins v.seen log.order → IsOfSomeRun log.base log.order rs
  closes_run b = subst (λ base. IsOfSomeRun base log.order rs) is_base (is_some_run base v rs log.order g all b over_base)
