-- From the diaries of the shells that have worked off their scripts to a run.
use Rattle.std.proofs.Common.{◌≡◌, ⊎_elim, ℕ, suc, ◌+◌, ◌<◌, ◌≤◌, Bool, true, false, cond, nat_lt, List, [], ◌++◌, length, map, take, slice_get, Some, refl, sym, ap, subst, ◌∙◌, arith, length-append}
use Rattle.std.specs.List.{flat_map}
use Rattle.std.proofs.lemmas.Bool.{cases_lt}
use Rattle.std.proofs.lemmas.Bool.Decides.{nat_tests}
use Rattle.std.proofs.lemmas.List.{take_all, take-append-le}
use Rattle.fx_spec.specs.Plans.{Turn, count_of}
use Rattle.fx_spec.specs.Order.{BaseTree, IsLegal, IsComplete, RetriesOk, first_numbers}
use Rattle.fx_machine.specs.declared.retry.Retry.{Retry}
use Rattle.fx_machine.specs.Machine.{next_number, resting}
use Rattle.fx_machine.specs.Tried.{conflicts_of, retry_tree}
use Rattle.fx_machine.proofs.Complete.{complete_runs}
use Rattle.fx_machine.proofs.Reached.{shell_within}
use Rattle.fx_diaries.specs.Diaries.{Diary}
use Rattle.fx_diaries.specs.Laws.{DiariesMakeRuns}
use Rattle.fx_diaries.specs.Runs.{HasWorked, IsOfSomeRun, shells_in}
use Rattle.fx_diaries.proofs.Attempting.{next_rises, own_counts, waits_to}
use Rattle.fx_diaries.proofs.Following.{runs_have_schedules, shells_of_plan}
use Rattle.fx_diaries.proofs.Growing.{empty, by_seen, flat_same}
use Rattle.fx_diaries.proofs.Merging.{HasRun, merged}

module _ (base : BaseTree) (o : List Turn) (legal : IsLegal base o) where
  -- the shells of an order are the plan's
  pub planned : (time : ℕ) (turn : Turn) → slice_get o time ≡ Some turn → turn.0 < length base.plan
  planned time turn at =
      let shell : ℕ = turn.0 in
      let all : ℕ = suc time + length o in
      let one = own_counts o shell time turn at refl in
      let more = next_rises o shell (suc time) all (omega arith) in
      let whole : next_number (take all o) shell ≡ next_number o shell = ap (λ o. next_number o shell) (take_all all o (omega arith)) in
      let few = (legal shell).planned in
      shell_within base shell 0 (omega (arith, one, more, whole, few))

  -- a shell with no transaction left waits to the end
  to_end : (shell : ℕ) (retries : List Retry) → HasWorked base o shell retries → Diary base o shell (length o) [] retries
  to_end shell retries w = waits_to base o shell (count_of base.plan shell) w.time (length o) (omega arith) quiet (length o) w.time [] retries (omega arith) w.within (omega arith) w.diary
    where
      quiet : (time : ℕ) → w.time ≤ time → time ≤ length o → next_number (take time o) shell ≡ count_of base.plan shell
      quiet time low high =
          let more = next_rises o shell w.time time low in
          let most = next_rises o shell time (length o) high in
          let whole : next_number (take (length o) o) shell ≡ next_number o shell = ap (λ o. next_number o shell) (take_all (length o) o (omega arith)) in
          let few = (legal shell).planned in
          let all = w.all in
          omega (arith, more, most, whole, few, all)

  -- a shell of no script has nothing to do
  idle : (shell : ℕ) → length base.plan ≤ shell → HasWorked base o shell []
  idle shell past = record {
    time = 0;
    within = omega arith;
    diary = empty base o shell;
    all = ⊎_elim
        (λ (some : 0 < count_of base.plan shell). (let inside = shell_within base shell 0 some in absurd (omega (arith, inside, past))))
        (λ (none : count_of base.plan shell ≤ 0). (let e : 0 ≡ count_of base.plan shell = omega (arith, none) in e)) (cases_lt 0 (count_of base.plan shell));
  }

  module _ (retries : ℕ → List Retry) (worked : (shell : ℕ) → shell < length base.plan → HasWorked base o shell (retries shell)) where
    abbrev of_plan : ℕ → List Retry
    of_plan shell = cond (nat_lt shell (length base.plan)) (retries shell) []

    diary : (shell : ℕ) → Diary base o shell (length o) [] (of_plan shell)
    diary shell = by (nat_lt shell (length base.plan)) refl
      where
        by : (b : Bool) → nat_lt shell (length base.plan) ≡ b → Diary base o shell (length o) [] (cond b (retries shell) [])
        by true e = to_end shell (retries shell) (worked shell (let inside : shell < length base.plan = grind (arith, nat_tests) in inside))
        by false e = to_end shell [] (idle shell (let past : length base.plan ≤ shell = grind (arith, nat_tests) in past))

    pub some_run : IsComplete base o → IsOfSomeRun base o (flat_map retries (first_numbers (length base.plan)))
    some_run complete =
        let h : HasRun base o of_plan = merged base o of_plan diary planned in
        record {
          events = h.events;
          schedule = shells_in h.events;
          shells = shells_of_plan base (resting base []) h.events (resting base o) h.run;
          run = h.run;
          turns = runs_have_schedules base h.events o h.run complete;
          named = h.named;
          conflicts = flat_same retries (λ shell. conflicts_of shell 0 h.events) (length base.plan) (λ shell inside.
              let yes : nat_lt shell (length base.plan) ≡ true = grind (arith, nat_tests) in
              ap (λ b. cond b (retries shell) []) (sym yes) ∙ sym (h.conflicts shell inside));
        }

pub diaries_make_runs : DiariesMakeRuns
diaries_make_runs base o retries complete worked = some_run base o complete.legal retries worked complete

-- a shell has worked off its script over a longer order as well
pub worked_more : (base : BaseTree) (o more : List Turn) (shell : ℕ) (retries : List Retry) → HasWorked base o shell retries → HasWorked base (o ++ more) shell retries
worked_more base o more shell retries w = record {
  time = w.time;
  within = let h = w.within in omega (arith, h, length-append o more);
  diary = by_seen base o more shell w.time [] retries w.within w.diary;
  all = ap (λ o. next_number o shell) (take-append-le w.time o more w.within) ∙ w.all;
}

-- the retries of a run to a complete order are good ones
pub run_ok : (base : BaseTree) (o : List Turn) (retries : List Retry) → IsComplete base o → IsOfSomeRun base o retries → RetriesOk base o (map retry_tree retries)
run_ok base o retries complete ran = subst (λ rs. RetriesOk base o (map retry_tree rs)) (sym ran.conflicts) (complete_runs base ran.events o ran.run complete)
