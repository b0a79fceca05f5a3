-- What was read goes on to a report.
use Rattle.std.proofs.Common.{ℕ, zero, suc, ◌+◌, ◌-◌, ◌^◌, ◌<◌, ◌≤◌, nat_eq, List, [], ◌∷◌, ◌++◌, length, map, replicate, refl, sym, subst, ◌∙◌, length-append, arith, lit<}
use Rattle.std.specs.List.{AllByRecursion}
use Rattle.std.proofs.lemmas.Bool.{eq-eqb}
use Rattle.std.proofs.lemmas.List.{length-replicate}
use Rattle.std.proofs.lemmas.List.Elements.{All-nil}
use Rattle.fx_base.proofs.Lists.{all_both}
use Rattle.fx_spec.specs.declared.refusal.End.TheVariants as end
use Rattle.fx_machine.specs.declared.retry.Retry.{Retry}
use Rattle.fx_report.specs.declared.printed.PrintedEntry.{PrintedEntry}
use Rattle.fx_store.specs.Names.{IsName}
use Rattle.fx_read_report.specs.Form.{IsFormEntry, IsFormRetry}
use Rattle.fx_read_report.specs.Lines.{IsLine, head, entries, retries, retry, final}
use Rattle.fx_read_report.specs.Stages.{State, at, entry_begun}
use Rattle.fx_read_report.specs.declared.reading.Stage.{Stage}
use Rattle.fx_read_report.specs.declared.reading.Stage.TheVariants as stage
use Rattle.fx_read_report.proofs.Advances.{Fits, lines_at}
use Rattle.fx_read_report.proofs.FirstBad.{GoesOn, goes_before}
use Rattle.fx_read_report.proofs.Running.{entries_run, goes, retries_run}
use Rattle.fx_read_report.proofs.Texts.{along, entries_lines, entry_lines, reports, retries_are}

abbrev blank : PrintedEntry
blank = entry_begun 0 0 end.Done

abbrev blank_retry : Retry
blank_retry = record { shell = 0; txn = 0; entry = 0; path = [] }

blanks : (k : ℕ) → AllByRecursion IsFormEntry (replicate k blank)
blanks zero = tt
blanks (suc k) = (record { shell = lit< tt; txn = lit< tt; outputs = tt; ended = tt }, blanks k)

blank_retries : (k : ℕ) → AllByRecursion IsFormRetry (replicate k blank_retry)
blank_retries zero = tt
blank_retries (suc k) = (record { shell = lit< tt; txn = lit< tt; entry = lit< tt; path = record { names = All-nil IsName; short = omega arith } }, blank_retries k)

-- behind the count of retries stand as many, and the last line
after_retries : (n : ℕ) (es : List PrintedEntry) (rs : List Retry) → length rs ≤ n → GoesOn reports (at (stage.Retries n) es rs)
after_retries n es rs few =
    let qs = replicate (n - length rs) blank_retry in
    let size = length-replicate (n - length rs) blank_retry in
    let sum = length-append rs qs in
    record {
      more = map retry qs ++ final ∷ [];
      end = at stage.Ended es (rs ++ qs);
      are = all_both IsLine (map retry qs) (final ∷ []) (along (retries_are qs) (blank_retries (n - length rs))) (tt, tt);
      ran = retries_run n es rs qs (final ∷ []) (omega (arith, size, few)) ∙ goes (nat_eq (length (rs ++ qs)) n) _ [] (eq-eqb (length (rs ++ qs)) n (omega (arith, sum, size, few)));
      ends = refl;
    }

-- behind the count of entries stand as many, and no retry
after_entries : (n : ℕ) (es : List PrintedEntry) → n < 2 ^ 64 → length es ≤ n → GoesOn reports (at (stage.Entries n) es [])
after_entries n es small few =
    let ds = replicate (n - length es) blank in
    let size = length-replicate (n - length es) blank in
    let sum = length-append es ds in
    goes_before reports (at (stage.Entries n) es []) (at (stage.Retries 0) (es ++ ds) []) (entry_lines (length es) ds ++ retries 0 ∷ [])
    (all_both IsLine (entry_lines (length es) ds) (retries 0 ∷ []) (entries_lines (length es) ds (omega (arith, size, few, small)) (blanks (n - length es))) (lit< tt, tt))
    (entries_run n es ds [] (length es) (retries 0 ∷ []) refl (omega (arith, size, few)) ∙ goes (nat_eq (length (es ++ ds)) n) _ [] (eq-eqb (length (es ++ ds)) n (omega (arith, sum, size, few))))
    (after_retries 0 (es ++ ds) [] (omega arith))

pub goes_on : (g : Stage) (es : List PrintedEntry) (rs : List Retry) → Fits g es rs → AllByRecursion IsLine (lines_at g es rs) → GoesOn reports (at g es rs)
goes_on stage.Start es rs f are =
    subst (λ (s : State). GoesOn reports s) (λ i. at stage.Start (sym f.0 i) (sym f.1 i)) (goes_before reports (at stage.Start [] []) (at (stage.Entries 0) [] []) (head ∷ entries 0 ∷ []) (tt, (lit< tt, tt)) refl (after_entries 0 [] (lit< tt) (omega arith)))
goes_on stage.Headed es rs f are =
    subst (λ (s : State). GoesOn reports s) (λ i. at stage.Headed (sym f.0 i) (sym f.1 i)) (goes_before reports (at stage.Headed [] []) (at (stage.Entries 0) [] []) (entries 0 ∷ []) (lit< tt, tt) refl (after_entries 0 [] (lit< tt) (omega arith)))
goes_on (stage.Entries n) es rs f are = subst (λ (qs : List Retry). GoesOn reports (at (stage.Entries n) es qs)) (sym f.1) (after_entries n es are.1.0 f.0)
goes_on (stage.Retries n) es rs f are = after_retries n es rs f
goes_on stage.Ended es rs f are = record { more = []; end = at stage.Ended es rs; are = tt; ran = refl; ends = refl }
