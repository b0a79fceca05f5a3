-- The lines of a report, and their bytes.
use Rattle.std.proofs.Common.{◌≡◌, ℕ, ◌+◌, ◌^◌, ◌<◌, true, List, [], ◌∷◌, ◌++◌, length, map, refl, sym, ap, subst, ◌∙◌, append_assoc, append-nil, arith}
use Rattle.std.specs.List.{AllByRecursion, flat_map}
use Rattle.std.proofs.lemmas.Grind.{flat_map-append}
use Rattle.std.proofs.lemmas.List.Folds.{flat_map-map}
use Rattle.fx_base.proofs.Lists.{all_both, all_end, all_front}
use Rattle.fx_expr.specs.Tree.{Tree}
use Rattle.fx_machine.specs.declared.retry.Retry.{Retry}
use Rattle.fx_report.specs.declared.printed.PrintedEntry.{PrintedEntry}
use Rattle.fx_report.specs.Report.{entries_text, entry_line, entry_text, line, print_line, report_text, retry_line}
use Rattle.fx_read_report.specs.Form.{IsReportForm, IsFormEntry, IsFormRetry}
use Rattle.fx_read_report.specs.Lines.{Line, IsLine, head, entries, entry, print, retries, retry, final, line_text}
use Rattle.fx_read_report.specs.Stages.{State, is_ended, with_line, start_state}
use Rattle.fx_read_report.specs.Values.{IsPrinted}
use Rattle.fx_read_report.specs.declared.values.TheConstants.{VALUE_LEVELS}
use Rattle.fx_read_report.proofs.Feeds.{line_lacks}
use Rattle.fx_read_report.proofs.FirstBad.{Machine}
use Rattle.fx_read_report.proofs.LineLaws.{one_line}

-- the lines of entries that are numbered from i
abbrev pub entry_lines : ℕ → List PrintedEntry → List Line
entry_lines i [] = []
entry_lines i (e ∷ rest) = entry i e.shell e.txn e.end ∷ (map print e.outputs ++ entry_lines (i + 1) rest)

-- the lines of a report
abbrev pub report_lines : List PrintedEntry → List Retry → List Line
report_lines es rs = head ∷ entries (length es) ∷ (entry_lines 0 es ++ (retries (length rs) ∷ (map retry rs ++ final ∷ [])))

-- the machine that reads reports, by lines that their texts tell
abbrev pub reading : (Is : Line → Type 0) → ((l k : Line) → Is l → Is k → line_text l ≡ line_text k → l ≡ k) → Machine State Line
reading Is one = record { start = start_state; next = with_line; Ends = λ s. is_ended s.stage ≡ true; Is = Is; text = line_text; lacks = line_lacks; one = one }

abbrev pub reports : Machine State Line
reports = reading IsLine one_line

-- ---- bytes

abbrev fed_text : Line → List ℕ
fed_text l = line (line_text l)

abbrev pub bytes_of : List Line → List ℕ
bytes_of ls = flat_map fed_text ls

prints_text : (vs : List Tree) → flat_map print_line vs ≡ bytes_of (map print vs)
unfolding print_line
prints_text vs = sym (flat_map-map fed_text print vs)

retries_text : (rs : List Retry) → flat_map retry_line rs ≡ bytes_of (map retry rs)
unfolding retry_line
retries_text rs = sym (flat_map-map fed_text retry rs)

entries_are : (i : ℕ) (es : List PrintedEntry) → entries_text i es ≡ bytes_of (entry_lines i es)
unfolding entry_text entry_line
entries_are i [] = refl
entries_are i (e ∷ es) =
    let first = fed_text (entry i e.shell e.txn e.end) in
    append_assoc first (flat_map print_line e.outputs) (entries_text (i + 1) es)
    ∙ ap (λ t. first ++ t) (ap (λ t. t ++ entries_text (i + 1) es) (prints_text e.outputs) ∙ (ap (λ t. bytes_of (map print e.outputs) ++ t) (entries_are (i + 1) es) ∙ sym (flat_map-append fed_text (map print e.outputs) (entry_lines (i + 1) es))))

form : (a b c d e f : List ℕ) → ((((a ++ b) ++ c) ++ d) ++ e) ++ f ≡ a ++ (b ++ (c ++ (d ++ (e ++ f))))
form a b c d e f = simp append_assoc

pub report_is : (es : List PrintedEntry) (rs : List Retry) → report_text es rs ≡ bytes_of (report_lines es rs)
unfolding report_text
report_is es rs =
    let a = fed_text head in
    let b = fed_text (entries (length es)) in
    let d = fed_text (retries (length rs)) in
    let f = fed_text final in
    form a b (entries_text 0 es) d (flat_map retry_line rs) f
    ∙ ap (λ t. a ++ (b ++ t)) (ap (λ t. t ++ (d ++ (flat_map retry_line rs ++ f))) (entries_are 0 es)
    ∙ (ap (λ t. bytes_of (entry_lines 0 es) ++ (d ++ (t ++ f))) (retries_text rs)
    ∙ (ap (λ t. bytes_of (entry_lines 0 es) ++ (d ++ t)) (ap (λ t. bytes_of (map retry rs) ++ t) (sym (append-nil f)) ∙ sym (flat_map-append fed_text (map retry rs) (final ∷ [])))
    ∙ sym (flat_map-append fed_text (entry_lines 0 es) (retries (length rs) ∷ (map retry rs ++ final ∷ []))))))

-- ---- lines of the form

prints_are : (vs : List Tree) → AllByRecursion (IsPrinted VALUE_LEVELS) vs ≡ AllByRecursion IsLine (map print vs)
prints_are [] = refl
prints_are (v ∷ vs) = ap (λ T. IsPrinted VALUE_LEVELS v × T) (prints_are vs)

pub retries_are : (rs : List Retry) → AllByRecursion IsFormRetry rs ≡ AllByRecursion IsLine (map retry rs)
retries_are [] = refl
retries_are (r ∷ rs) = ap (λ T. IsFormRetry r × T) (retries_are rs)

pub along : {A B : Type 0} → A ≡ B → A → B
along e a = subst (λ (T : Type 0). T) e a

pub entries_lines : (i : ℕ) (es : List PrintedEntry) → i + length es < 2 ^ 64 → AllByRecursion IsFormEntry es → AllByRecursion IsLine (entry_lines i es)
entries_lines i [] few p = tt
entries_lines i (e ∷ es) few p =
    ((omega arith, p.0.shell, p.0.txn, p.0.ended), all_both IsLine (map print e.outputs) (entry_lines (i + 1) es) (along (prints_are e.outputs) p.0.outputs) (entries_lines (i + 1) es (omega arith) p.1))

entries_form : (i : ℕ) (es : List PrintedEntry) → AllByRecursion IsLine (entry_lines i es) → AllByRecursion IsFormEntry es
entries_form i [] p = tt
entries_form i (e ∷ es) p =
    let outputs = along (sym (prints_are e.outputs)) (all_front IsLine (map print e.outputs) (entry_lines (i + 1) es) p.1) in
    (record { shell = p.0.1; txn = p.0.2; outputs = outputs; ended = p.0.3 }, entries_form (i + 1) es (all_end IsLine (map print e.outputs) (entry_lines (i + 1) es) p.1))

pub report_lines_are : (es : List PrintedEntry) (rs : List Retry) → IsReportForm es rs → AllByRecursion IsLine (report_lines es rs)
report_lines_are es rs f =
    let ends = all_both IsLine (map retry rs) (final ∷ []) (along (retries_are rs) f.retries_form) (tt, tt) in
    (tt, (f.entries_fit, all_both IsLine (entry_lines 0 es) (retries (length rs) ∷ (map retry rs ++ final ∷ [])) (entries_lines 0 es (let fit = f.entries_fit in omega arith) f.entries_form) (f.retries_fit, ends)))

pub report_form : (es : List PrintedEntry) (rs : List Retry) → AllByRecursion IsLine (report_lines es rs) → IsReportForm es rs
report_form es rs p =
    let more = retries (length rs) ∷ (map retry rs ++ final ∷ []) in
    let later = all_end IsLine (entry_lines 0 es) more p.1.1 in
    record {
      entries_fit = p.1.0;
      retries_fit = later.0;
      entries_form = entries_form 0 es (all_front IsLine (entry_lines 0 es) more p.1.1);
      retries_form = along (sym (retries_are rs)) (all_front IsLine (map retry rs) (final ∷ []) later.1);
    }
