-- The lines of a report lead to its entries and retries.
use Rattle.std.proofs.Common.{◌≡◌, ℕ, ◌+◌, ◌≤◌, Bool, true, cond, ◌&&◌, nat_eq, nat_lt, List, [], ◌∷◌, ◌++◌, length, map, Option, Some, None, refl, sym, ap, ◌∙◌, append_assoc, append-nil, length-append, arith}
use Rattle.std.specs.Option.{option_and_then}
use Rattle.std.proofs.lemmas.Bool.{lt-ltb, and_from, eq-eqb}
use Rattle.fx_expr.specs.Tree.{Tree}
use Rattle.fx_machine.specs.declared.retry.Retry.{Retry}
use Rattle.fx_report.specs.declared.printed.PrintedEntry.{PrintedEntry}
use Rattle.fx_read_report.specs.Lines.{Line, entries, print, retries, retry, final}
use Rattle.fx_read_report.specs.Stages.{State, at, entry_begun, with_line, start_state}
use Rattle.fx_read_report.specs.declared.reading.Stage.TheVariants as stage
use Rattle.fx_read_report.proofs.FirstBad.{run}
use Rattle.fx_read_report.proofs.Printing.{printed_last, with_output}
use Rattle.fx_read_report.proofs.Texts.{entry_lines, report_lines}

abbrev pub ran : State → List Line → Option State
ran = run with_line

-- a line that may follow is taken
pub goes : (b : Bool) (t : State) (ls : List Line) → b ≡ true → option_and_then (λ u. ran u ls) (cond b (Some t) None) ≡ ran t ls
goes b t ls ok = ap (λ c. option_and_then (λ u. ran u ls) (cond c (Some t) None)) ok

-- an entry's outputs
abbrev with_outputs : PrintedEntry → List Tree → PrintedEntry
with_outputs e vs = record { shell = e.shell; txn = e.txn; outputs = e.outputs ++ vs; end = e.end }

prints_run : (n : ℕ) (fs : List PrintedEntry) (e : PrintedEntry) (rs : List Retry) (vs : List Tree) (ls : List Line) → ran (at (stage.Entries n) (fs ++ e ∷ []) rs) (map print vs ++ ls) ≡ ran (at (stage.Entries n) (fs ++ with_outputs e vs ∷ []) rs) ls
prints_run n fs e rs [] ls = ap (λ (o : List Tree). ran (at (stage.Entries n) (fs ++ record { shell = e.shell; txn = e.txn; outputs = o; end = e.end } ∷ []) rs) ls) (sym (append-nil e.outputs))
prints_run n fs e rs (v ∷ vs) ls =
    let size = length-append fs (e ∷ []) in
    goes (nat_lt 0 (length (fs ++ e ∷ []))) _ (map print vs ++ ls) (lt-ltb 0 (length (fs ++ e ∷ [])) (omega (arith, size)))
    ∙ (ap (λ (es : List PrintedEntry). ran (at (stage.Entries n) es rs) (map print vs ++ ls)) (printed_last fs e v)
    ∙ (prints_run n fs (with_output e v) rs vs ls
    ∙ ap (λ (o : List Tree). ran (at (stage.Entries n) (fs ++ record { shell = e.shell; txn = e.txn; outputs = o; end = e.end } ∷ []) rs) ls) (append_assoc e.outputs (v ∷ []) vs)))

pub entries_run : (n : ℕ) (fs es : List PrintedEntry) (rs : List Retry) (i : ℕ) (ls : List Line) → i ≡ length fs → i + length es ≤ n → ran (at (stage.Entries n) fs rs) (entry_lines i es ++ ls) ≡ ran (at (stage.Entries n) (fs ++ es) rs) ls
entries_run n fs [] rs i ls e few = ap (λ (gs : List PrintedEntry). ran (at (stage.Entries n) gs rs) ls) (sym (append-nil fs))
entries_run n fs (d ∷ es) rs i ls e few =
    let first = entry_begun d.shell d.txn d.end in
    let size = length-append fs (d ∷ []) in
    goes (nat_eq i (length fs) && nat_lt (length fs) n) _ ((map print d.outputs ++ entry_lines (i + 1) es) ++ ls) (and_from (nat_eq i (length fs)) (nat_lt (length fs) n) (eq-eqb i (length fs) e) (lt-ltb (length fs) n (omega (arith, e, few))))
    ∙ (ap (λ t. ran (at (stage.Entries n) (fs ++ first ∷ []) rs) t) (append_assoc (map print d.outputs) (entry_lines (i + 1) es) ls)
    ∙ (prints_run n fs first rs d.outputs (entry_lines (i + 1) es ++ ls)
    ∙ (entries_run n (fs ++ d ∷ []) es rs (i + 1) ls (omega (arith, e, size)) (omega (arith, few))
    ∙ ap (λ (gs : List PrintedEntry). ran (at (stage.Entries n) gs rs) ls) (append_assoc fs (d ∷ []) es))))

pub retries_run : (n : ℕ) (es : List PrintedEntry) (qs rs : List Retry) (ls : List Line) → length qs + length rs ≤ n → ran (at (stage.Retries n) es qs) (map retry rs ++ ls) ≡ ran (at (stage.Retries n) es (qs ++ rs)) ls
retries_run n es qs [] ls few = ap (λ (gs : List Retry). ran (at (stage.Retries n) es gs) ls) (sym (append-nil qs))
retries_run n es qs (r ∷ rs) ls few =
    let size = length-append qs (r ∷ []) in
    goes (nat_lt (length qs) n) _ (map retry rs ++ ls) (lt-ltb (length qs) n (omega (arith, few)))
    ∙ (retries_run n es (qs ++ r ∷ []) rs ls (omega (arith, few, size))
    ∙ ap (λ (gs : List Retry). ran (at (stage.Retries n) es gs) ls) (append_assoc qs (r ∷ []) rs))

pub report_runs : (es : List PrintedEntry) (rs : List Retry) → ran start_state (report_lines es rs) ≡ Some (at stage.Ended es rs)
report_runs es rs =
    let m = length es in
    let n = length rs in
    entries_run m [] es [] 0 (retries n ∷ (map retry rs ++ final ∷ [])) refl (omega arith)
    ∙ (goes (nat_eq m m) _ (map retry rs ++ final ∷ []) (eq-eqb m m refl)
    ∙ (retries_run n es [] rs (final ∷ []) (omega arith) ∙ goes (nat_eq n n) _ [] (eq-eqb n n refl)))

-- the lines of a report tell its entries and retries
pub one_list : (es fs : List PrintedEntry) (rs ss : List Retry) → report_lines es rs ≡ report_lines fs ss → (es ≡ fs) × (rs ≡ ss)
one_list es fs rs ss e =
    let same : Some (at stage.Ended es rs) ≡ Some (at stage.Ended fs ss) = sym (report_runs es rs) ∙ (ap (ran start_state) e ∙ report_runs fs ss) in
    let is : at stage.Ended es rs ≡ at stage.Ended fs ss = cc in
    (ap (λ (s : State). s.entries) is, ap (λ (s : State). s.retries) is)
