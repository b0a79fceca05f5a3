-- The lines that lead to what was read.
use Rattle.std.proofs.Common.{◌≡◌, ℕ, suc, ◌+◌, ◌<◌, ◌≤◌, Bool, true, false, cond, ◌&&◌, nat_eq, nat_lt, List, [], ◌∷◌, ◌++◌, length, map, Option, Some, None, refl, sym, ap, subst, ◌∙◌, append_assoc, append-nil, length-append, arith}
use Rattle.std.proofs.lemmas.Bool.{and_parts, eqb-true, ltb-true}
use Rattle.std.proofs.lemmas.List.{map-append}
use Rattle.fx_expr.specs.Tree.{Tree}
use Rattle.fx_machine.specs.declared.retry.Retry.{Retry}
use Rattle.fx_report.specs.declared.printed.PrintedEntry.{PrintedEntry}
use Rattle.fx_read_report.specs.Lines.{Line, head, entries, entry, print, retries, retry, final}
use Rattle.fx_read_report.specs.Stages.{State, entry_begun, with_line, next_at, with_last_output, start_state}
use Rattle.fx_read_report.specs.declared.reading.Stage.{Stage}
use Rattle.fx_read_report.specs.declared.reading.Stage.TheVariants as stage
use Rattle.fx_read_report.proofs.FirstBad.{kept}
use Rattle.fx_read_report.proofs.Running.{ran}
use Rattle.fx_read_report.proofs.Texts.{entry_lines, report_lines}

abbrev pub lines_at : Stage → List PrintedEntry → List Retry → List Line
lines_at stage.Start es rs = []
lines_at stage.Headed es rs = head ∷ []
lines_at (stage.Entries n) es rs = head ∷ entries n ∷ entry_lines 0 es
lines_at (stage.Retries n) es rs = head ∷ entries (length es) ∷ (entry_lines 0 es ++ retries n ∷ map retry rs)
lines_at stage.Ended es rs = report_lines es rs

-- what was read is no more than was announced
abbrev pub Fits : Stage → List PrintedEntry → List Retry → Type 0
Fits stage.Start es rs = (es ≡ []) × (rs ≡ [])
Fits stage.Headed es rs = (es ≡ []) × (rs ≡ [])
Fits (stage.Entries n) es rs = (length es ≤ n) × (rs ≡ [])
Fits (stage.Retries n) es rs = length rs ≤ n
Fits stage.Ended es rs = Unit {0}

pub record IsRead (s : State) (ls : List Line) : Type 0 where
  pub fits : Fits s.stage s.entries s.retries
  pub lines : ls ≡ lines_at s.stage s.entries s.retries

-- ---- one line more

printed_length : (es : List PrintedEntry) (v : Tree) → length (with_last_output es v) ≡ length es
printed_length [] v = refl
printed_length (e ∷ []) v = refl
printed_length (e ∷ f ∷ es) v = ap suc (printed_length (f ∷ es) v)

lines_push : (i : ℕ) (es : List PrintedEntry) (e : PrintedEntry) → e.outputs ≡ [] → entry_lines i (es ++ e ∷ []) ≡ entry_lines i es ++ entry (i + length es) e.shell e.txn e.end ∷ []
lines_push i [] e none =
    let same : i ≡ i + 0 = omega arith in
    ap (λ vs. entry i e.shell e.txn e.end ∷ (map print vs ++ [])) none ∙ ap (λ k. entry k e.shell e.txn e.end ∷ []) same
lines_push i (d ∷ es) e none =
    let same : (i + 1) + length es ≡ i + suc (length es) = omega arith in
    ap (λ t. entry i d.shell d.txn d.end ∷ (map print d.outputs ++ t)) (lines_push (i + 1) es e none ∙ ap (λ k. entry_lines (i + 1) es ++ entry k e.shell e.txn e.end ∷ []) same)
    ∙ ap (λ t. entry i d.shell d.txn d.end ∷ t) (sym (append_assoc (map print d.outputs) (entry_lines (i + 1) es) (entry (i + suc (length es)) e.shell e.txn e.end ∷ [])))

lines_printed : (i : ℕ) (es : List PrintedEntry) (v : Tree) → 0 < length es → entry_lines i (with_last_output es v) ≡ entry_lines i es ++ print v ∷ []
lines_printed i [] v some = absurd (omega arith)
lines_printed i (e ∷ []) v some =
    ap (λ t. entry i e.shell e.txn e.end ∷ t) (append-nil (map print (e.outputs ++ v ∷ [])) ∙ (map-append print e.outputs (v ∷ []) ∙ ap (λ t. t ++ print v ∷ []) (sym (append-nil (map print e.outputs)))))
lines_printed i (e ∷ f ∷ es) v some =
    ap (λ t. entry i e.shell e.txn e.end ∷ t) (ap (λ t. map print e.outputs ++ t) (lines_printed (i + 1) (f ∷ es) v (omega arith)) ∙ sym (append_assoc (map print e.outputs) (entry_lines (i + 1) (f ∷ es)) (print v ∷ [])))

abbrev Reads : List Line → Option State → Type 0
Reads ls None = Unit {0}
Reads ls (Some s) = IsRead s ls

if_so : (ls : List Line) (b : Bool) (s : State) → (b ≡ true → IsRead s ls) → Reads ls (cond b (Some s) None)
if_so ls true s h = h refl
if_so ls false s h = tt

reads_at : (g : Stage) (es : List PrintedEntry) (rs : List Retry) (l : Line) → Fits g es rs → Reads (lines_at g es rs ++ l ∷ []) (next_at g es rs l)
reads_at stage.Start es rs head f = record { fits = f; lines = refl }
reads_at stage.Headed es rs (entries n) f = record { fits = (let none = ap length f.0 in omega (arith, none), f.1); lines = ap (λ t. head ∷ entries n ∷ entry_lines 0 t) (sym f.0) }
reads_at (stage.Entries n) es rs (entry i k j e) f =
    if_so _ (nat_eq i (length es) && nat_lt (length es) n) _ (λ ok.
    let parts = and_parts (nat_eq i (length es)) (nat_lt (length es) n) ok in
    let number = eqb-true i (length es) parts.0 in
    let few = ltb-true (length es) n parts.1 in
    let same : i ≡ 0 + length es = omega (arith, number) in
    let size = length-append es (entry_begun k j e ∷ []) in
    record {
      fits = (omega (arith, size, few), f.1);
      lines = ap (λ t. head ∷ entries n ∷ t) (ap (λ m. entry_lines 0 es ++ entry m k j e ∷ []) same ∙ sym (lines_push 0 es (entry_begun k j e) refl));
    })
reads_at (stage.Entries n) es rs (print v) f =
    if_so _ (nat_lt 0 (length es)) _ (λ ok. record {
      fits = (subst (λ (m : ℕ). m ≤ n) (sym (printed_length es v)) f.0, f.1);
      lines = ap (λ t. head ∷ entries n ∷ t) (sym (lines_printed 0 es v (ltb-true 0 (length es) ok)));
    })
reads_at (stage.Entries n) es rs (retries m) f =
    if_so _ (nat_eq (length es) n) _ (λ ok. record {
      fits = (let none = ap length f.1 in omega (arith, none));
      lines = ap (λ k. head ∷ entries k ∷ (entry_lines 0 es ++ retries m ∷ [])) (sym (eqb-true (length es) n ok)) ∙ ap (λ t. head ∷ entries (length es) ∷ (entry_lines 0 es ++ retries m ∷ map retry t)) (sym f.1);
    })
reads_at (stage.Retries n) es rs (retry r) f =
    if_so _ (nat_lt (length rs) n) _ (λ ok.
    let few = ltb-true (length rs) n ok in
    let size = length-append rs (r ∷ []) in
    record {
      fits = omega (arith, size, few);
      lines = ap (λ t. head ∷ entries (length es) ∷ t) (append_assoc (entry_lines 0 es) (retries n ∷ map retry rs) (retry r ∷ []) ∙ ap (λ t. entry_lines 0 es ++ retries n ∷ t) (sym (map-append retry rs (r ∷ []))));
    })
reads_at (stage.Retries n) es rs final f =
    if_so _ (nat_eq (length rs) n) _ (λ ok. record {
      fits = tt;
      lines = ap (λ t. head ∷ entries (length es) ∷ t) (append_assoc (entry_lines 0 es) (retries n ∷ map retry rs) (final ∷ [])) ∙ ap (λ k. head ∷ entries (length es) ∷ (entry_lines 0 es ++ retries k ∷ (map retry rs ++ final ∷ []))) (sym (eqb-true (length rs) n ok));
    })
reads_at g es rs l f = tt

reads_next : (s t : State) (ls : List Line) (l : Line) → IsRead s ls → with_line s l ≡ Some t → IsRead t (ls ++ l ∷ [])
reads_next s t ls l is e =
    subst (λ (ks : List Line). IsRead t (ks ++ l ∷ [])) (sym is.lines) (subst (Reads (lines_at s.stage s.entries s.retries ++ l ∷ [])) e (reads_at s.stage s.entries s.retries l is.fits))

pub read : (s : State) (ls : List Line) → ran start_state ls ≡ Some s → IsRead s ls
read s ls e = kept with_line IsRead reads_next start_state s [] ls (record { fits = (refl, refl); lines = refl }) e
