-- What two reports with the same text have in common: the transactions of their entries, and their retries.
use Rattle.std.proofs.Common.{◌≡◌, ℕ, ◌+◌, ◌^◌, ◌<◌, IsTrue, not, eqb, List, [], ◌∷◌, ◌++◌, map, length, codes, refl, sym, ap, ◌∙◌, append_assoc, arith}
use Rattle.std.specs.Fmt.{decimal}
use Rattle.std.specs.List.{flat_map}
use Rattle.std.proofs.lemmas.Bool.Decides.{nat_tests}
use Rattle.std.proofs.lemmas.List.{append_cancel_left}
use Rattle.fx_expr.specs.Tree.{Tree}
use Rattle.fx_spec.specs.Plans.{Turn}
use Rattle.fx_machine.specs.declared.retry.Retry.{Retry}
use Rattle.fx_report.specs.Print.{value_text}
use Rattle.fx_report.specs.Report.{end_text, entries_text, entry_line, entry_text, entry_words, field, print_line, report_text, retry_line, retry_words}
use Rattle.fx_report.specs.Readable.{AreRetries, IsHeldReport, IsHeldRetry}
use Rattle.fx_report.specs.declared.printed.PrintedEntry.{PrintedEntry}
use Rattle.fx_read_report.specs.Feeds.{LacksFeed}
use Rattle.fx_read_report.specs.Lines.{entries, entry, print, retries, retry}
use Rattle.fx_read_report.specs.Numbers.{EndsDigits}
use Rattle.fx_read_report.proofs.Digits.{decimal_cancel}
use Rattle.fx_read_report.proofs.Feeds.{line_lacks}
use Rattle.fx_read_report.proofs.FirstBad.{same_line}
use Rattle.fx_read_report.proofs.Readable.{report_cancel}

abbrev first : List ℕ → ℕ
first [] = 0
first (c ∷ x) = c

abbrev rest : List ℕ → List ℕ
rest [] = []
rest (c ∷ x) = x

-- two numerals that differ are not equal
apart : (m n : ℕ) → m ≡ n → IsTrue (not (eqb m n)) → ⊥
apart m n e differ = grind (arith, nat_tests)

-- a field that begins with the same words
field_cancel : (words : List ℕ) (m n : ℕ) (x y : List ℕ) → m < 2 ^ 64 → n < 2 ^ 64 → EndsDigits x → EndsDigits y → field words m ++ x ≡ field words n ++ y → (m ≡ n) × (x ≡ y)
unfolding field
field_cancel words m n x y p q s t e =
    let inner = sym (append_assoc words (decimal m) x) ∙ (e ∙ append_assoc words (decimal n) y) in
    decimal_cancel m n x y p q s t (append_cancel_left words (decimal m ++ x) (decimal n ++ y) inner)

-- a line's end, and what follows it
ended : (a b x y : List ℕ) → LacksFeed a → LacksFeed b → (a ++ codes "\n") ++ x ≡ (b ++ codes "\n") ++ y → (a ≡ b) × (x ≡ y)
ended a b x y p q e = same_line a b x y p q (sym (append_assoc a (codes "\n") x) ∙ (e ∙ append_assoc b (codes "\n") y))

-- outputs

-- the text goes on with no output
abbrev NoPrint : List ℕ → Type 0
NoPrint x = IsTrue (not (eqb (first x) 112))

prints_cut : (vs ws : List Tree) (x y : List ℕ) → NoPrint x → NoPrint y → flat_map print_line vs ++ x ≡ flat_map print_line ws ++ y → x ≡ y
unfolding print_line
prints_cut [] [] x y s t e = e
prints_cut [] (w ∷ ws) x y s t e = absurd (apart (first x) 112 (ap first e) s)
prints_cut (v ∷ vs) [] x y s t e = absurd (apart (first y) 112 (sym (ap first e)) t)
prints_cut (v ∷ vs) (w ∷ ws) x y s t e =
    let a = codes "print " ++ value_text v in
    let b = codes "print " ++ value_text w in
    let parts = sym (append_assoc (a ++ codes "\n") (flat_map print_line vs) x) ∙ (e ∙ append_assoc (b ++ codes "\n") (flat_map print_line ws) y) in
    prints_cut vs ws x y s t (ended a b (flat_map print_line vs ++ x) (flat_map print_line ws ++ y) (line_lacks (print v)) (line_lacks (print w)) parts).1

-- entries

abbrev pub turn_of : PrintedEntry → Turn
turn_of e = (e.shell, e.txn)

-- numbers that are printed whole
pub record IsNumbered (e : PrintedEntry) : Type 0 where
  pub shell : e.shell < 2 ^ 64
  pub txn : e.txn < 2 ^ 64

abbrev pub AreNumbered : List PrintedEntry → Type 0
AreNumbered [] = Unit {0}
AreNumbered (e ∷ es) = IsNumbered e × AreNumbered es

abbrev words_of : ℕ → PrintedEntry → List ℕ
words_of i e = entry_words i e.shell e.txn e.end

entry_form : (a b c d : List ℕ) → ((((a ++ b) ++ c) ++ codes " ") ++ d) ≡ a ++ (b ++ (c ++ (32 ∷ d)))
entry_form a b c d = simp append_assoc

words_cancel : (i : ℕ) (e f : PrintedEntry) → IsNumbered e → IsNumbered f → words_of i e ≡ words_of i f → turn_of e ≡ turn_of f
unfolding field
words_cancel i e f p q same =
    let number = field (codes "entry ") i in
    let b = field (codes " shell ") e.shell in
    let c = field (codes " txn ") e.txn in
    let g = field (codes " shell ") f.shell in
    let h = field (codes " txn ") f.txn in
    let u = 32 ∷ end_text e.end in
    let v = 32 ∷ end_text f.end in
    let parts = sym (entry_form number b c (end_text e.end)) ∙ (same ∙ entry_form number g h (end_text f.end)) in
    let shell = field_cancel (codes " shell ") e.shell f.shell (c ++ u) (h ++ v) p.shell q.shell refl refl (append_cancel_left number (b ++ (c ++ u)) (g ++ (h ++ v)) parts) in
    let txn = field_cancel (codes " txn ") e.txn f.txn u v p.txn q.txn refl refl shell.1 in
    λ k. (shell.0 k, txn.0 k)

entries_form : (l o r x : List ℕ) → ((l ++ o) ++ r) ++ x ≡ l ++ (o ++ (r ++ x))
entries_form l o r x = simp append_assoc

entries_first : (i : ℕ) (es : List PrintedEntry) (x : List ℕ) → NoPrint (entries_text i es ++ 114 ∷ x)
unfolding entry_text entry_line field
entries_first i [] x = refl
entries_first i (e ∷ es) x = refl

entries_cut : (es fs : List PrintedEntry) (i : ℕ) (x y : List ℕ) → AreNumbered es → AreNumbered fs → entries_text i es ++ 114 ∷ x ≡ entries_text i fs ++ 114 ∷ y → (map turn_of es ≡ map turn_of fs) × (x ≡ y)
unfolding entry_text entry_line field
entries_cut [] [] i x y p q e = (refl, ap rest e)
entries_cut [] (f ∷ fs) i x y p q e = absurd (apart 114 101 (ap first e) refl)
entries_cut (d ∷ es) [] i x y p q e = absurd (apart 101 114 (ap first e) refl)
entries_cut (d ∷ es) (f ∷ fs) i x y p q e =
    let a = flat_map print_line d.outputs in
    let b = flat_map print_line f.outputs in
    let u = entries_text (i + 1) es ++ 114 ∷ x in
    let v = entries_text (i + 1) fs ++ 114 ∷ y in
    let parts = sym (entries_form (entry_line i d.shell d.txn d.end) a (entries_text (i + 1) es) (114 ∷ x)) ∙ (e ∙ entries_form (entry_line i f.shell f.txn f.end) b (entries_text (i + 1) fs) (114 ∷ y)) in
    let here = ended (words_of i d) (words_of i f) (a ++ u) (b ++ v) (line_lacks (entry i d.shell d.txn d.end)) (line_lacks (entry i f.shell f.txn f.end)) parts in
    let turn = words_cancel i d f p.0 q.0 here.0 in
    let behind = prints_cut d.outputs f.outputs u v (entries_first (i + 1) es x) (entries_first (i + 1) fs y) here.1 in
    let later = entries_cut es fs (i + 1) x y p.1 q.1 behind in
    (λ k. turn k ∷ later.0 k, later.1)

-- retries

-- the report of no entry and of one retry, which has this line
abbrev around : List ℕ → List ℕ
around l = codes "forest report 1\n" ++ (field (codes "entries ") 0 ++ codes "\n") ++ [] ++ (field (codes "retries ") 1 ++ codes "\n") ++ (l ++ []) ++ codes "end\n"

same_head : (r s : Retry) → r ∷ [] ≡ s ∷ [] → r ≡ s
same_head r s e = cc

one_held : (r : Retry) → IsHeldRetry r → IsHeldReport [] (r ∷ [])
one_held r h = record { entries_fit = omega arith; retries_fit = omega arith; entries_held = tt; retries_held = (h, tt) }

same_retries : (r s : Retry) → IsHeldRetry r → IsHeldRetry s → retry_words r ≡ retry_words s → r ≡ s
unfolding report_text retry_line
same_retries r s p q e =
    let reports : report_text [] (r ∷ []) ≡ report_text [] (s ∷ []) = ap (λ t. around (t ++ codes "\n")) e in
    same_head r s (report_cancel [] [] (r ∷ []) (s ∷ []) (one_held r p) (one_held s q) reports).1

pub retries_cut : (rs ss : List Retry) (x y : List ℕ) → AreRetries rs → AreRetries ss → flat_map retry_line rs ++ 101 ∷ x ≡ flat_map retry_line ss ++ 101 ∷ y → rs ≡ ss
unfolding retry_line field
retries_cut [] [] x y p q e = refl
retries_cut [] (s ∷ ss) x y p q e = absurd (apart 101 114 (ap first e) refl)
retries_cut (r ∷ rs) [] x y p q e = absurd (apart 114 101 (ap first e) refl)
retries_cut (r ∷ rs) (s ∷ ss) x y p q e =
    let parts = sym (append_assoc (retry_line r) (flat_map retry_line rs) (101 ∷ x)) ∙ (e ∙ append_assoc (retry_line s) (flat_map retry_line ss) (101 ∷ y)) in
    let cut = ended (retry_words r) (retry_words s) (flat_map retry_line rs ++ 101 ∷ x) (flat_map retry_line ss ++ 101 ∷ y) (line_lacks (retry r)) (line_lacks (retry s)) parts in
    let here = same_retries r s p.0 q.0 cut.0 in
    let later = retries_cut rs ss x y p.1 q.1 cut.1 in
    λ i. here i ∷ later i

-- whole reports

report_form : (a b e c r z : List ℕ) → ((((a ++ (b ++ codes "\n")) ++ e) ++ (c ++ codes "\n")) ++ r) ++ z ≡ a ++ (b ++ (10 ∷ (e ++ (c ++ (10 ∷ (r ++ z))))))
report_form a b e c r z = simp append_assoc

pub report_cut : (es fs : List PrintedEntry) (rs ss : List Retry) → AreNumbered es → AreNumbered fs → AreRetries rs → AreRetries ss → report_text es rs ≡ report_text fs ss → (map turn_of es ≡ map turn_of fs) × (rs ≡ ss)
unfolding report_text field
report_cut es fs rs ss p q held kept same =
    let head = codes "forest report 1\n" in
    let m = field (codes "entries ") (length es) in
    let n = field (codes "entries ") (length fs) in
    let c = field (codes "retries ") (length rs) in
    let d = field (codes "retries ") (length ss) in
    let u = flat_map retry_line rs ++ codes "end\n" in
    let v = flat_map retry_line ss ++ codes "end\n" in
    let a = entries_text 0 es ++ (c ++ (10 ∷ u)) in
    let b = entries_text 0 fs ++ (d ++ (10 ∷ v)) in
    let parts = sym (report_form head m (entries_text 0 es) c (flat_map retry_line rs) (codes "end\n")) ∙ (same ∙ report_form head n (entries_text 0 fs) d (flat_map retry_line ss) (codes "end\n")) in
    let count = same_line m n a b (line_lacks (entries (length es))) (line_lacks (entries (length fs))) (append_cancel_left head (m ++ (10 ∷ a)) (n ++ (10 ∷ b)) parts) in
    let cut = entries_cut es fs 0 (rest (c ++ (10 ∷ u))) (rest (d ++ (10 ∷ v))) p q count.1 in
    let number = same_line c d u v (line_lacks (retries (length rs))) (line_lacks (retries (length ss))) (ap (λ t. 114 ∷ t) cut.1) in
    (cut.0, retries_cut rs ss (codes "nd\n") (codes "nd\n") held kept number.1)
