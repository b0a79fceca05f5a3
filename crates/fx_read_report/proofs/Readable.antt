-- Printed texts are read in one way: a reader without the limits of a report reads each of them.
use Rattle.std.proofs.Common.{◌≡◌, ℕ, zero, suc, ◌+◌, ◌^◌, ◌<◌, ◌≤◌, true, false, All, List, [], ◌∷◌, ◌++◌, map, length, Some, refl, sym, ap, subst, ◌∙◌, append-nil, arith, lit<}
use Rattle.std.specs.List.{AllByRecursion, flat_map, slice_split}
use Rattle.std.proofs.lemmas.List.Elements.{All-nil, All-cons}
use Rattle.std.proofs.lemmas.List.Splits.{slice_split_none, slice_split_at}
use Rattle.std.proofs.lemmas.Option.{some_pair_parts}
use Rattle.fx_base.proofs.Lists.{all_both}
use Rattle.fx_expr.specs.Tree.{Tree, TreeRows, str, int, bool, names, pair, nothing, some, table, no_rows, row}
use Rattle.fx_store.specs.Names.{components, is_slash, path_text}
use Rattle.fx_spec.specs.declared.refusal.End.{End}
use Rattle.fx_spec.specs.declared.refusal.End.TheVariants as end
use Rattle.fx_machine.specs.declared.retry.Retry.{Retry}
use Rattle.fx_report.specs.Print.{quote, value_text}
use Rattle.fx_report.specs.Readable.{AreBytes, AreEntries, AreEntryNames, AreHeld, AreRetries, AreTexts, AreTrees, IsEntryName, IsHeld, IsHeldEnd, IsHeldRefusal, IsHeldReport, LacksSlash}
use Rattle.fx_report.specs.Report.{report_text}
use Rattle.fx_report.specs.declared.printed.PrintedEntry.{PrintedEntry}
use Rattle.fx_read_report.specs.Form.{IsReportOf}
use Rattle.fx_read_report.specs.Limits.{Limits}
use Rattle.fx_read_report.specs.Lines.{IsLine, Line, entry, print, retries, retry, final, line_text}
use Rattle.fx_read_report.specs.Quotes.{unquoted}
use Rattle.fx_read_report.specs.Values.{value_at}
use Rattle.fx_read_report.proofs.LineLaws.{IsLineIn, one_line, one_line_in}
use Rattle.fx_read_report.proofs.PartLaws.{IsEndIn, IsPathIn}
use Rattle.fx_read_report.proofs.Running.{one_list}
use Rattle.fx_read_report.proofs.Scans.{quote_read}
use Rattle.fx_read_report.proofs.FirstBad.{same_lines}
use Rattle.fx_read_report.proofs.Texts.{entry_lines, reading, report_is, report_lines, report_lines_are}
use Rattle.fx_read_report.proofs.ValueLaws.{AreRowsIn, IsIn, IsTextIn, value_read}

abbrev free : Limits
free = record { takes_text = λ text. true; takes_set = λ texts. true; path_of = λ text. Some (components text) }

-- ---- values, whose size is the number of values inside

abbrev mutual
  size : Tree → ℕ
  size (pair a b) = suc (size a + size b)
  size (some a) = suc (size a)
  size (table rows) = suc (rows_size rows)
  size other = 0

  rows_size : TreeRows → ℕ
  rows_size no_rows = 0
  rows_size (row key v rest) = size v + rows_size rest

texts_in : (ts : List (List ℕ)) → AreTexts ts → AllByRecursion (IsTextIn free) ts
texts_in [] p = tt
texts_in (t ∷ ts) p = (record { bytes = p.0; taken = refl }, texts_in ts p.1)

mutual
  held_in : (v : Tree) (n : ℕ) → IsHeld v → size v ≤ n → IsIn free (suc n) v
  held_in (str t) n p h = record { bytes = p; taken = refl }
  held_in (int z) n p h = p
  held_in (bool b) n p h = tt
  held_in (names ts) n p h = (texts_in ts p, refl)
  held_in (pair a b) zero p h = absurd (omega (arith, h))
  held_in (pair a b) (suc n) p h = (held_in a n p.0 (omega (arith, h)), held_in b n p.1 (omega (arith, h)))
  held_in nothing n p h = tt
  held_in (some a) zero p h = absurd (omega (arith, h))
  held_in (some a) (suc n) p h = held_in a n p (omega (arith, h))
  held_in (table rows) zero p h = absurd (omega (arith, h))
  held_in (table rows) (suc n) p h = (rows_in rows n p (omega (arith, h)), refl)

  rows_in : (rows : TreeRows) (n : ℕ) → AreHeld rows → rows_size rows ≤ n → AreRowsIn free (suc n) rows
  rows_in no_rows n p h = tt
  rows_in (row k v rows) n p h = (record { bytes = p.0; taken = refl }, held_in v n p.1 (omega (arith, h)), rows_in rows n p.2 (omega (arith, h)))

pub one_quote : (a b x y : List ℕ) → AreBytes a → AreBytes b → quote a ++ x ≡ quote b ++ y → (a ≡ b) × (x ≡ y)
one_quote a b x y p q e = some_pair_parts a b x y (sym (quote_read a x p) ∙ (ap unquoted e ∙ quote_read b y q))

pub one_value : (v w : Tree) → IsHeld v → IsHeld w → value_text v ≡ value_text w → v ≡ w
one_value v w p q e =
    let n = size v + size w in
    let read = value_at free (suc n) in
    let whole : value_text v ++ [] ≡ value_text w ++ [] = ap (λ t. t ++ []) e in
    (some_pair_parts v w [] [] (sym (value_read free (suc n) v [] (held_in v n p (omega arith)) tt) ∙ (ap read whole ∙ value_read free (suc n) w [] (held_in w n q (omega arith)) tt))).0

-- ---- paths

no_slash : (name : List ℕ) → LacksSlash name → All (λ b. is_slash b ≡ false) name
no_slash [] p = All-nil (λ b. is_slash b ≡ false)
no_slash (b ∷ name) p = All-cons (λ b. is_slash b ≡ false) b name p.1 (no_slash name p.2)

entry_name : (name : List ℕ) → IsEntryName name → LacksSlash name
entry_name [] p = absurd p
entry_name (b ∷ name) p = p

abbrev names_text : List (List ℕ) → List ℕ
names_text path = flat_map (λ n. 47 ∷ n) path

split_names : (n : List ℕ) (ns : List (List ℕ)) → LacksSlash n → AreEntryNames ns → slice_split is_slash (n ++ names_text ns) ≡ n ∷ ns
split_names n [] p q = ap (slice_split is_slash) (append-nil n) ∙ slice_split_none is_slash n (no_slash n p)
split_names n (m ∷ ns) p q = slice_split_at is_slash n 47 (m ++ names_text ns) (no_slash n p) refl ∙ ap (λ ps. n ∷ ps) (split_names m ns (entry_name m q.0) q.1)

names_read : (path : List (List ℕ)) → AreEntryNames path → components (path_text path) ≡ path
names_read [] p = refl
names_read ([] ∷ ns) p = absurd p.0
names_read ((b ∷ n) ∷ ns) p = split_names (b ∷ n) ns p.0 p.1

bytes_append : (x y : List ℕ) → LacksSlash x → AreBytes y → AreBytes (x ++ y)
bytes_append [] y p q = q
bytes_append (b ∷ x) y p q = (p.0, bytes_append x y p.2 q)

names_bytes : (path : List (List ℕ)) → AreEntryNames path → AreBytes (names_text path)
names_bytes [] p = tt
names_bytes (n ∷ path) p = (lit< tt, bytes_append n (names_text path) (entry_name n p.0) (names_bytes path p.1))

path_bytes : (path : List (List ℕ)) → AreEntryNames path → AreBytes (path_text path)
path_bytes [] p = (lit< tt, tt)
path_bytes (n ∷ path) p = names_bytes (n ∷ path) p

path_in : (path : List (List ℕ)) → AreEntryNames path → IsPathIn free path
path_in path p = record { bytes = path_bytes path p; taken = ap Some (names_read path p) }

-- ---- lines

end_in : (e : End) → IsHeldEnd e → IsEndIn free e
end_in end.Done p = tt
end_in (end.Stopped c r) p = (p.0, λ path e. path_in path (subst IsHeldRefusal e p.1))
end_in end.Aborted p = tt

abbrev line_size : Line → ℕ
line_size (print v) = size v
line_size other = 0

-- a line that a reader of enough levels reads
abbrev IsHeldLine : Line → Type 0
IsHeldLine l = (n : ℕ) → line_size l ≤ n → IsLineIn free (suc n) l

held_one : (l k : Line) → IsHeldLine l → IsHeldLine k → line_text l ≡ line_text k → l ≡ k
held_one l k p q e =
    let n = line_size l + line_size k in
    one_line_in free (suc n) l k (p n (omega arith)) (q n (omega arith)) e

prints_held : (vs : List Tree) → AreTrees vs → AllByRecursion IsHeldLine (map print vs)
prints_held [] p = tt
prints_held (v ∷ vs) p = (λ n h. held_in v n p.0 h, prints_held vs p.1)

entries_held : (i : ℕ) (es : List PrintedEntry) → i + length es < 2 ^ 64 → AreEntries es → AllByRecursion IsHeldLine (entry_lines i es)
entries_held i [] few p = tt
entries_held i (e ∷ es) few p =
    (λ n h. (omega arith, p.0.shell, p.0.txn, end_in e.end p.0.ended), all_both IsHeldLine (map print e.outputs) (entry_lines (i + 1) es) (prints_held e.outputs p.0.outputs) (entries_held (i + 1) es (omega arith) p.1))

retries_held : (rs : List Retry) → AreRetries rs → AllByRecursion IsHeldLine (map retry rs)
retries_held [] p = tt
retries_held (r ∷ rs) p = (λ n h. record { shell = p.0.shell; txn = p.0.txn; entry = p.0.entry; path = path_in r.path p.0.path }, retries_held rs p.1)

report_held : (es : List PrintedEntry) (rs : List Retry) → IsHeldReport es rs → AllByRecursion IsHeldLine (report_lines es rs)
report_held es rs f =
    let ends = all_both IsHeldLine (map retry rs) (final ∷ []) (retries_held rs f.retries_held) (λ n h. tt, tt) in
    (λ n h. tt, (λ n h. f.entries_fit, all_both IsHeldLine (entry_lines 0 es) (retries (length rs) ∷ (map retry rs ++ final ∷ [])) (entries_held 0 es (let fit = f.entries_fit in omega arith) f.entries_held) (λ n h. f.retries_fit, ends)))

-- ---- whole reports

by_lines : (Is : Line → Type 0) → ((l k : Line) → Is l → Is k → line_text l ≡ line_text k → l ≡ k) → (es fs : List PrintedEntry) (rs ss : List Retry) → AllByRecursion Is (report_lines es rs) → AllByRecursion Is (report_lines fs ss) → report_text es rs ≡ report_text fs ss → (es ≡ fs) × (rs ≡ ss)
by_lines Is one es fs rs ss p q e = one_list es fs rs ss (same_lines (reading Is one) (report_lines es rs) (report_lines fs ss) p q (sym (report_is es rs) ∙ (e ∙ report_is fs ss)))

pub report_cancel : (es fs : List PrintedEntry) (rs ss : List Retry) → IsHeldReport es rs → IsHeldReport fs ss → report_text es rs ≡ report_text fs ss → (es ≡ fs) × (rs ≡ ss)
report_cancel es fs rs ss p q e = by_lines IsHeldLine held_one es fs rs ss (report_held es rs p) (report_held fs ss q) e

-- bytes are the report of one list of entries and one of retries at most
pub one_report : (bytes : List ℕ) (es fs : List PrintedEntry) (rs ss : List Retry) → IsReportOf bytes es rs → IsReportOf bytes fs ss → (es ≡ fs) × (rs ≡ ss)
one_report bytes es fs rs ss a b = by_lines IsLine one_line es fs rs ss (report_lines_are es rs a.form) (report_lines_are fs ss b.form) (sym a.spelled ∙ b.spelled)
