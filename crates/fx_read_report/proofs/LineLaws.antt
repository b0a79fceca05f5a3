-- The lines of a report are read as they are spelled.
use Rattle.std.proofs.Common.{◌≡◌, ℕ, zero, suc, ◌^◌, ◌<◌, ◌≤◌, Bool, true, false, nat_le, List, [], ◌∷◌, ◌++◌, length, Some, None, codes, refl, sym, ap, ◌∙◌, append-nil, append_assoc, arith}
use Rattle.std.specs.List.{AllByRecursion}
use Rattle.std.specs.Option.{option_map, option_and_then}
use Rattle.std.specs.Prelude.{bytes_eq}
use Rattle.std.specs.Cmp.Lexicographic.{bytes_decides}
use Rattle.std.proofs.lemmas.Bool.Decides.{nat_tests}
use Rattle.fx_expr.specs.Tree.{Tree, TreeRows, str, int, bool, names, pair, nothing, some, table, no_rows, row}
use Rattle.fx_store.specs.Names.{path_text}
use Rattle.fx_spec.specs.declared.refusal.End.{End}
use Rattle.fx_machine.specs.declared.retry.Retry.{Retry}
use Rattle.fx_report.specs.Print.{quote, value_text}
use Rattle.fx_report.specs.Report.{end_text, field}
use Rattle.fx_read_report.specs.Limits.{Limits, strict}
use Rattle.fx_read_report.specs.Numbers.{EndsDigits}
use Rattle.fx_read_report.specs.Values.{ArePrintedRows, IsPrinted, IsPrintedText, alone, keys_in, value_at}
use Rattle.fx_read_report.specs.declared.values.TheConstants.{VALUE_LEVELS}
use Rattle.fx_read_report.specs.Kinds.{kind_of}
use Rattle.fx_read_report.specs.declared.lines.Kind.{Kind}
use Rattle.fx_read_report.specs.declared.lines.Kind.TheVariants as kind
use Rattle.fx_read_report.specs.Lines.{FindsLine, IsLine, Line, head, entries, entry, print, retries, retry, final, line_text}
use Rattle.fx_read_report.specs.Reads.{entries_at, entry_at, final_at, head_at, only_line, line_by, print_at, retries_at, retry_at}
use Rattle.fx_read_report.proofs.Digits.{after_read}
use Rattle.fx_read_report.proofs.PartLaws.{IsEndIn, IsPathIn, end_read, field_read, last_read, path_read, small_read, strict_end, strict_path}
use Rattle.fx_read_report.proofs.ValueLoops.{ascends_of}
use Rattle.fx_read_report.proofs.ValueLaws.{AreRowsIn, IsIn, IsTextIn, value_read}

field_ends : (words : List ℕ) (n : ℕ) (x : List ℕ) → EndsDigits (codes " " ++ words) → EndsDigits (field (codes " " ++ words) n ++ x)
unfolding field
field_ends words n x s = refl

entry_form : (a b c d : List ℕ) → (((a ++ b) ++ c) ++ codes " ") ++ d ≡ a ++ (b ++ (c ++ (codes " " ++ d)))
entry_form a b c d = simp append_assoc

entry_read : (m : Limits) (i k j : ℕ) (e : End) → i < 2 ^ 64 → k < 2 ^ 32 → j < 2 ^ 32 → IsEndIn m e → entry_at m (line_text (entry i k j e)) ≡ Some (entry i k j e)
unfolding entry_at
entry_read m i k j e p q r s =
    let end_ = codes " " ++ end_text e in
    let txn = field (codes " txn ") j ++ end_ in
    let shell = field (codes " shell ") k ++ txn in
    rw (
      entry_form (field (codes "entry ") i) (field (codes " shell ") k) (field (codes " txn ") j) (end_text e),
      field_read (codes "entry ") i shell p (field_ends (codes "shell ") k txn refl),
      small_read (codes " shell ") k txn q (field_ends (codes "txn ") j end_ refl),
      small_read (codes " txn ") j end_ r refl,
      after_read (codes " ") (end_text e),
      end_read m e s,
    ) refl

-- retries

retry_form : (a b c d : List ℕ) → (((a ++ b) ++ c) ++ codes " path ") ++ d ≡ a ++ (b ++ (c ++ (codes " path " ++ d)))
retry_form a b c d = simp append_assoc

-- a retry whose numbers fit and whose path a reader takes
pub record IsRetryIn (limits : Limits) (r : Retry) : Type 0 where
  pub shell : r.shell < 2 ^ 32
  pub txn : r.txn < 2 ^ 32
  pub entry : r.entry < 2 ^ 64
  pub path : IsPathIn limits r.path

retry_read : (m : Limits) (r : Retry) → IsRetryIn m r → retry_at m (line_text (retry r)) ≡ Some (retry r)
unfolding retry_at
retry_read m r p =
    let path = codes " path " ++ quote (path_text r.path) in
    let number = field (codes " entry ") r.entry ++ path in
    let txn = field (codes " txn ") r.txn ++ number in
    rw (
      retry_form (field (codes "retry shell ") r.shell) (field (codes " txn ") r.txn) (field (codes " entry ") r.entry) (quote (path_text r.path)),
      small_read (codes "retry shell ") r.shell txn p.shell (field_ends (codes "txn ") r.txn number refl),
      small_read (codes " txn ") r.txn number p.txn (field_ends (codes "entry ") r.entry path refl),
      field_read (codes " entry ") r.entry path p.entry refl,
      after_read (codes " path ") (quote (path_text r.path)),
      path_read m r.path p.path,
    ) refl

-- ---- kinds

abbrev kind_in : Line → Kind
kind_in head = kind.Head
kind_in (entries n) = kind.Entries
kind_in (entry i k j e) = kind.Entry
kind_in (print v) = kind.Print
kind_in (retries n) = kind.Retries
kind_in (retry r) = kind.Retry
kind_in final = kind.Final

line_kind : (l : Line) → kind_of (line_text l) ≡ kind_in l
unfolding kind_of field
line_kind head = refl
line_kind l = refl

-- ---- the line of a text

-- a line that a reader reads
abbrev pub IsLineIn : Limits → ℕ → Line → Type 0
IsLineIn m levels head = Unit {0}
IsLineIn m levels (entries n) = n < 2 ^ 64
IsLineIn m levels (entry i shell txn end) = (i < 2 ^ 64) × (shell < 2 ^ 32) × (txn < 2 ^ 32) × IsEndIn m end
IsLineIn m levels (print v) = IsIn m levels v
IsLineIn m levels (retries n) = n < 2 ^ 64
IsLineIn m levels (retry r) = IsRetryIn m r
IsLineIn m levels final = Unit {0}

whole_value : (m : Limits) (levels : ℕ) (v : Tree) → IsIn m levels v → value_at m levels (value_text v) ≡ Some (v, [])
whole_value m levels v p = ap (value_at m levels) (sym (append-nil (value_text v))) ∙ value_read m levels v [] p tt

of_kind : (m : Limits) (levels : ℕ) (l : Line) → IsLineIn m levels l → line_by m levels (kind_in l) (line_text l) ≡ Some l
unfolding head_at entries_at print_at retries_at final_at
of_kind m levels head p = refl
of_kind m levels (entries n) p = ap (option_map entries) (last_read (codes "entries ") n p)
of_kind m levels (entry i s t e) p = entry_read m i s t e p.0 p.1 p.2 p.3
of_kind m levels (print v) p =
    ap (λ o. option_map print (option_and_then (λ rest. alone (value_at m levels rest)) o)) (after_read (codes "print ") (value_text v))
    ∙ ap (λ o. option_map print (alone o)) (whole_value m levels v p)
of_kind m levels (retries n) p = ap (option_map retries) (last_read (codes "retries ") n p)
of_kind m levels (retry r) p = retry_read m r p
of_kind m levels final p = refl

line_read : (m : Limits) (levels : ℕ) (l : Line) → IsLineIn m levels l → only_line m levels (line_text l) ≡ Some l
line_read m levels l p = ap (λ k. line_by m levels k (line_text l)) (line_kind l) ∙ of_kind m levels l p

-- the text of a line tells the line
pub one_line_in : (m : Limits) (levels : ℕ) (l k : Line) → IsLineIn m levels l → IsLineIn m levels k → line_text l ≡ line_text k → l ≡ k
one_line_in m levels l k p q e =
    let same : Some l ≡ Some k = sym (line_read m levels l p) ∙ (ap (only_line m levels) e ∙ line_read m levels k q) in
    cc

-- ---- the lines of the form

strict_text : (t : List ℕ) → IsPrintedText t → IsTextIn strict t
strict_text t p = record { bytes = p.bytes; taken = le_true (length t) p.short }
  where
    le_true : (n : ℕ) → n ≤ 1048576 → nat_le n 1048576 ≡ true
    le_true n h = grind (arith, nat_tests)

strict_texts : (ts : List (List ℕ)) → AllByRecursion IsPrintedText ts → AllByRecursion (IsTextIn strict) ts
strict_texts [] p = tt
strict_texts (t ∷ ts) p = (strict_text t p.0, strict_texts ts p.1)

mutual
  strict_value : (levels : ℕ) (v : Tree) → IsPrinted levels v → IsIn strict levels v
  strict_value zero v p = absurd p
  strict_value (suc l) (str t) p = strict_text t p
  strict_value (suc l) (int n) p = p
  strict_value (suc l) (bool b) p = tt
  strict_value (suc l) (names ts) p = (strict_texts ts p.0, ascends_of ts p.1)
  strict_value (suc l) (pair a b) p = (strict_value l a p.0, strict_value l b p.1)
  strict_value (suc l) nothing p = tt
  strict_value (suc l) (some a) p = strict_value l a p
  strict_value (suc l) (table rs) p = (strict_rows l rs p.0, ascends_of (keys_in rs) p.1)

  strict_rows : (levels : ℕ) (rs : TreeRows) → ArePrintedRows levels rs → AreRowsIn strict levels rs
  strict_rows l no_rows p = tt
  strict_rows l (row k v rs) p = (strict_text k p.0, strict_value l v p.1, strict_rows l rs p.2)

strict_line : (l : Line) → IsLine l → IsLineIn strict VALUE_LEVELS l
strict_line head p = tt
strict_line (entries n) p = p
strict_line (entry i s t e) p = (p.0, p.1, p.2, strict_end e p.3)
strict_line (print v) p = strict_value VALUE_LEVELS v p
strict_line (retries n) p = p
strict_line (retry r) p = record { shell = p.shell; txn = p.txn; entry = p.entry; path = strict_path r.path p.path }
strict_line final p = tt

pub one_line : (l k : Line) → IsLine l → IsLine k → line_text l ≡ line_text k → l ≡ k
one_line l k p q e = one_line_in strict VALUE_LEVELS l k (strict_line l p) (strict_line k q) e

-- ---- what is read, printed again

told : (text : List ℕ) (l : Line) → IsLine l → text ≡ line_text l → only_line strict VALUE_LEVELS text ≡ Some l
told text l p e = ap (only_line strict VALUE_LEVELS) e ∙ line_read strict VALUE_LEVELS l (strict_line l p)

pub found_none : (text : List ℕ) → None ≡ only_line strict VALUE_LEVELS text → FindsLine text None
found_none text none l p e = let wrong : None ≡ Some l = none ∙ told text l p e in absurd (cc)

pub found_same : (text : List ℕ) (l : Line) (b : Bool) → IsLine l → b ≡ bytes_eq (line_text l) text → b ≡ true → FindsLine text (Some l)
found_same text l b is e t = (is, sym ((bytes_decides (line_text l) text).0 (sym e ∙ t)))

pub found_other : (text : List ℕ) (l : Line) (b : Bool) → Some l ≡ only_line strict VALUE_LEVELS text → b ≡ bytes_eq (line_text l) text → b ≡ false → FindsLine text None
found_other text l b found e f k p s =
    let same : Some l ≡ Some k = found ∙ told text k p s in
    let is : l ≡ k = cc in
    let spelled : bytes_eq (line_text l) text ≡ true = (bytes_decides (line_text l) text).1 (ap line_text is ∙ sym s) in
    let wrong : true ≡ false = sym spelled ∙ (sym e ∙ f) in
    absurd (cc)
