-- Tables of both versions: the text of one is read as its lines, and no other text is.
use Rattle.fx_table.proofs.Prelude.{◌≡◌, inl, inr, ℕ, Bool, true, false, cond, not, ◌&&◌, ◌||◌, List, [], ◌∷◌, ◌++◌, take, drop, refl, sym, ap, subst, ◌∙◌, Result, Ok, Err, append-nil, All, is_ok, false≢true, not-false, or_parts, take-append-drop, All-nil, All-cons, All-head, All-tail, All-weaker, Store, Mark, Target, Executable, TableLine, mark_text, lines_text, is_flag_mark, has_flags, version_line, table_text, can_mark, read_from, is_second, body_of, first_number, setting_of, read_body, lacks_flags, unless_lacking, read_table, IsLine, AreLinesOver, IsTable, SpellsTable, IsFirstBadOf, IsFirstBadLine, spelling, path_text, bytes_eq-Decides, over}
use Rattle.fx_table.proofs.TableLines.{Stands, lines_are_read, texts_are_lines, lines_are_readable, bad_line_is_first}

-- ---- the version of a text

no_version_first : (path : List (List ℕ)) (mark later : List ℕ) → is_second (((spelling (path_text path) ++ mark) ++ 10 ∷ []) ++ later) ≡ false
no_version_first [] mark later = refl
no_version_first (n ∷ path) mark later = refl

no_version : (lines : List TableLine) → is_second (lines_text lines) ≡ false
no_version [] = refl
no_version (l ∷ lines) = no_version_first l.path (mark_text l.mark) (lines_text lines)

second_by : (b : Bool) (lines : List TableLine) → is_second (cond b version_line [] ++ lines_text lines) ≡ b
second_by true lines = refl
second_by false lines = no_version lines

body_by : (b : Bool) (lines : List TableLine) → body_of (cond b version_line [] ++ lines_text lines) ≡ lines_text lines
body_by true lines = refl
body_by false lines = ap (λ t. cond t (drop 10 (lines_text lines)) (lines_text lines)) (no_version lines)

pub second_is : (lines : List TableLine) → is_second (table_text lines) ≡ has_flags lines
second_is lines = second_by (has_flags lines) lines

pub body_is : (lines : List TableLine) → body_of (table_text lines) ≡ lines_text lines
body_is lines = body_by (has_flags lines) lines

-- a text is the line of its version, if it has one, and the lines behind that
split_by : (text : List ℕ) (b : Bool) → is_second text ≡ b → text ≡ cond b version_line [] ++ cond b (drop 10 text) text
split_by text true is = sym (take-append-drop 10 text) ∙ ap (λ t. t ++ drop 10 text) ((bytes_eq-Decides (take 10 text) version_line).0 is)
split_by text false is = refl

pub split : (text : List ℕ) → text ≡ cond (is_second text) version_line [] ++ body_of text
split text = split_by text (is_second text) refl

-- ---- flags, and the settings that allow them

marks_without : (S : Store) (path : List (List ℕ)) (mark : Mark) → is_flag_mark mark ≡ false → can_mark (over S true) path mark ≡ true → can_mark (over S false) path mark ≡ true
marks_without S path (Target text) plain can = can
marks_without S path Executable plain can = absurd (false≢true (sym plain))

marks_with : (S : Store) (flags : Bool) (path : List (List ℕ)) (mark : Mark) → can_mark (over S flags) path mark ≡ true → can_mark (over S true) path mark ≡ true
marks_with S true path mark can = can
marks_with S false path (Target text) can = can
marks_with S false path Executable can = absurd (false≢true can)

no_mark : (S : Store) (path : List (List ℕ)) (mark : Mark) → can_mark (over S false) path mark ≡ true → is_flag_mark mark ≡ false
no_mark S path (Target text) can = refl
no_mark S path Executable can = absurd (false≢true can)

stand_without : (S : Store) (lines : List TableLine) → has_flags lines ≡ false → All (Stands (over S true)) lines → All (Stands (over S false)) lines
stand_without S [] none all = All-nil (Stands (over S false))
stand_without S (l ∷ lines) none all =
    let both = or_parts (is_flag_mark l.mark) (has_flags lines) none in
    All-cons (Stands (over S false)) l lines (marks_without S l.path l.mark both.0 (All-head (Stands (over S true)) l lines all)) (stand_without S lines both.1 (All-tail (Stands (over S true)) l lines all))

stand_with : (S : Store) (flags : Bool) (lines : List TableLine) → All (Stands (over S flags)) lines → All (Stands (over S true)) lines
stand_with S flags lines all = All-weaker (Stands (over S flags)) (Stands (over S true)) (λ l can. marks_with S flags l.path l.mark can) lines all

none_flagged : (S : Store) (lines : List TableLine) → All (Stands (over S false)) lines → has_flags lines ≡ false
none_flagged S [] all = refl
none_flagged S (l ∷ lines) all =
    ap (λ b. b || has_flags lines) (no_mark S l.path l.mark (All-head (Stands (over S false)) l lines all)) ∙ none_flagged S lines (All-tail (Stands (over S false)) l lines all)

pub over_flags : (S : Store) (lines : List TableLine) (b : Bool) → has_flags lines ≡ b → IsTable S lines → AreLinesOver (over S b) lines
over_flags S lines true is t = t
over_flags S lines false is t = record { valid = t.valid; stand = stand_without S lines is t.stand; ascending = t.ascending }

pub over_all : (S : Store) (lines : List TableLine) (b : Bool) → AreLinesOver (over S b) lines → IsTable S lines
over_all S lines b t = record { valid = t.valid; stand = stand_with S b lines t.stand; ascending = t.ascending }

-- lines that do not lack flags have them where they may
flags_by : (S : Store) (lines : List TableLine) (b : Bool) → AreLinesOver (over S b) lines → (b && not (has_flags lines)) ≡ false → has_flags lines ≡ b
flags_by S lines true t lacks = not-false (has_flags lines) lacks
flags_by S lines false t lacks = none_flagged S lines t.stand

-- ---- a table is read

abbrev Lines : Type 0
Lines = Result (List TableLine) ℕ

pub body_read : (S : Store) (lines : List TableLine) → IsTable S lines → read_body S (table_text lines) ≡ Ok lines
body_read S lines t =
    let text = table_text lines in
    ap (λ b. read_from (over S b) (first_number text) (body_of text)) (second_is lines)
    ∙ (ap (read_from (over S (has_flags lines)) (first_number text)) (body_is lines)
    ∙ lines_are_read (over S (has_flags lines)) (first_number text) lines (over_flags S lines (has_flags lines) refl t))

never_both : (b : Bool) → (b && not b) ≡ false
never_both true = refl
never_both false = refl

pub lacks_none : (lines : List TableLine) → lacks_flags (table_text lines) lines ≡ false
lacks_none lines = ap (λ b. b && not (has_flags lines)) (second_is lines) ∙ never_both (has_flags lines)

pub tables_are_read : (S : Store) (lines : List TableLine) → IsTable S lines → read_table S (table_text lines) ≡ Ok lines
tables_are_read S lines t =
    ap (unless_lacking (table_text lines)) (body_read S lines t) ∙ ap (λ b. cond b (Err 1) (Ok lines)) (lacks_none lines)

-- ---- a text that is read

unlacking : (b : Bool) (found lines : List TableLine) → ◌≡◌ {A = Lines} (cond b (Err 1) (Ok found)) (Ok lines) → (b ≡ false) × (found ≡ lines)
unlacking true found lines e = absurd (false≢true (ap is_ok e))
unlacking false found lines e = (refl, cc)

lacking : (b : Bool) (found : List TableLine) (number : ℕ) → ◌≡◌ {A = Lines} (cond b (Err 1) (Ok found)) (Err number) → (b ≡ true) × (number ≡ 1)
lacking true found number e = (refl, cc)
lacking false found number e = absurd (false≢true (sym (ap is_ok e)))

-- a text whose lines are good and do not lack flags
pub spells : (S : Store) (text : List ℕ) (lines : List TableLine) → AreLinesOver (setting_of S text) lines → body_of text ≡ lines_text lines → lacks_flags text lines ≡ false → SpellsTable S text lines
spells S text lines t body lacks =
    let flags = flags_by S lines (is_second text) t lacks in
    record {
      spelled = split text ∙ (ap (λ t. cond (is_second text) version_line [] ++ t) body ∙ ap (λ b. cond b version_line [] ++ lines_text lines) (sym flags));
      table = over_all S lines (is_second text) t;
    }

pub read_texts_are_tables : (S : Store) (text : List ℕ) (lines : List TableLine) → read_table S text ≡ Ok lines → SpellsTable S text lines
read_texts_are_tables S text lines e = by (read_body S text) refl e
  where
    by : (r : Lines) → read_body S text ≡ r → unless_lacking text r ≡ Ok lines → SpellsTable S text lines
    by (Ok found) is e =
        let both = unlacking (lacks_flags text found) found lines e in
        let all = texts_are_lines (setting_of S text) (first_number text) (body_of text) found is in
        subst (SpellsTable S text) both.1 (spells S text found all.table all.spelled both.0)
    by (Err n) is e = absurd (false≢true (ap is_ok e))

-- ---- the first bad line

abbrev pub stops_in : (S : Store) (text : List ℕ) (number : ℕ) → IsFirstBadOf (setting_of S text) (first_number text) (body_of text) number → IsFirstBadLine S text number
stops_in S text number bad = record { lines = bad.lines; rest = bad.rest; parts = bad.parts; table = bad.table; bad = inl bad.bad }

abbrev pub lacks_in : (S : Store) (text : List ℕ) (lines : List TableLine) → AreLinesOver (setting_of S text) lines → body_of text ≡ lines_text lines → lacks_flags text lines ≡ true → IsFirstBadLine S text 1
lacks_in S text lines t body lacks = record {
  lines = lines;
  rest = [];
  parts = body ∙ sym (append-nil (lines_text lines));
  table = t;
  bad = inr (record { whole = refl; lacks = lacks; place = refl });
}

pub bad_lines_are_first : (S : Store) (text : List ℕ) (number : ℕ) → read_table S text ≡ Err number → IsFirstBadLine S text number
bad_lines_are_first S text number e = by (read_body S text) refl e
  where
    by : (r : Lines) → read_body S text ≡ r → unless_lacking text r ≡ Err number → IsFirstBadLine S text number
    by (Ok found) is e =
        let both = lacking (lacks_flags text found) found number e in
        let all = texts_are_lines (setting_of S text) (first_number text) (body_of text) found is in
        subst (IsFirstBadLine S text) (sym both.1) (lacks_in S text found all.table all.spelled both.0)
    by (Err n) is e =
        let same : n ≡ number = cc in
        subst (IsFirstBadLine S text) same (stops_in S text n (bad_line_is_first (setting_of S text) (first_number text) (body_of text) n is))

-- ---- different lines

pub tables_are_readable : (lines others : List TableLine) → All IsLine lines → All IsLine others → table_text lines ≡ table_text others → lines ≡ others
tables_are_readable lines others p q e = lines_are_readable lines others p q (sym (body_is lines) ∙ (ap body_of e ∙ body_is others))
