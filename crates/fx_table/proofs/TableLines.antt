-- The lines of a table are read back, and no other text is read.
use Rattle.fx_table.proofs.Prelude.{first_true, second_true, All-at, at_middle, same_heads, chosen_ok, chosen_some, Parts, above_from_ascending, ascending-push, path_bytes, read_path_text, path_texts_read, read_link, read_path, IsLinkText, IsPath, components, has_link_form, is_above, path_cmp, path_text, path_total, PathFault, TooDeep, IsStopped, AreLinesOver, Executable, IsLine, IsMark, IsTableBehind, Mark, Setting, TableLine, Target, flag_by, has_place, is_feed, is_space, line_of, lines_text, link_by, mark_text, next_line, read_from, read_line, read_lines, read_of, read_on, read_parts, with_first, IsFirstBadOf, spelling, unspelled, All, Bool, Err, IsTrue, List, None, Ok, Option, Result, Some, [], ap, append-nil, append_assoc, arith, codes, cond, false, is_some, length, length-append, map, refl, subst, sym, true, ℕ, ◌&&◌, ◌++◌, ◌+◌, ◌<◌, ◌==◌, ◌∙◌, ◌∷◌, ◌≡◌, ◌≤◌, and_from, false≢true, nat_tests, map-append, All-append, All-cons, All-head, All-nil, All-push, All-tail, All-weaker, join_with_byte-slice_split, length-slice_split, slice_split_at, slice_split_none, same_Some, bytes_eq-Decides, cons_option, filter_map, join_with_byte, slice_split, IsStrictlySortedBy, is_lt, bytes_eq, is_ok, nat_lt, result_ok}
use Rattle.fx_store.specs.declared.name.PathFault.TheVariants.{BadName}
use Rattle.fx_table.proofs.TableSpelling.{spelling_read, read_spelling, spelling_visible}

-- ---- paths and link texts

few : {A : Type 0} (n : ℕ) (x : Result A PathFault) (f : PathFault) → n ≤ 64 → cond (nat_lt 64 n) (Err f) x ≡ x
few n x f h = grind (arith, nat_tests)

spared_ok : {A : Type 0} (b : Bool) (x : A) (f : PathFault) (a : A) → cond b (Err f) (Ok x) ≡ Ok a → (b ≡ false) × (x ≡ a)
spared_ok true x f a e = absurd (false≢true (ap is_ok e))
spared_ok false x f a e = (refl, cc)

not_many : (n : ℕ) → nat_lt 64 n ≡ false → n ≤ 64
not_many n h = grind (arith, nat_tests)

-- what was read was read from bytes
read_from_bytes : {A : Type 0} (read : List ℕ → Result A PathFault) (o : Option (List ℕ)) (a : A) → read_of read o ≡ Some a → (bytes : List ℕ) × (o ≡ Some bytes) × (read bytes ≡ Ok a)
read_from_bytes read None a e = cc
read_from_bytes {A} read (Some bytes) a e = (bytes, refl, by (read bytes) e)
  where
    by : (r : Result A PathFault) → result_ok r ≡ Some a → r ≡ Ok a
    by (Ok b) e = let same : b ≡ a = cc in ap (λ x. Ok x) same
    by (Err fault) e = cc

-- what a spelled path is read from
path_of_read : (spelled : List ℕ) (p : Parts) → read_of read_path (unspelled spelled) ≡ Some p → (spelling (path_text p) ≡ spelled) × IsPath p
path_of_read spelled p e =
    let from = read_from_bytes read_path (unspelled spelled) p e in
    let law = path_texts_read from.0 p in
    let spells = law.spells from.2 in
    let deep = spared_ok (nat_lt 64 (length p)) p TooDeep p (sym (law.reads spells) ∙ from.2) in
    (ap spelling spells.spelled ∙ (read_spelling spelled from.0 from.1).spelled, record { names = spells.names; short = not_many (length p) deep.0 })

read_link_text : (text : List ℕ) → IsLinkText text → read_link text ≡ Ok text
read_link_text text link =
    ap (λ b. cond b (cond (nat_lt 64 (length (components text))) (Err TooDeep) (Ok text)) (Err BadName)) link.form
    ∙ few (length (components text)) (Ok text) TooDeep link.short

link_of_read : (spelled link : List ℕ) → read_of read_link (unspelled spelled) ≡ Some link → (spelling link ≡ spelled) × IsLinkText link
link_of_read spelled link e =
    let from = read_from_bytes read_link (unspelled spelled) link e in
    let text = from.0 in
    let is = read_spelling spelled text from.1 in
    let form = chosen_ok (has_link_form text) (cond (nat_lt 64 (length (components text))) (Err TooDeep) (Ok text)) BadName link from.2 in
    let deep = spared_ok (nat_lt 64 (length (components text))) text TooDeep link form.1 in
    (ap spelling (sym deep.1) ∙ is.spelled, subst IsLinkText deep.1 (record { form = form.0; short = not_many (length (components text)) deep.0; bytes = is.bytes }))

-- ---- a line

-- a byte that no spelling has
lacks : (c : ℕ) → c < 33 → (bs : List ℕ) → All (λ b. (b == c) ≡ false) (spelling bs)
lacks c low bs = All-weaker (λ b. 33 ≤ b) (λ b. (b == c) ≡ false) (λ b h. grind (arith, nat_tests)) (spelling bs) (spelling_visible bs)

no_space : (bs : List ℕ) → All (λ b. is_space b ≡ false) (spelling bs)
no_space bs = lacks 32 (omega arith) bs

arrow_has_none : All (λ b. is_space b ≡ false) (codes "->")
arrow_has_none = All-cons (λ b. is_space b ≡ false) 45 (62 ∷ []) refl (All-cons (λ b. is_space b ≡ false) 62 [] refl (All-nil (λ b. is_space b ≡ false)))

line_parts : (path : Parts) (text : List ℕ) → slice_split is_space (spelling (path_text path) ++ (codes " -> " ++ spelling text)) ≡ spelling (path_text path) ∷ codes "->" ∷ spelling text ∷ []
line_parts path text =
    slice_split_at is_space (spelling (path_text path)) 32 (codes "-> " ++ spelling text) (no_space (path_text path)) refl
    ∙ ap (λ ps. spelling (path_text path) ∷ ps)
    (slice_split_at is_space (codes "->") 32 (spelling text) arrow_has_none refl
    ∙ ap (λ ps. codes "->" ∷ ps) (slice_split_none is_space (spelling text) (no_space text)))

flag_parts : (path : Parts) → slice_split is_space (spelling (path_text path) ++ codes " *") ≡ spelling (path_text path) ∷ codes "*" ∷ []
flag_parts path = slice_split_at is_space (spelling (path_text path)) 32 (codes "*") (no_space (path_text path)) refl

marked_read : (path : Parts) (mark : Mark) → IsPath path → IsMark mark → read_line (spelling (path_text path) ++ mark_text mark) ≡ Some (record { path = path; mark = mark })
marked_read path (Target text) valid is =
    ap read_parts (line_parts path text)
    ∙ (ap (λ p. link_by (read_of read_path p) (read_of read_link (unspelled (spelling text)))) (spelling_read (path_text path) (path_bytes path valid.names))
    ∙ (ap (λ t. link_by (result_ok (read_path (path_text path))) (read_of read_link t)) (spelling_read text is.bytes)
    ∙ (ap (λ r. link_by (result_ok r) (result_ok (read_link text))) (read_path_text path valid) ∙ ap (λ r. link_by (Some path) (result_ok r)) (read_link_text text is))))
marked_read path Executable valid is =
    ap read_parts (flag_parts path)
    ∙ (ap (λ p. flag_by (read_of read_path p)) (spelling_read (path_text path) (path_bytes path valid.names)) ∙ ap (λ r. flag_by (result_ok r)) (read_path_text path valid))

pub line_read : (l : TableLine) → IsLine l → read_line (line_of l) ≡ Some l
line_read l valid = marked_read l.path l.mark valid.path valid.mark

-- the line of a path and of what is said of it, within its limits
pub record IsLineOf (line : List ℕ) (l : TableLine) : Type 0 where
  pub spelled : line ≡ line_of l
  pub valid : IsLine l

link_is : (a b : List ℕ) (x : Option Parts) (y : Option (List ℕ)) (l : TableLine) → read_of read_path (unspelled a) ≡ x → read_of read_link (unspelled b) ≡ y → link_by x y ≡ Some l → IsLineOf (a ++ (codes " -> " ++ b)) l
link_is a b (Some p) (Some t) l e f is =
    let path = path_of_read a p e in
    let text = link_of_read b t f in
    subst (IsLineOf (a ++ (codes " -> " ++ b))) (same_Some _ l is)
    (record { spelled = (λ i. sym path.0 i ++ (codes " -> " ++ sym text.0 i)); valid = record { path = path.1; mark = text.1 } })
link_is a b (Some p) None l e f is = absurd (false≢true (ap is_some is))
link_is a b None y l e f is = absurd (false≢true (ap is_some is))

flag_is : (a : List ℕ) (x : Option Parts) (l : TableLine) → read_of read_path (unspelled a) ≡ x → flag_by x ≡ Some l → IsLineOf (a ++ codes " *") l
flag_is a (Some p) l e is =
    let path = path_of_read a p e in
    subst (IsLineOf (a ++ codes " *")) (same_Some _ l is)
    (record { spelled = ap (λ t. t ++ codes " *") (sym path.0); valid = record { path = path.1; mark = tt } })
flag_is a None l e is = absurd (false≢true (ap is_some is))

parts_are : (parts : List (List ℕ)) (l : TableLine) → read_parts parts ≡ Some l → IsLineOf (join_with_byte 32 parts) l
parts_are [] l is = absurd (false≢true (ap is_some is))
parts_are (a ∷ []) l is = absurd (false≢true (ap is_some is))
parts_are (a ∷ star ∷ []) l is =
    let both = chosen_some (bytes_eq star (codes "*")) (flag_by (read_of read_path (unspelled a))) l is in
    subst (λ m. IsLineOf (a ++ 32 ∷ m) l) (sym ((bytes_eq-Decides star (codes "*")).0 both.0)) (flag_is a _ l refl both.1)
parts_are (a ∷ arrow ∷ b ∷ []) l is =
    let both = chosen_some (bytes_eq arrow (codes "->")) (link_by (read_of read_path (unspelled a)) (read_of read_link (unspelled b))) l is in
    subst (λ m. IsLineOf (a ++ 32 ∷ (m ++ 32 ∷ b)) l) (sym ((bytes_eq-Decides arrow (codes "->")).0 both.0)) (link_is a b _ _ l refl refl both.1)
parts_are (a ∷ b ∷ c ∷ d ∷ more) l is = absurd (false≢true (ap is_some is))

pub line_is : (line : List ℕ) (l : TableLine) → read_line line ≡ Some l → IsLineOf line l
line_is line l is = subst (λ t. IsLineOf t l) (join_with_byte-slice_split 32 line) (parts_are (slice_split is_space line) l is)

-- ---- a table

mark_feedless : (mark : Mark) → All (λ b. is_feed b ≡ false) (mark_text mark)
mark_feedless (Target text) =
    All-cons (λ b. is_feed b ≡ false) 32 (codes "-> " ++ spelling text) refl
    (All-cons (λ b. is_feed b ≡ false) 45 (codes "> " ++ spelling text) refl
    (All-cons (λ b. is_feed b ≡ false) 62 (codes " " ++ spelling text) refl (All-cons (λ b. is_feed b ≡ false) 32 (spelling text) refl (lacks 10 (omega arith) text))))
mark_feedless Executable = All-cons (λ b. is_feed b ≡ false) 32 (42 ∷ []) refl (All-cons (λ b. is_feed b ≡ false) 42 [] refl (All-nil (λ b. is_feed b ≡ false)))

-- the first line, and those behind it
cut : (l : TableLine) (later : List ℕ) → slice_split is_feed (line_of l ++ 10 ∷ later) ≡ line_of l ∷ slice_split is_feed later
cut l later = slice_split_at is_feed (line_of l) 10 later (All-append (λ b. is_feed b ≡ false) (spelling (path_text l.path)) (mark_text l.mark) (lacks 10 (omega arith) (path_text l.path)) (mark_feedless l.mark)) refl

pub first_line : (l : TableLine) (text : List ℕ) → slice_split is_feed ((line_of l ++ 10 ∷ []) ++ text) ≡ line_of l ∷ slice_split is_feed text
first_line l text = ap (slice_split is_feed) (append_assoc (line_of l) (10 ∷ []) text) ∙ cut l text

pub some_line : (text : List ℕ) → 0 < length (slice_split is_feed text)
some_line text = omega (arith, length-slice_split is_feed text)

-- a line with its line feed
read_more : (S : Setting) (before : Parts) (number : ℕ) (line : List ℕ) (lines : List (List ℕ)) → 0 < length lines
    → read_lines S before number (line ∷ lines) ≡ read_on number (next_line S before (read_line line)) (λ link. read_lines S link.path (number + 1) lines)
read_more S before number line [] some = absurd (omega arith)
read_more S before number [] (next ∷ lines) some = refl
read_more S before number (b ∷ line) (next ∷ lines) some = refl

abbrev pub Stands : Setting → TableLine → Type 0
Stands S l = IsTrue (has_place S l)

-- the first link of a table and the others
first_stands : (S : Setting) (before : Parts) (l : TableLine) (ls : List TableLine) → IsTableBehind S before (l ∷ ls) → next_line S before (Some l) ≡ Some l
unfolding IsStrictlySortedBy
first_stands S before l ls t =
    ap (λ b. cond b (Some l) None) (and_from (is_lt (path_cmp before l.path)) (has_place S l) (ap is_lt t.ascending.0.0) (All-head (Stands S) l ls t.stand))

others_stand : (S : Setting) (before : Parts) (l : TableLine) (ls : List TableLine) → IsTableBehind S before (l ∷ ls) → IsTableBehind S l.path ls
unfolding IsStrictlySortedBy
others_stand S before l ls t = record { valid = All-tail IsLine l ls t.valid; stand = All-tail (Stands S) l ls t.stand; ascending = t.ascending.1 }

table_read : (S : Setting) (before : Parts) (number : ℕ) (ls : List TableLine) → IsTableBehind S before ls → read_lines S before number (slice_split is_feed (lines_text ls)) ≡ Ok ls
table_read S before number [] t = refl
table_read S before number (l ∷ ls) t =
    let rest = slice_split is_feed (lines_text ls) in
    let further = λ (o : Option TableLine). read_on number o (λ k. read_lines S k.path (number + 1) rest) in
    ap (read_lines S before number) (first_line l (lines_text ls))
    ∙ (read_more S before number (line_of l) rest (some_line (lines_text ls))
    ∙ (ap (λ o. further (next_line S before o)) (line_read l (All-head IsLine l ls t.valid))
    ∙ (ap further (first_stands S before l ls t)
    ∙ ap (with_first l) (table_read S l.path (number + 1) ls (others_stand S before l ls t)))))

pub lines_are_read : (S : Setting) (first : ℕ) (lines : List TableLine) → AreLinesOver S lines → read_from S first (lines_text lines) ≡ Ok lines
lines_are_read S first lines t = table_read S [] first lines t

-- ---- one line more

abbrev pub paths_of : List TableLine → List Parts
paths_of ls = map (λ (l : TableLine). l.path) ls

-- a line that has its place behind others
pub record IsNext (S : Setting) (ls : List TableLine) (l : TableLine) : Type 0 where
  pub valid : IsLine l
  pub stands : IsTrue (has_place S l)
  pub ascending : IsStrictlySortedBy path_cmp ([] ∷ (paths_of ls ++ l.path ∷ []))

pub table_more : (S : Setting) (ls : List TableLine) (l : TableLine) → AreLinesOver S ls → IsNext S ls l → AreLinesOver S (ls ++ l ∷ [])
table_more S ls l table next = record {
  valid = All-push IsLine ls l table.valid next.valid;
  stand = All-push (Stands S) ls l table.stand next.stands;
  ascending = subst (λ ps. IsStrictlySortedBy path_cmp ([] ∷ ps)) (sym (map-append (λ (k : TableLine). k.path) ls (l ∷ []))) next.ascending;
}

pub last_next : (S : Setting) (ls : List TableLine) (l : TableLine) → AreLinesOver S (ls ++ l ∷ []) → IsNext S ls l
last_next S ls l table = record {
  valid = All-at IsLine (ls ++ l ∷ []) (length ls) l table.valid (at_middle ls [] l);
  stands = All-at (Stands S) (ls ++ l ∷ []) (length ls) l table.stand (at_middle ls [] l);
  ascending = subst (λ ps. IsStrictlySortedBy path_cmp ([] ∷ ps)) (map-append (λ (k : TableLine). k.path) ls (l ∷ [])) table.ascending;
}

-- the path is that of the last line, or the root's
abbrev IsLast : List TableLine → Parts → Type 0
IsLast ls before = (p : Parts) → is_lt (path_cmp before p) ≡ is_above path_cmp ([] ∷ paths_of ls) p

last_pushed : (ls : List TableLine) (l : TableLine) → IsLast (ls ++ l ∷ []) l.path
last_pushed ls l p = by [] (paths_of ls) ∙ ap (λ ps. is_above path_cmp ([] ∷ ps) p) (sym (map-append (λ (k : TableLine). k.path) ls (l ∷ [])))
  where
    by : (q : Parts) (ps : List Parts) → is_lt (path_cmp l.path p) ≡ is_above path_cmp (q ∷ (ps ++ l.path ∷ [])) p
    by q [] = refl
    by q (r ∷ ps) = by r ps

module _ (S : Setting) (ls : List TableLine) (before : Parts) (table : AreLinesOver S ls) (last : IsLast ls before) where
  -- the line is that of a piece, and has its place behind the others
  record Follows (line : List ℕ) (l : TableLine) : Type 0 where
    is : line ≡ line_of l
    more : AreLinesOver S (ls ++ l ∷ [])

  next_is : (line : List ℕ) (o : Option TableLine) (l : TableLine) → read_line line ≡ o → next_line S before o ≡ Some l → Follows line l
  next_is line None l read e = absurd (false≢true (ap is_some e))
  next_is line (Some k) l read e =
      let both = chosen_some (is_lt (path_cmp before k.path) && has_place S k) (Some k) l e in
      let here = line_is line k read in
      let above = sym (last k.path) ∙ first_true (is_lt (path_cmp before k.path)) (has_place S k) both.0 in
      subst (Follows line) (same_Some k l both.1)
      (record {
        is = here.spelled;
        more = table_more S ls k table (record {
          valid = here.valid;
          stands = second_true (is_lt (path_cmp before k.path)) (has_place S k) both.0;
          ascending = ascending-push path_total ([] ∷ paths_of ls) k.path table.ascending above;
        });
      })

  next_stands : (l : TableLine) → AreLinesOver S (ls ++ l ∷ []) → next_line S before (Some l) ≡ Some l
  next_stands l more =
      let next = last_next S ls l more in
      ap (λ b. cond b (Some l) None)
      (and_from (is_lt (path_cmp before l.path)) (has_place S l) (last l.path ∙ above_from_ascending path_cmp ([] ∷ paths_of ls) l.path next.ascending) next.stands)

-- ---- the lines before a place

-- lines that have their places stand before the rest of a text
pub record IsAt (S : Setting) (text : List ℕ) (ls : List TableLine) (rest : List ℕ) : Type 0 where
  pub table : AreLinesOver S ls
  pub parts : text ≡ lines_text ls ++ rest

pub at_start : (S : Setting) (text : List ℕ) → IsAt S text [] text
unfolding IsStrictlySortedBy
at_start S text = record { table = record { valid = All-nil IsLine; stand = All-nil (Stands S); ascending = (tt, tt) }; parts = refl }

text_push : (ls : List TableLine) (l : TableLine) (rest : List ℕ) → lines_text (ls ++ l ∷ []) ++ rest ≡ lines_text ls ++ (line_of l ++ 10 ∷ rest)
text_push [] l rest = ap (λ t. t ++ rest) (append-nil (line_of l ++ 10 ∷ [])) ∙ append_assoc (line_of l) (10 ∷ []) rest
text_push (k ∷ ls) l rest =
    append_assoc (line_of k ++ 10 ∷ []) (lines_text (ls ++ l ∷ [])) rest
    ∙ (ap (λ t. (line_of k ++ 10 ∷ []) ++ t) (text_push ls l rest) ∙ sym (append_assoc (line_of k ++ 10 ∷ []) (lines_text ls) (line_of l ++ 10 ∷ rest)))

module _ (S : Setting) (text : List ℕ) (ls : List TableLine) (rest : List ℕ) (at : IsAt S text ls rest) where
  pub at_more : (l : TableLine) (later : List ℕ) → rest ≡ line_of l ++ 10 ∷ later → AreLinesOver S (ls ++ l ∷ []) → IsAt S text (ls ++ l ∷ []) later
  at_more l later is more = record { table = more; parts = at.parts ∙ (ap (λ t. lines_text ls ++ t) is ∙ sym (text_push ls l later)) }

  pub at_end : rest ≡ [] → text ≡ lines_text ls
  at_end none = at.parts ∙ (ap (λ t. lines_text ls ++ t) none ∙ append-nil (lines_text ls))

  abbrev pub bad_at : (first number : ℕ) → number ≡ length ls + first → (rest ≡ [] → ⊥) → IsStopped S rest ls → IsFirstBadOf S first text number
  bad_at first number count some stops =
      record { lines = ls; rest = rest; parts = at.parts; table = at.table; bad = record { place = count; some = some; stops = stops } }

-- a line that lacks its line feed
pub unfed : (S : Setting) (ls : List TableLine) (rest line : List ℕ) → slice_split is_feed rest ≡ line ∷ [] → IsStopped S rest ls
unfed S ls rest line one l later is more =
    let lines : line ∷ [] ≡ line_of l ∷ slice_split is_feed later = sym one ∙ (ap (slice_split is_feed) is ∙ cut l later) in
    omega (arith, ap length lines, some_line later)

-- a line that says nothing, or nothing that has its place
pub misread : (S : Setting) (ls : List TableLine) (rest line : List ℕ) (lines : List (List ℕ)) → slice_split is_feed rest ≡ line ∷ lines → ((l : TableLine) → read_line line ≡ Some l → AreLinesOver S (ls ++ l ∷ []) → ⊥) → IsStopped S rest ls
misread S ls rest line lines front never l later is more =
    let same = same_heads line (line_of l) lines (slice_split is_feed later) (sym front ∙ (ap (slice_split is_feed) is ∙ cut l later)) in
    never l (ap read_line same ∙ line_read l (last_next S ls l more).valid) more

-- ---- a text that is read, or refused at its first bad line

-- the text is that of lines that have their places
pub record SpellsLines (S : Setting) (text : List ℕ) (lines : List TableLine) : Type 0 where
  pub spelled : text ≡ lines_text lines
  pub table : AreLinesOver S lines

module _ (S : Setting) (first : ℕ) (text : List ℕ) where
  -- what is read behind lines
  abbrev Ends : List TableLine → Result (List TableLine) ℕ → Type 0
  Ends ls (Ok more) = SpellsLines S text (ls ++ more)
  Ends ls (Err number) = IsFirstBadOf S first text number

  ends_more : (ls : List TableLine) (l : TableLine) (r : Result (List TableLine) ℕ) → Ends (ls ++ l ∷ []) r → Ends ls (with_first l r)
  ends_more ls l (Ok more) ends = subst (SpellsLines S text) (append_assoc ls (l ∷ []) more) ends
  ends_more ls l (Err number) ends = ends

  joined : (rest : List ℕ) (pieces : List (List ℕ)) → slice_split is_feed rest ≡ pieces → rest ≡ join_with_byte 10 pieces
  joined rest pieces is = sym (join_with_byte-slice_split 10 rest) ∙ ap (join_with_byte 10) is

  reads : (ls : List TableLine) (before : Parts) (number : ℕ) (line : List ℕ) (lines : List (List ℕ)) (rest : List ℕ) → IsAt S text ls rest → IsLast ls before → number ≡ length ls + first → slice_split is_feed rest ≡ line ∷ lines → Ends ls (read_lines S before number (line ∷ lines))
  reads ls before number [] [] rest at last count is =
      subst (SpellsLines S text) (sym (append-nil ls)) (record { spelled = at_end S text ls rest at (joined rest ([] ∷ []) is); table = at.table })
  reads ls before number (b ∷ line) [] rest at last count is =
      bad_at S text ls rest at first number count (λ none. let wrong : [] ∷ [] ≡ (b ∷ line) ∷ [] = ap (slice_split is_feed) (sym none) ∙ is in cc) (unfed S ls rest (b ∷ line) is)
  reads ls before number line (next ∷ lines) rest at last count is =
      subst (Ends ls) (sym (read_more S before number line (next ∷ lines) (omega arith)))
      (by (next_line S before (read_line line)) refl (λ l later more there behind. reads (ls ++ l ∷ []) l.path (number + 1) next lines later there (last_pushed ls l) more behind))
    where
      by : (o : Option TableLine) → next_line S before (read_line line) ≡ o
          → ((l : TableLine) (later : List ℕ) → number + 1 ≡ length (ls ++ l ∷ []) + first → IsAt S text (ls ++ l ∷ []) later → slice_split is_feed later ≡ next ∷ lines → Ends (ls ++ l ∷ []) (read_lines S l.path (number + 1) (next ∷ lines)))
          → Ends ls (read_on number o (λ l. read_lines S l.path (number + 1) (next ∷ lines)))
      by None e further =
          bad_at S text ls rest at first number count (λ none. let wrong : [] ∷ [] ≡ line ∷ next ∷ lines = ap (slice_split is_feed) (sym none) ∙ is in cc)
          (misread S ls rest line (next ∷ lines) is
          (λ l read more. false≢true (ap is_some (sym e ∙ (ap (next_line S before) read ∙ next_stands S ls before at.table last l more)))))
      by (Some l) e further =
          let follows = next_is S ls before at.table last line (read_line line) l refl e in
          let later = join_with_byte 10 (next ∷ lines) in
          let parts : rest ≡ line_of l ++ 10 ∷ later = joined rest (line ∷ next ∷ lines) is ∙ ap (λ t. t ++ 10 ∷ later) follows.is in
          let both : line ∷ next ∷ lines ≡ line_of l ∷ slice_split is_feed later = sym is ∙ (ap (slice_split is_feed) parts ∙ cut l later) in
          ends_more ls l (read_lines S l.path (number + 1) (next ∷ lines))
          (further l later (omega (arith, count, length-append ls (l ∷ []))) (at_more S text ls rest at l later parts follows.more) (let same : next ∷ lines ≡ slice_split is_feed later = cc in sym same))

  text_ends : Ends [] (read_from S first text)
  text_ends = by (slice_split is_feed text) refl
    where
      by : (pieces : List (List ℕ)) → slice_split is_feed text ≡ pieces → Ends [] (read_lines S [] first pieces)
      by [] is = absurd (omega (arith, some_line text, ap length is))
      by (line ∷ lines) is = reads [] [] first line lines text (at_start S text) (λ p. refl) (omega arith) is

  pub texts_are_lines : (lines : List TableLine) → read_from S first text ≡ Ok lines → SpellsLines S text lines
  texts_are_lines lines e = subst (Ends []) e text_ends

  pub bad_line_is_first : (number : ℕ) → read_from S first text ≡ Err number → IsFirstBadOf S first text number
  bad_line_is_first number e = subst (Ends []) e text_ends

-- ---- different lines

lines_read : (ls : List TableLine) → All IsLine ls → filter_map read_line (slice_split is_feed (lines_text ls)) ≡ ls
lines_read [] all = refl
lines_read (l ∷ ls) all =
    ap (filter_map read_line) (first_line l (lines_text ls))
    ∙ (ap (λ o. cons_option o (filter_map read_line (slice_split is_feed (lines_text ls)))) (line_read l (All-head IsLine l ls all))
    ∙ ap (λ ks. l ∷ ks) (lines_read ls (All-tail IsLine l ls all)))

pub lines_are_readable : (lines others : List TableLine) → All IsLine lines → All IsLine others → lines_text lines ≡ lines_text others → lines ≡ others
lines_are_readable lines others p q e = sym (lines_read lines p) ∙ (ap (λ t. filter_map read_line (slice_split is_feed t)) e ∙ lines_read others q)
