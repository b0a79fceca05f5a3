-- The lines of a table, read one after another.
use Rattle.fx_table.proofs.Prelude.{all_last, all_push, parts_at, root_first, changed_paths, read_link, read_path, path_cmp, Change, AreLines, BodyCause, CanFollow, IsCut, IsNextLine, IsStopped, ReadsBody, ReadsNext, StopsNext, TakesRoom, as_line, is_over_by, line_change, line_in, lines_in, link_bytes, mark_in, mark_node, AreLinesOver, Executable, IsLine, Mark, Setting, TableLine, TableLink, Target, flag_by, is_feed, is_space, line_of, link_by, links_among, read_line, read_of, read_parts, unspelled, BadName, BadTable, Strange, TooLarge, LoadFault, NoMemory, ReadFault, Refused, Room, Bool, List, None, Some, [], ap, append-nil, append_assoc, arith, codes, cond, drop, false, length, length-append, length-take, map, not, refl, subst, suc, sym, take, true, ℕ, ◌++◌, ◌+◌, ◌-◌, ◌<◌, ◌==◌, ◌||◌, ◌∙◌, ◌∷◌, ◌≡◌, ◌≤◌, eq-eqb, eqb-true, not-false, not-true, nat_tests, get_or-take, map-append, length-slice_split, slice_split_at, sum_by-cons, same_Some, AllByRecursion, AllWithin, HoldsAt, slice_split, IsStrictlySortedBy, bytes_eq, nat_lt, Less}
use Rattle.fx_table.proofs.TableLines.{line_is, paths_of, IsNext, table_more, last_next, IsAt, at_start, at_more, at_end, bad_at, misread}

-- ---- a text is cut

-- the first place of a byte
pub cut_at : (text : List ℕ) (byte i : ℕ) → (i < length text) × HoldsAt (λ b. (b == byte) ≡ true) text i × AllWithin (λ b. (b == byte) ≡ false) text 0 i → IsCut byte text (take i text) (drop (i + 1) text)
cut_at text byte i first =
    let whole : text ≡ take i text ++ byte ∷ drop (i + 1) text = parts_at text i byte first.0 ∙ ap (λ b. take i text ++ b ∷ drop (i + 1) text) (eqb-true _ byte (first.1 byte)) in
    record {
      whole = whole;
      parts = ap (slice_split (λ b. b == byte)) whole ∙ slice_split_at (λ b. b == byte) (take i text) byte (drop (i + 1) text) (λ k d lt. let less : k < i = omega (arith, length-take i text, lt) in ap (λ b. b == byte) (get_or-take i text k d less) ∙ first.2 k d (omega arith) less) (eq-eqb byte byte refl);
    }

-- ---- the parts of a line

-- a line of four parts or more gives nothing
pub many_parts : (a b c text rest : List ℕ) → IsCut 32 text c rest → None ≡ read_parts (a ∷ b ∷ slice_split is_space text)
many_parts a b c text rest first = by (slice_split is_space rest) (omega (arith, length-slice_split is_space rest)) ∙ ap (λ ps. read_parts (a ∷ b ∷ ps)) (sym first.parts)
  where
    by : (more : List (List ℕ)) → 0 < length more → None ≡ read_parts (a ∷ b ∷ c ∷ more)
    by [] some = absurd (omega arith)
    by (d ∷ more) some = refl

pub no_star : (path star : List ℕ) → bytes_eq star (codes "*") ≡ false → None ≡ read_parts (path ∷ star ∷ [])
no_star path star other = sym (ap (λ b. cond b (flag_by (read_of read_path (unspelled path))) None) other)

pub star_said : (path star : List ℕ) → bytes_eq star (codes "*") ≡ true → flag_by (read_of read_path (unspelled path)) ≡ read_parts (path ∷ star ∷ [])
star_said path star is = sym (ap (λ b. cond b (flag_by (read_of read_path (unspelled path))) None) is)

pub no_arrow : (path arrow text : List ℕ) → bytes_eq arrow (codes "->") ≡ false → None ≡ read_parts (path ∷ arrow ∷ text ∷ [])
no_arrow path arrow text other = sym (ap (λ b. cond b (link_by (read_of read_path (unspelled path)) (read_of read_link (unspelled text))) None) other)

pub arrow_said : (path arrow text : List ℕ) → bytes_eq arrow (codes "->") ≡ true → link_by (read_of read_path (unspelled path)) (read_of read_link (unspelled text)) ≡ read_parts (path ∷ arrow ∷ text ∷ [])
arrow_said path arrow text is = sym (ap (λ b. cond b (link_by (read_of read_path (unspelled path)) (read_of read_link (unspelled text))) None) is)

pub differs : (a b text : List ℕ) (r : Bool) → b ≡ text → r ≡ not (bytes_eq a b) → r ≡ true → bytes_eq a text ≡ false
differs a b text r same is holds = ap (bytes_eq a) (sym same) ∙ not-true (bytes_eq a b) (sym is ∙ holds)

pub agrees : (a b text : List ℕ) (r : Bool) → b ≡ text → r ≡ not (bytes_eq a b) → r ≡ false → bytes_eq a text ≡ true
agrees a b text r same is fails = ap (bytes_eq a) (sym same) ∙ not-false (bytes_eq a b) (sym is ∙ fails)

-- ---- one line more

paths_in : (old : List Change) → paths_of (lines_in old) ≡ changed_paths old
paths_in [] = refl
paths_in (c ∷ old) = ap (λ ps. c.path ∷ ps) (paths_in old)

some_name : (p : List (List ℕ)) → path_cmp [] p ≡ Less → 0 < length p
some_name [] e = cc
some_name (n ∷ p) e = omega arith

module _ (S : Setting) (old : List Change) (l : TableLine) where
  next_follows : AreLinesOver S (lines_in old) → IsLine l → CanFollow S old l → IsNext S (lines_in old) l
  unfolding IsStrictlySortedBy
  next_follows table valid follow = record {
    valid = valid;
    stands = follow.stands;
    ascending = subst (λ ps. IsStrictlySortedBy path_cmp ([] ∷ (ps ++ l.path ∷ []))) (sym (paths_in old))
        (all_push (λ q. path_cmp [] q ≡ Less) (changed_paths old) l.path (subst (AllByRecursion (λ q. path_cmp [] q ≡ Less)) (paths_in old) table.ascending.0) (root_first l.path follow.some), follow.ascending);
  }

  follows : IsNext S (lines_in old) l → CanFollow S old l
  unfolding IsStrictlySortedBy
  follows next =
      let up = subst (λ ps. IsStrictlySortedBy path_cmp ([] ∷ (ps ++ l.path ∷ []))) (paths_in old) next.ascending in
      record { some = some_name l.path (all_last (λ q. path_cmp [] q ≡ Less) (changed_paths old) l.path up.0); ascending = up.1; stands = next.stands }

-- ---- the first line

module _ (S : Setting) (text line rest : List ℕ) (old : List Change) (first : IsCut 10 text line rest) where
  pub bad_line : None ≡ read_line line → IsStopped S text (lines_in old)
  bad_line none = misread S (lines_in old) text line (slice_split is_feed rest) first.parts (λ l read more. let wrong : None ≡ Some l = none ∙ read in cc)

  module _ (l : TableLine) (said : Some l ≡ read_line line) where
    pub bad_place : (CanFollow S old l → ⊥) → IsStopped S text (lines_in old)
    bad_place never =
        misread S (lines_in old) text line (slice_split is_feed rest) first.parts
        (λ k read more. never (subst (CanFollow S old) (sym (same_Some l k (said ∙ read))) (follows S old k (last_next S (lines_in old) k more))))

    pub next_line : AreLines S old → CanFollow S old l → IsNextLine S text old l rest
    next_line are follow =
        let here = line_is line l (sym said) in
        record {
          spelled = first.whole ∙ ap (λ t. t ++ 10 ∷ rest) here.spelled;
          table = table_more S (lines_in old) l are.table (next_follows S old l are.table here.valid follow);
        }

-- ---- room

-- there is room for a line where there is for what it says
pub over_of : (room : Room) (path : List (List ℕ)) (mark : Mark) → is_over_by room (record { path = path; mark = mark } ∷ []) ≡ is_over_by room (as_line mark ∷ [])
over_of room path (Target text) = refl
over_of room path Executable = refl

room_tests : (a b n t k u v : ℕ) → u ≡ n + 0 → v ≡ n + t → (nat_lt a 1 || nat_lt b u) ≡ false → (nat_lt a (suc k) || nat_lt b v) ≡ (nat_lt (a - 1) k || nat_lt (b - n) t)
room_tests a b n t k u v one all few = grind (arith, nat_tests)

-- what is too much behind a line is too much for the room that it leaves
room_less : (old new : Room) (path : List (List ℕ)) (mark : Mark) (more : List TableLine) → TakesRoom old mark new true → is_over_by old (record { path = path; mark = mark } ∷ more) ≡ is_over_by new more
room_less old new path (Target text) more takes =
    let link : TableLink = record { path = path; text = text } in
    let size = λ (l : TableLink). length l.text in
    room_tests old.links old.bytes (length text) (link_bytes (links_among more)) (length (links_among more)) (link_bytes (link ∷ [])) (link_bytes (link ∷ links_among more)) (sum_by-cons size link []) (sum_by-cons size link (links_among more)) takes.over
    ∙ ap (λ r. is_over_by r more) (sym (takes.left refl))
room_less old new path Executable more takes = ap (λ r. is_over_by r more) (sym (takes.left refl))

none_over : (a b : ℕ) → (nat_lt a 0 || nat_lt b 0) ≡ false
none_over a b = grind (arith, nat_tests)

pub minus : (a b c : ℕ) → a - b - c ≡ a - (b + c)
minus a b c = omega arith

-- ---- line after line

marked_back : (mark : Mark) → mark_in (Some (mark_node mark)) ≡ mark
marked_back (Target text) = refl
marked_back Executable = refl

lines_push : (old new : List Change) (l : TableLine) → new ≡ old ++ line_change l ∷ [] → lines_in new ≡ lines_in old ++ l ∷ []
lines_push old new l is = ap lines_in is ∙ (map-append line_in old (line_change l ∷ []) ∙ ap (λ m. lines_in old ++ record { path = l.path; mark = m } ∷ []) (marked_back l.mark))

-- the lines before the rest, for which there is room
pub record IsReading (S : Setting) (room : Room) (first : ℕ) (text : List ℕ) (changes : List Change) (left : Room) (number : ℕ) (rest : List ℕ) : Type 0 where
  pub made : changes ≡ map line_change (lines_in changes)
  pub at : IsAt S text (lines_in changes) rest
  pub leaves : (more : List TableLine) → is_over_by room (lines_in changes ++ more) ≡ is_over_by left more
  pub count : number ≡ length (lines_in changes) + first
  pub short : number + length rest ≤ first + length text

pub reading_none : (S : Setting) (room : Room) (first : ℕ) (text : List ℕ) (changes : List Change) → changes ≡ [] → IsReading S room first text changes room first text
reading_none S room first text changes none = subst (λ cs. IsReading S room first text cs room first text) (sym none)
    (record { made = refl; at = at_start S text; leaves = λ more. refl; count = omega arith; short = omega arith })

module _ (S : Setting) (room : Room) (first : ℕ) (text : List ℕ) (changes : List Change) (left : Room) (number : ℕ) (rest : List ℕ) (reading : IsReading S room first text changes left number rest) where
  abbrev ls : List TableLine
  ls = lines_in changes

  pub are : AreLines S changes
  are = record { made = reading.made; table = reading.at.table }

  pub reading_more : (new : List Change) (left' : Room) (number' : ℕ) (later : List ℕ) → number' ≡ number + 1 → ReadsNext S left rest changes new left' later → IsReading S room first text new left' number' later
  reading_more new left' number' later next reads =
      let l = reads.line in
      let lines : lines_in new ≡ ls ++ l ∷ [] = lines_push changes new l reads.made in
      record {
        made = reads.made ∙ (ap (λ cs. cs ++ line_change l ∷ []) reading.made ∙ (sym (map-append line_change ls (l ∷ [])) ∙ ap (map line_change) (sym lines)));
        at = subst (λ ks. IsAt S text ks later) (sym lines) (at_more S text ls rest reading.at l later reads.next.spelled reads.next.table);
        leaves = λ more.
            ap (λ ks. is_over_by room (ks ++ more)) lines
            ∙ (ap (is_over_by room) (append_assoc ls (l ∷ []) more) ∙ (reading.leaves (l ∷ more) ∙ room_less left left' l.path l.mark more reads.takes));
        count = omega (arith, next, reading.count, ap length lines, length-append ls (l ∷ []));
        short = omega (arith, next, reading.short, ap length reads.next.spelled, length-append (line_of l) (10 ∷ later));
      }

  few : is_over_by room ls ≡ false
  few = ap (is_over_by room) (sym (append-nil ls)) ∙ (reading.leaves [] ∙ none_over left.links left.bytes)

  pub reading_end : rest ≡ [] → ReadsBody S room text changes
  reading_end none = record { are = are; whole = at_end S text ls rest reading.at none; few = few }

  pub reading_stops : (fault : LoadFault) → (rest ≡ [] → ⊥) → StopsNext S left rest number changes fault → BodyCause S room first text fault
  reading_stops (Refused (BadName place)) some stops = stops
  reading_stops (Refused (Strange place)) some stops = stops
  reading_stops (Refused (TooLarge place)) some stops =
      let l = stops.1.line in
      let more = at_more S text ls rest reading.at l stops.1.rest stops.1.next.spelled stops.1.next.table in
      (stops.0, record { lines = ls ++ l ∷ []; rest = stops.1.rest; parts = more.parts; table = more.table; many = reading.leaves (l ∷ []) ∙ stops.1.many })
  reading_stops (Refused (BadTable n)) some stops = record { bad = bad_at S text ls rest reading.at first n (stops.0 ∙ reading.count) some stops.1; few = few }
  reading_stops ReadFault some stops = stops
  reading_stops NoMemory some stops = tt
