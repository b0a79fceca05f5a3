-- A folder is refused for the first cause of its entries.
use Rattle.fx_folder.proofs.Prelude.{not_before_itself, neither_some, Held, all_below, all_bytes, as_nodes, deep_loads, first_refused, last_name, linked, refused_bytes, refused_entry, refused_kind, table_in, table_lines, unless_refused, unlisted, EntriesAreListed, FirstCausesAreTold, HasNoCause, IsFirstCause, IsTableCause, StandsBelow, all_standing, cause_of, is_one_too_many, is_strange, where_so, first, is_less, second, strictly_sorted, parts_same, parts_total, Parts, parts_cmp, Entry, Tree, HostKind, is_name, path_eq_same, Store, minus, place_of, table_name, FolderCause, BadName, Strange, TooLarge, TableLine, Bool, Err, List, None, Ok, Option, Result, Some, T, [], ap, append_assoc, arith, cond, false, filter, inl, inr, length, length-append, not, refl, subst, sym, true, ℕ, ◌&&◌, ◌++◌, ◌+◌, ◌-◌, ◌||◌, ◌∙◌, ◌∷◌, ◌≡◌, ◌≤◌, ◌⊎◌, cases_Bool, nat_tests, sum_by_push, same_Some, tied_itself, find, get, is_sorted, below_all, option_or, eq_by_cmp, is_eq, is_lt, ordering_reverse, bytes_eq, nat_le, nat_lt, Ordering, Equal, Greater, Less, MAX_BYTES, MAX_NODES, MAX_FILE_BYTES}
use Rattle.fx_outside.specs.declared.kind.HostKind.TheVariants as kind
use Rattle.fx_folder.proofs.Ordered.{none_behind, sorted_end}
use Rattle.fx_folder.proofs.TableRefusals.{IsCauseOf, table_is, table_refused, over}
use Rattle.fx_folder.proofs.Loaded.{has_passed, have_room}
use Rattle.fx_folder.proofs.Walked.{below_sorted, below_root, find_walked_below}
use Rattle.fx_folder.proofs.Branches.{find_below}

-- ---- one entry has the same cause by counters and by what stands before it

agree : (named short room : Bool) (k b : Option FolderCause) (c d : FolderCause) → cond named (cond (short && room) (option_or k b) (Some c)) (Some d) ≡ option_or (where_so (not named) d) (option_or (where_so (not short || not room) c) (option_or k b))
agree true true true k b c d = refl
agree true true false k b c d = refl
agree true false room k b c d = refl
agree false short room k b c d = refl

strange_kind : (names : Parts) (k : HostKind) → refused_kind names k ≡ where_so (is_strange k) (Strange (place_of names))
strange_kind names kind.File = refl
strange_kind names kind.Folder = refl
strange_kind names kind.Other = refl

deeper : (n : ℕ) → not (nat_le n 64) ≡ nat_lt 64 n
deeper n = grind (arith, nat_tests)

one_more : (n : ℕ) → not (nat_lt (n + 1) MAX_NODES) ≡ nat_lt MAX_NODES (n + 2)
one_more n = grind (arith, nat_tests)

same_cause : (before : List Held) (names : Parts) (e : Entry) → all_bytes before ≤ MAX_BYTES → refused_entry (length before + 1) (MAX_BYTES - all_bytes before) (names, e) ≡ cause_of before names e
same_cause before names e fits =
    let place = place_of names in
    agree (is_name (last_name names)) (nat_le (length names) 64) (nat_lt (length before + 1) MAX_NODES) (refused_kind names e.kind) (refused_bytes (MAX_BYTES - all_bytes before) names e.bytes) (TooLarge place) (BadName place)
    ∙ ap (λ b. option_or (where_so (not (is_name (last_name names))) (BadName place)) (option_or (where_so (b || not (nat_lt (length before + 1) MAX_NODES)) (TooLarge place)) (option_or (refused_kind names e.kind) (refused_bytes (MAX_BYTES - all_bytes before) names e.bytes)))) (deeper (length names))
    ∙ ap (λ b. option_or (where_so (not (is_name (last_name names))) (BadName place)) (option_or (where_so (nat_lt 64 (length names) || b) (TooLarge place)) (option_or (refused_kind names e.kind) (refused_bytes (MAX_BYTES - all_bytes before) names e.bytes)))) (one_more (length before))
    ∙ ap (λ o. option_or (where_so (not (is_name (last_name names))) (BadName place)) (option_or (where_so (nat_lt 64 (length names) || is_one_too_many before) (TooLarge place)) (option_or o (refused_bytes (MAX_BYTES - all_bytes before) names e.bytes)))) (strange_kind names e.kind)
    ∙ ap (λ b. option_or (where_so (not (is_name (last_name names))) (BadName place)) (option_or (where_so (nat_lt 64 (length names) || is_one_too_many before) (TooLarge place)) (option_or (where_so (is_strange e.kind) (Strange place)) (where_so (nat_lt MAX_FILE_BYTES (length e.bytes) || b) (TooLarge place))))) (over MAX_BYTES (all_bytes before) (length e.bytes) fits)

-- where an entry has no cause, the bytes up to it are not too many
fits_still : (before : List Held) (names : Parts) (e : Entry) → all_bytes before ≤ MAX_BYTES → cause_of before names e ≡ None → all_bytes before + length e.bytes ≤ MAX_BYTES
fits_still before names e fits none = let one = has_passed _ _ names e (same_cause before names e fits ∙ none) in omega (arith, fits, one.fits)

-- ---- the first cause along a list

abbrev first_cause : List Held → List Held → Option FolderCause
first_cause before [] = None
first_cause before (h ∷ hs) = option_or (cause_of before h.0 h.1) (first_cause (before ++ h ∷ []) hs)

only_if_none : {A : Type 0} (o p q : Option A) → (o ≡ None → p ≡ q) → option_or o p ≡ option_or o q
only_if_none None p q same = same refl
only_if_none (Some x) p q same = refl

more_bytes : (before : List Held) (h : Held) → all_bytes (before ++ h ∷ []) ≡ all_bytes before + length h.1.bytes
more_bytes before h = sum_by_push (λ (x : Held). length x.1.bytes) before h

more_nodes : (before : List Held) (h : Held) → length (before ++ h ∷ []) ≡ length before + 1
more_nodes before h = length-append before (h ∷ [])

pub same_first : (before hs : List Held) → all_bytes before ≤ MAX_BYTES → first_refused (length before + 1) (MAX_BYTES - all_bytes before) hs ≡ first_cause before hs
same_first before [] fits = refl
same_first before ((names, e) ∷ hs) fits =
    let h : Held = (names, e) in
    ap (λ o. option_or o (first_refused (length before + 1 + 1) (MAX_BYTES - all_bytes before - length e.bytes) hs)) (same_cause before names e fits)
    ∙ only_if_none (cause_of before names e) _ (first_cause (before ++ h ∷ []) hs) (λ none.
    let still = fits_still before names e fits none in
    let bytes = more_bytes before h in
    ap (λ n. first_refused (n + 1) (MAX_BYTES - all_bytes before - length e.bytes) hs) (sym (more_nodes before h))
    ∙ ap (λ n. first_refused (length (before ++ h ∷ []) + 1) n hs) (minus MAX_BYTES (all_bytes before) (length e.bytes) ∙ ap (λ n. MAX_BYTES - n) (sym bytes))
    ∙ same_first (before ++ h ∷ []) hs (omega arith))

-- ---- those before an entry

abbrev is_before : Parts → Held → Bool
is_before names h = is_lt (parts_cmp h.0 names)

not_less_itself : (p : Parts) → is_lt (parts_cmp p p) ≡ false
not_less_itself p = ap is_lt (tied_itself parts_total p)

not_less_back : (p q : Parts) → parts_cmp p q ≡ Less → is_lt (parts_cmp q p) ≡ false
not_less_back p q less = ap is_lt (parts_total.antisymm q p ∙ ap ordering_reverse less)

none_before : (p : Parts) (hs : List Held) → T (below_all parts_cmp p hs) → filter (is_before p) hs ≡ []
none_before p [] below = refl
none_before p (h ∷ hs) below =
    ap (λ b. cond b (h ∷ filter (is_before p) hs) (filter (is_before p) hs)) (not_less_back p h.0 (is_less _ (first (is_lt (parts_cmp p h.0)) _ below)))
    ∙ none_before p hs (second (is_lt (parts_cmp p h.0)) _ below)

below_middle : (k : Parts) (before : List Held) (h : Held) (hs : List Held) → T (below_all parts_cmp k (before ++ h ∷ hs)) → parts_cmp k h.0 ≡ Less
below_middle k [] h hs below = is_less _ (first (is_lt (parts_cmp k h.0)) _ below)
below_middle k (x ∷ before) h hs below = below_middle k before h hs (second (is_lt (parts_cmp k x.0)) _ below)

those_before : (before : List Held) (h : Held) (hs : List Held) → T (is_sorted parts_cmp (before ++ h ∷ hs)) → filter (is_before h.0) (before ++ h ∷ hs) ≡ before
those_before [] h hs up =
    ap (λ b. cond b (h ∷ filter (is_before h.0) hs) (filter (is_before h.0) hs)) (not_less_itself h.0)
    ∙ none_before h.0 hs (first (below_all parts_cmp h.0 hs) _ up)
those_before (x ∷ before) h hs up =
    ap (λ o. cond (is_lt o) (x ∷ filter (is_before h.0) (before ++ h ∷ hs)) (filter (is_before h.0) (before ++ h ∷ hs))) (below_middle x.0 before h hs (first (below_all parts_cmp x.0 (before ++ h ∷ hs)) _ up))
    ∙ ap (λ l. x ∷ l) (those_before before h hs (second (below_all parts_cmp x.0 (before ++ h ∷ hs)) _ up))

-- ---- the first cause is told by paths

module _ (all : List Held) (up : T (is_sorted parts_cmp all)) where
  abbrev at : Parts → Entry → Option FolderCause
  at q e = cause_of (filter (is_before q) all) q e

  -- the first cause in what is left of the list
  record IsFirstOf (hs : List Held) (cause : FolderCause) : Type 0 where
    names : Parts
    entry : Entry
    stands : find parts_cmp names hs ≡ Some entry
    has : at names entry ≡ Some cause
    earliest : (q : Parts) (e : Entry) → find parts_cmp q hs ≡ Some e → parts_cmp q names ≡ Less → at q e ≡ None

  abbrev HaveNone : List Held → Type 0
  HaveNone hs = (q : Parts) (e : Entry) → find parts_cmp q hs ≡ Some e → at q e ≡ None

  head_before : (before : List Held) (h : Held) (hs : List Held) → all ≡ before ++ h ∷ hs → filter (is_before h.0) all ≡ before
  head_before before h hs is = ap (filter (is_before h.0)) is ∙ those_before before h hs (subst (λ l. T (is_sorted parts_cmp l)) is up)

  moved : (before : List Held) (h : Held) (hs : List Held) → all ≡ before ++ h ∷ hs → all ≡ (before ++ h ∷ []) ++ hs
  moved before h hs is = is ∙ sym (append_assoc before (h ∷ []) hs)

  -- an entry is found at the head or behind it
  found_at : (h : Held) (hs : List Held) (q : Parts) (e : Entry) → find parts_cmp q (h ∷ hs) ≡ Some e → ((q ≡ h.0) × (h.1 ≡ e)) ⊎ (find parts_cmp q hs ≡ Some e)
  found_at h hs q e is = elim (cases_Bool (eq_by_cmp parts_cmp q h.0)) [
    | inl same ↦ inl (path_eq_same q h.0 same, same_Some h.1 e (sym (ap (λ b. cond b (Some h.1) (find parts_cmp q hs)) same) ∙ is))
    | inr other ↦ inr (sym (ap (λ b. cond b (Some h.1) (find parts_cmp q hs)) other) ∙ is)
  ]

  found_head : (h : Held) (hs : List Held) → find parts_cmp h.0 (h ∷ hs) ≡ Some h.1
  found_head h hs = ap (λ o. cond (is_eq o) (Some h.1) (find parts_cmp h.0 hs)) (tied_itself parts_total h.0)

  -- what is found behind the head comes after it
  comes_after : (p q : Parts) (e : Entry) (hs : List Held) → T (below_all parts_cmp p hs) → find parts_cmp q hs ≡ Some e → parts_cmp p q ≡ Less
  comes_after p q e [] below is = cc
  comes_after p q e (h ∷ hs) below is = elim (found_at h hs q e is) [
    | inl here ↦ subst (λ k. parts_cmp p k ≡ Less) (sym here.0) (is_less _ (first (is_lt (parts_cmp p h.0)) _ below))
    | inr later ↦ comes_after p q e hs (second (is_lt (parts_cmp p h.0)) _ below) later
  ]

  never_less : (p q : Parts) → parts_cmp p q ≡ Less → parts_cmp q p ≡ Less → ⊥
  never_less p q less back = not_before_itself p (parts_total.trans p q p less back)

  found_later : (h : Held) (hs : List Held) (q : Parts) (e : Entry) → T (is_sorted parts_cmp (h ∷ hs)) → find parts_cmp q hs ≡ Some e → find parts_cmp q (h ∷ hs) ≡ Some e
  found_later h hs q e sorted is = elim (cases_Bool (eq_by_cmp parts_cmp q h.0)) [
    | inl same ↦
        let less = comes_after h.0 q e hs (first (below_all parts_cmp h.0 hs) _ sorted) is in
        absurd (not_before_itself h.0 (subst (λ k. parts_cmp h.0 k ≡ Less) (path_eq_same q h.0 same) less))
    | inr other ↦ ap (λ b. cond b (Some h.1) (find parts_cmp q hs)) other ∙ is
  ]

  first_is : (before hs : List Held) (cause : FolderCause) → all ≡ before ++ hs → first_cause before hs ≡ Some cause → IsFirstOf hs cause
  first_is before [] cause is e = cc
  first_is before (h ∷ hs) cause is e = by (cause_of before h.0 h.1) refl e (λ none. first_is (before ++ h ∷ []) hs cause (moved before h hs is))
    where
      sorted : T (is_sorted parts_cmp (h ∷ hs))
      sorted = sorted_end before (h ∷ hs) (subst (λ l. T (is_sorted parts_cmp l)) is up)

      here : (o : Option FolderCause) → cause_of before h.0 h.1 ≡ o → at h.0 h.1 ≡ o
      here o same = ap (λ l. cause_of l h.0 h.1) (head_before before h hs is) ∙ same

      by : (o : Option FolderCause) → cause_of before h.0 h.1 ≡ o → option_or o (first_cause (before ++ h ∷ []) hs) ≡ Some cause → (o ≡ None → first_cause (before ++ h ∷ []) hs ≡ Some cause → IsFirstOf hs cause) → IsFirstOf (h ∷ hs) cause
      by (Some c) same e later = record {
        names = h.0;
        entry = h.1;
        stands = found_head h hs;
        has = here (Some c) same ∙ e;
        earliest = λ q x found less. elim (found_at h hs q x found) [
          | inl it ↦ absurd (not_before_itself h.0 (subst (λ k. parts_cmp k h.0 ≡ Less) it.0 less))
          | inr after ↦ absurd (never_less h.0 q (comes_after h.0 q x hs (first (below_all parts_cmp h.0 hs) _ sorted) after) less)
        ];
      }
      by None same e later =
          let f = later refl e in
          record {
            names = f.names;
            entry = f.entry;
            stands = found_later h hs f.names f.entry sorted f.stands;
            has = f.has;
            earliest = λ q x found less. elim (found_at h hs q x found) [
              | inl it ↦ subst (λ k. at k x ≡ None) (sym it.0) (subst (λ y. at h.0 y ≡ None) it.1 (here None same))
              | inr after ↦ f.earliest q x after less
            ];
          }

  none_is : (before hs : List Held) → all ≡ before ++ hs → first_cause before hs ≡ None → HaveNone hs
  none_is before [] is e q x found = cc
  none_is before (h ∷ hs) is e q x found =
      let two = neither_some (cause_of before h.0 h.1) (first_cause (before ++ h ∷ []) hs) e in
      elim (found_at h hs q x found) [
        | inl it ↦ subst (λ k. at k x ≡ None) (sym it.0) (subst (λ y. at h.0 y ≡ None) it.1 (ap (λ l. cause_of l h.0 h.1) (head_before before h hs is) ∙ two.0))
        | inr after ↦ none_is (before ++ h ∷ []) hs (moved before h hs is) two.1 q x after
      ]

  -- there is one first cause
  one_first : (c d : FolderCause) → IsFirstOf all c → IsFirstOf all d → c ≡ d
  one_first c d f g = by (parts_cmp f.names g.names) refl
    where
      by : (o : Ordering) → parts_cmp f.names g.names ≡ o → c ≡ d
      by Less is = let none = g.earliest f.names f.entry f.stands is in let wrong : None ≡ Some c = sym none ∙ f.has in cc
      by Greater is =
          let back : parts_cmp g.names f.names ≡ Less = parts_total.antisymm g.names f.names ∙ ap ordering_reverse is in
          let none = f.earliest g.names g.entry g.stands back in
          let wrong : None ≡ Some d = sym none ∙ g.has in
          cc
      by Equal is =
          let names : f.names ≡ g.names = parts_same f.names g.names is in
          let entry : f.entry ≡ g.entry = same_Some f.entry g.entry (sym f.stands ∙ (ap (λ q. find parts_cmp q all) names ∙ g.stands)) in
          same_Some c d (sym f.has ∙ ((λ i. at (names i) (entry i)) ∙ g.has))

  no_first : (c : FolderCause) → IsFirstOf all c → HaveNone all → ⊥
  no_first c f none = let wrong : None ≡ Some c = sym (none f.names f.entry f.stands) ∙ f.has in cc

-- ---- the law

module _ (tree : Tree) (P : Parts) where
  abbrev hs : List Held
  hs = all_standing tree P

  abbrev sorted : T (is_sorted parts_cmp hs)
  sorted = below_sorted tree P

  is_found : (q : Parts) (e : Entry) → StandsBelow tree P q e → find parts_cmp q hs ≡ Some e
  is_found [] e stands = absurd stands
  is_found (n ∷ r) e stands = find_walked_below tree P n r ∙ (ap (λ b. cond (not b) (get tree (P ++ n ∷ r)) None) stands.0 ∙ stands.1)

  shown : (b : Bool) (o : Option Entry) (e : Entry) → cond (not b) o None ≡ Some e → (b ≡ false) × (o ≡ Some e)
  shown true o e is = cc
  shown false o e is = (refl, is)

  does_stand : (q : Parts) (e : Entry) → find parts_cmp q hs ≡ Some e → StandsBelow tree P q e
  does_stand [] e is = let none : None ≡ Some e = sym (none_behind [] hs (below_root tree P)) ∙ is in cc
  does_stand (n ∷ r) e is = shown (bytes_eq n table_name) (get tree (P ++ n ∷ r)) e (sym (find_walked_below tree P n r) ∙ is)

  to_paths : (cause : FolderCause) → IsFirstOf hs sorted hs cause → IsFirstCause tree P cause
  to_paths cause f = record {
    names = f.names;
    entry = f.entry;
    stands = does_stand f.names f.entry f.stands;
    has = f.has;
    first = λ q e stands less. f.earliest q e (is_found q e stands) less;
  }

  from_paths : (cause : FolderCause) → IsFirstCause tree P cause → IsFirstOf hs sorted hs cause
  from_paths cause f = record {
    names = f.names;
    entry = f.entry;
    stands = is_found f.names f.entry f.stands;
    has = f.has;
    earliest = λ q e found less. f.first q e (does_stand q e found) less;
  }

  told : first_refused 1 MAX_BYTES hs ≡ first_cause [] hs
  told = same_first [] hs (omega arith)

  abbrev S : Store
  S path = find parts_cmp path (unlisted hs)

  abbrev lines : Result (List TableLine) FolderCause
  lines = table_lines (length hs + 1) (MAX_BYTES - all_bytes hs) S (table_in (all_below tree P))

  not_linked : (r : Result (List TableLine) FolderCause) (cause : FolderCause) → as_nodes (linked (unlisted hs) r) ≡ Err cause → r ≡ Err cause
  not_linked (Ok ls) cause e = cc
  not_linked (Err c) cause e = cc

  table_at : table_in (all_below tree P) ≡ get tree (P ++ table_name ∷ [])
  table_at = find_below tree P table_name []

  -- the table's cause, where all entries are loaded
  module _ (fits : all_bytes hs ≤ MAX_BYTES) where
    has_table : (cause : FolderCause) (o : Option Entry) → table_in (all_below tree P) ≡ o → IsCauseOf hs fits S o cause → IsTableCause tree P cause
    has_table cause None is why = absurd why
    has_table cause (Some e) is why = record { table = e; stands = sym table_at ∙ is; why = why }

    to_table : (cause : FolderCause) → lines ≡ Err cause → IsTableCause tree P cause
    to_table cause e = has_table cause (table_in (all_below tree P)) refl (table_is hs fits S (table_in (all_below tree P)) cause e)

    from_table : (cause : FolderCause) → IsTableCause tree P cause → lines ≡ Err cause
    from_table cause told_so =
        ap (table_lines (length hs + 1) (MAX_BYTES - all_bytes hs) S) (table_at ∙ told_so.stands)
        ∙ table_refused hs fits S (Some told_so.table) cause told_so.why

  all_fit : first_cause [] hs ≡ None → all_bytes hs ≤ MAX_BYTES
  all_fit none = (have_room 1 MAX_BYTES hs (omega arith) (told ∙ none)).fit

  refused : (cause : FolderCause) → deep_loads tree P ≡ Err cause → IsFirstCause tree P cause ⊎ (HasNoCause tree P × IsTableCause tree P cause)
  refused cause e = by (first_cause [] hs) refl (sym (ap (λ o. as_nodes (unless_refused o (linked (unlisted hs) lines))) told) ∙ e)
    where
      by : (o : Option FolderCause) → first_cause [] hs ≡ o → as_nodes (unless_refused o (linked (unlisted hs) lines)) ≡ Err cause → IsFirstCause tree P cause ⊎ (HasNoCause tree P × IsTableCause tree P cause)
      by (Some c) is e = let same : c ≡ cause = cc in inl (to_paths cause (first_is hs sorted [] hs cause refl (is ∙ ap Some same)))
      by None is e = inr (λ q x stands. none_is hs sorted [] hs refl is q x (is_found q x stands), to_table (all_fit is) cause (not_linked lines cause e))

  tells : (cause : FolderCause) → IsFirstCause tree P cause ⊎ (HasNoCause tree P × IsTableCause tree P cause) → deep_loads tree P ≡ Err cause
  tells cause why = ap (λ o. as_nodes (unless_refused o (linked (unlisted hs) lines))) told ∙ by (first_cause [] hs) refl why
    where
      by : (o : Option FolderCause) → first_cause [] hs ≡ o → IsFirstCause tree P cause ⊎ (HasNoCause tree P × IsTableCause tree P cause) → as_nodes (unless_refused o (linked (unlisted hs) lines)) ≡ Err cause
      by (Some c) is (inl f) = ap (λ x. Err x) (one_first hs sorted c cause (first_is hs sorted [] hs c refl is) (from_paths cause f))
      by (Some c) is (inr no_entry) = absurd (no_first hs sorted c (first_is hs sorted [] hs c refl is) (λ q e found. no_entry.0 q e (does_stand q e found)))
      by None is (inl f) = absurd (no_first hs sorted cause (from_paths cause f) (none_is hs sorted [] hs refl is))
      by None is (inr no_entry) = ap (λ r. as_nodes (linked (unlisted hs) r)) (from_table (all_fit is) cause no_entry.1)

pub first_causes_are_told : FirstCausesAreTold
first_causes_are_told tree P cause = (refused tree P cause, tells tree P cause)

pub entries_are_listed : EntriesAreListed
entries_are_listed tree P = record {
  ascending = strictly_sorted parts_cmp (all_standing tree P) (below_sorted tree P);
  listed = λ q e. (is_found tree P q e, does_stand tree P q e);
}
