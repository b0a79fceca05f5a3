-- What stands in the filestore of a number stands there in order, and makes a whole one.
use Rattle.std.proofs.Common.{◌≡◌, ℕ, zero, suc, ◌+◌, ◌*◌, ◌/◌, ◌%◌, ◌<◌, Bool, true, false, ◌&&◌, List, [], ◌∷◌, ◌++◌, map, length, All, Ok, refl, sym, ap, ◌∙◌, append_assoc, arith, codes}
use Rattle.std.specs.Prelude.{nat_le, nat_lt, not, cond, Err}
use Rattle.fx_store.specs.declared.name.PathFault.TheVariants.{BadName, TooDeep}
use Rattle.fx_store.specs.declared.changes.Change.{Change}
use Rattle.std.specs.List.{list_all, flat_map, range_with_len}
use Rattle.std.specs.Str.{is_utf8, chars}
use lib.Utf8.{encode}
use Rattle.std.specs.FinMap.{get}
use Rattle.std.proofs.lemmas.Bool.{leb-true, not-true, and_parts}
use Rattle.std.proofs.lemmas.List.{length-replicate}
use Rattle.std.proofs.lemmas.List.Elements.{All-nil, All-cons, All-append, All-replicate}
use Rattle.fx_store.specs.declared.node.Node.TheVariants.{File, Dir, Link}
use Rattle.fx_store.specs.Names.{is_name, IsName, name_cmp, path_cmp, IsPath, IsNameSet, IsContent, IsLinkText, has_link_form, components}
use Rattle.fx_store.specs.Faults.{read_link}
use Rattle.fx_store.specs.Changes.{IsChanges, changed_paths}
use Rattle.fx_store.specs.Filestore.{root_only}
use Rattle.fx_store.specs.Whole.{IsNode, IsWhole, over}
use Rattle.fx_store.proofs.PathLists.{all_names}
use Rattle.fx_gen.specs.Draws.{draw}
use Rattle.fx_gen.specs.Notes.{Placed, two_digits, project, note_name, projects, note_names, linked, note, config, placed_note, placed_project, placed_top, all_placed, made, note_changes_to, changes_to, project_changes}
use Rattle.fx_gen.proofs.Names as order
use Rattle.fx_gen.proofs.Names.{sorted, paths_in_order}
use Rattle.std.proofs.lemmas.List.{map-append}
use Rattle.fx_gen.proofs.Ranges.{map_more, flat_more}
use Rattle.fx_gen.proofs.Wholes.{IsTested, is_listed, lists_all, over_made}

pub in_order : (number : ℕ) → IsChanges (map made (all_placed number))
in_order number = sorted path_cmp (changed_paths (map made (all_placed number))) (paths_in_order number)

-- ---- numbers below a bound

each_from : (test : ℕ → Bool) (a n : ℕ) → list_all test (range_with_len a n) ≡ true → (i : ℕ) → i < n → test (a + i) ≡ true
each_from test a zero pass i h = absurd (omega arith)
each_from test a (suc n) pass zero h = let same : a ≡ a + 0 = omega arith in ap test (sym same) ∙ (and_parts (test a) (list_all test (range_with_len (a + 1) n)) pass).0
each_from test a (suc n) pass (suc i) h =
    let same : (a + 1) + i ≡ a + suc i = omega arith in
    ap test (sym same) ∙ each_from test (a + 1) n (and_parts (test a) (list_all test (range_with_len (a + 1) n)) pass).1 i (omega (arith, h))

pub each_below : (test : ℕ → Bool) (n : ℕ) → list_all test (range_with_len 0 n) ≡ true → (i : ℕ) → i < n → test i ≡ true
each_below test n pass i h = let same : 0 + i ≡ i = omega arith in ap test (sym same) ∙ each_from test 0 n pass i h

-- ---- names

name_set : (names : List (List ℕ)) → list_all is_name names ≡ true → order.in_order name_cmp names ≡ true → IsNameSet names
name_set names valid up = record { names = all_names names valid; ascending = sorted name_cmp names up }

pub project_named : (p : ℕ) → p < 16 → IsName (project p)
unfolding is_utf8 chars encode is_name
project_named p h = each_below (λ p. is_name (project p)) 16 refl p h

pub note_named : (n : ℕ) → n < 8 → IsName (note_name n)
unfolding is_utf8 chars encode is_name
note_named n h = each_below (λ n. is_name (note_name n)) 8 refl n h

pub top_set : IsNameSet (codes "config" ∷ codes "current" ∷ projects)
unfolding is_utf8 chars encode is_name
top_set = name_set (codes "config" ∷ codes "current" ∷ projects) refl refl

pub part_set : IsNameSet (codes "count" ∷ codes "log" ∷ codes "notes" ∷ [])
unfolding is_utf8 chars encode is_name
part_set = name_set (codes "count" ∷ codes "log" ∷ codes "notes" ∷ []) refl refl

pub note_set : IsNameSet note_names
unfolding is_utf8 chars encode is_name
note_set = name_set note_names refl refl

-- ---- paths

is_path : List (List ℕ) → Bool
is_path p = list_all is_name p && nat_le (length p) 64

all_paths : (es : List Placed) → list_all (λ (e : Placed). is_path e.0) es ≡ true → All (λ (e : Placed). IsPath e.0) es
unfolding is_path
all_paths [] pass = All-nil (λ (e : Placed). IsPath e.0)
all_paths (e ∷ es) pass =
    let p = and_parts (is_path e.0) (list_all (λ (e : Placed). is_path e.0) es) pass in
    let q = and_parts (list_all is_name e.0) (nat_le (length e.0) 64) p.0 in
    All-cons (λ (e : Placed). IsPath e.0) e es (record { names = all_names e.0 q.0; short = leb-true (length e.0) 64 q.1 }) (all_paths es p.1)

paths : (number : ℕ) → All (λ (e : Placed). IsPath e.0) (all_placed number)
unfolding is_utf8 chars encode is_name is_path
paths number = all_paths (all_placed number) refl

listed_there : (number : ℕ) → list_all (is_listed (all_placed number)) (all_placed number) ≡ true
listed_there number = refl

lists_there : (number : ℕ) → list_all (lists_all (all_placed number)) (all_placed number) ≡ true
lists_there number = refl

-- ---- nodes

abbrev IsFine : Placed → Type 0
IsFine e = IsNode e.0 e.1

digit_two : (n : ℕ) → n < 100 → All (λ b. b < 256) (two_digits n)
digit_two n h = All-cons (λ b. b < 256) (48 + n / 10) ((48 + n % 10) ∷ []) (omega arith) (All-cons (λ b. b < 256) (48 + n % 10) [] (omega arith) (All-nil (λ b. b < 256)))

drawn_below : (number place m : ℕ) → 0 < m → draw number place m < m
unfolding draw
drawn_below number place m h = omega arith

pub note_content : (number p n : ℕ) → IsContent (note number p n)
unfolding note
note_content number p n =
    let size = drawn_below number (1 + 2 * (8 * p + n)) 64 (omega arith) in
    let letter = drawn_below number (2 + 2 * (8 * p + n)) 26 (omega arith) in
    record {
      short = omega (arith, length-replicate (1 + draw number (1 + 2 * (8 * p + n)) 64) (97 + draw number (2 + 2 * (8 * p + n)) 26), size);
      bytes = All-replicate (λ b. b < 256) (1 + draw number (1 + 2 * (8 * p + n)) 64) (97 + draw number (2 + 2 * (8 * p + n)) 26) (omega (arith, letter));
    }

pub link_text : (p : ℕ) → p < 16 → IsLinkText (project p)
unfolding is_utf8 chars encode is_name
link_text p h = record {
  form = each_below (λ p. has_link_form (project p)) 16 refl p h;
  short = leb-true (length (components (project p))) 64 (each_below (λ p. nat_le (length (components (project p))) 64) 16 refl p h);
  bytes = All-cons (λ b. b < 256) 112 (two_digits p) (omega arith) (digit_two p (omega (arith, h)));
}

pub linked_text : (number : ℕ) → IsLinkText (linked number)
unfolding linked
linked_text number = link_text (draw number 0 16) (drawn_below number 0 16 (omega arith))

bytes_test : (bytes : List ℕ) → list_all (λ b. nat_le b 255) bytes ≡ true → All (λ b. b < 256) bytes
bytes_test [] pass = All-nil (λ b. b < 256)
bytes_test (b ∷ bytes) pass =
    let p = and_parts (nat_le b 255) (list_all (λ b. nat_le b 255) bytes) pass in
    let small = leb-true b 255 p.0 in
    All-cons (λ b. b < 256) b bytes (omega (arith, small)) (bytes_test bytes p.1)

pub config_content : IsContent config
config_content = record { short = leb-true (length config) 1048576 refl; bytes = bytes_test config refl }

pub zero_content : IsContent (codes "0")
zero_content = record { short = leb-true (length (codes "0")) 1048576 refl; bytes = bytes_test (codes "0") refl }

notes_fine : (number p a n : ℕ) → All IsFine (map (placed_note number p) (range_with_len a n))
notes_fine number p a zero = All-nil IsFine
notes_fine number p a (suc n) = All-cons IsFine (placed_note number p a) (map (placed_note number p) (range_with_len (a + 1) n)) (note_content number p a) (notes_fine number p (a + 1) n)

abbrev dir_entry : ℕ → Placed
dir_entry p = (project p ∷ [], Dir (codes "count" ∷ codes "log" ∷ codes "notes" ∷ []))

abbrev count_entry : ℕ → Placed
count_entry p = (project p ∷ codes "count" ∷ [], File (codes "0") false)

abbrev log_entry : ℕ → Placed
log_entry p = (project p ∷ codes "log" ∷ [], Dir [])

abbrev notes_entry : ℕ → Placed
notes_entry p = (project p ∷ codes "notes" ∷ [], Dir note_names)

project_fine : (number p : ℕ) → All IsFine (placed_project number p)
project_fine number p =
    let notes = map (placed_note number p) (range_with_len 0 8) in
    All-cons IsFine (dir_entry p) (count_entry p ∷ log_entry p ∷ notes_entry p ∷ notes) (part_set, λ e. absurd (omega (arith, e)))
    (All-cons IsFine (count_entry p) (log_entry p ∷ notes_entry p ∷ notes) zero_content
    (All-cons IsFine (log_entry p) (notes_entry p ∷ notes) (record { names = All-nil IsName; ascending = sorted name_cmp [] refl }, λ e. refl)
    (All-cons IsFine (notes_entry p) notes (note_set, λ e. absurd (omega (arith, e))) (notes_fine number p 0 8))))

projects_fine : (number a n : ℕ) → All IsFine (flat_map (placed_project number) (range_with_len a n))
projects_fine number a zero = All-nil IsFine
projects_fine number a (suc n) = All-append IsFine (placed_project number a) (flat_map (placed_project number) (range_with_len (a + 1) n)) (project_fine number a) (projects_fine number (a + 1) n)

abbrev root_entry : Placed
root_entry = ([], Dir (codes "config" ∷ codes "current" ∷ projects))

abbrev config_entry : Placed
config_entry = (codes "config" ∷ [], File config false)

abbrev current_entry : ℕ → Placed
current_entry number = (codes "current" ∷ [], Link (linked number))

all_fine : (number : ℕ) → All IsFine (all_placed number)
all_fine number =
    All-append IsFine (placed_top number) (flat_map (placed_project number) (range_with_len 0 16))
    (All-cons IsFine root_entry (config_entry ∷ current_entry number ∷ []) (top_set, λ e. absurd (omega (arith, e))) (All-cons IsFine config_entry (current_entry number ∷ []) config_content (All-cons IsFine (current_entry number) [] (linked_text number) (All-nil IsFine))))
    (projects_fine number 0 16)

-- ---- the filestore

are_tested : (number : ℕ) → IsTested (all_placed number)
are_tested number = record {
  root = (codes "config" ∷ codes "current" ∷ projects, refl);
  listed = listed_there number;
  lists = lists_there number;
  paths = paths number;
  nodes = all_fine number;
}

pub placed_whole : (number : ℕ) → IsWhole (over (get root_only) (map made (all_placed number)))
placed_whole number = over_made (all_placed number) (in_order number) (are_tested number)

-- ---- single names

pub config_named : IsName (codes "config")
unfolding is_utf8 chars encode is_name
config_named = refl

pub current_named : IsName (codes "current")
unfolding is_utf8 chars encode is_name
current_named = refl

pub count_named : IsName (codes "count")
unfolding is_utf8 chars encode is_name
count_named = refl

pub log_named : IsName (codes "log")
unfolding is_utf8 chars encode is_name
log_named = refl

pub notes_named : IsName (codes "notes")
unfolding is_utf8 chars encode is_name
notes_named = refl

-- ---- the changes

pub changes_in_order : (number : ℕ) → IsChanges (changes_to number 16)
unfolding changes_to
changes_in_order number = in_order number

pub changes_whole : (number : ℕ) → IsWhole (over (get root_only) (changes_to number 16))
unfolding changes_to
changes_whole number = placed_whole number

pub changes_more : (number n : ℕ) → changes_to number (n + 1) ≡ changes_to number n ++ project_changes number n
unfolding changes_to project_changes
changes_more number n =
    ap (λ l. map made (placed_top number ++ l)) (flat_more (placed_project number) n)
    ∙ ap (map made) (sym (append_assoc (placed_top number) (flat_map (placed_project number) (range_with_len 0 n)) (placed_project number n)))
    ∙ map-append made (placed_top number ++ flat_map (placed_project number) (range_with_len 0 n)) (placed_project number n)

-- the notes of a project behind its other parts
pub project_made : (cs : List Change) (number p : ℕ) (dir notes : List (List ℕ)) → dir ≡ project p ∷ [] → notes ≡ project p ∷ codes "notes" ∷ [] → (cs ++ made (dir, Dir (codes "count" ∷ codes "log" ∷ codes "notes" ∷ [])) ∷ made (dir ++ codes "count" ∷ [], File (codes "0") false) ∷ made (dir ++ codes "log" ∷ [], Dir []) ∷ []) ++ made (notes, Dir note_names) ∷ note_changes_to number p 8 ≡ cs ++ project_changes number p
unfolding project_changes note_changes_to
project_made cs number p dir notes d n =
    ap (λ x. (cs ++ made (x, Dir (codes "count" ∷ codes "log" ∷ codes "notes" ∷ [])) ∷ made (x ++ codes "count" ∷ [], File (codes "0") false) ∷ made (x ++ codes "log" ∷ [], Dir []) ∷ []) ++ made (notes, Dir note_names) ∷ note_changes_to number p 8) d
    ∙ ap (λ x. (cs ++ made (project p ∷ [], Dir (codes "count" ∷ codes "log" ∷ codes "notes" ∷ [])) ∷ made (project p ∷ codes "count" ∷ [], File (codes "0") false) ∷ made (project p ∷ codes "log" ∷ [], Dir []) ∷ []) ++ made (x, Dir note_names) ∷ note_changes_to number p 8) n
    ∙ append_assoc cs (made (dir_entry p) ∷ made (count_entry p) ∷ made (log_entry p) ∷ []) (made (notes_entry p) ∷ note_changes_to number p 8)

pub notes_none : (number p : ℕ) → note_changes_to number p 0 ≡ []
unfolding note_changes_to
notes_none number p = refl

pub notes_more : (cs : List Change) (c : Change) (number p n : ℕ) → (cs ++ c ∷ note_changes_to number p n) ++ made (placed_note number p n) ∷ [] ≡ cs ++ c ∷ note_changes_to number p (n + 1)
unfolding note_changes_to
notes_more cs c number p n =
    append_assoc cs (c ∷ note_changes_to number p n) (made (placed_note number p n) ∷ [])
    ∙ ap (λ l. cs ++ c ∷ l) (sym (ap (map made) (map_more (placed_note number p) n) ∙ map-append made (map (placed_note number p) (range_with_len 0 n)) (placed_note number p n ∷ [])))

-- the root and its two entries
pub top_made : (cs : List Change) (number : ℕ) (current : List (List ℕ)) (names : List (List ℕ)) (bytes text : List ℕ) → current ≡ codes "current" ∷ [] → names ≡ codes "config" ∷ codes "current" ∷ projects → bytes ≡ config → text ≡ linked number → ((cs ++ made ([], Dir names) ∷ []) ++ made (codes "config" ∷ [], File bytes false) ∷ []) ++ made (current, Link text) ∷ [] ≡ cs ++ changes_to number 0
unfolding changes_to
top_made cs number current names bytes text at named listed leads =
    append_assoc (cs ++ made ([], Dir names) ∷ []) (made (codes "config" ∷ [], File bytes false) ∷ []) (made (current, Link text) ∷ [])
    ∙ append_assoc cs (made ([], Dir names) ∷ []) (made (codes "config" ∷ [], File bytes false) ∷ made (current, Link text) ∷ [])
    ∙ (λ i. cs ++ made ([], Dir (named i)) ∷ made (codes "config" ∷ [], File (listed i) false) ∷ made (at i, Link (leads i)) ∷ [])

pub link_read : (p : ℕ) → p < 16 → read_link (project p) ≡ Ok (project p)
link_read p h =
    let form = (link_text p h).form in
    let few = not-true (nat_lt 64 (length (components (project p)))) (each_below (λ p. not (nat_lt 64 (length (components (project p))))) 16 refl p h) in
    ap (λ b. cond b (cond (nat_lt 64 (length (components (project p)))) (Err TooDeep) (Ok (project p))) (Err BadName)) form
    ∙ ap (λ b. cond b (Err TooDeep) (Ok (project p))) few
