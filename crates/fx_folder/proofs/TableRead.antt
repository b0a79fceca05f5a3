-- The table that was read: its lines, and that they are not too many.
use Rattle.fx_folder.proofs.Prelude.{are_too_many, unless_refused, lacking, lines_or_cause, table_file_lines, table_lines, Entry, file, HostKind, Store, texts_are_lines, IsLine, IsTable, body_of, first_number, has_place, lacks_flags, lines_before, links_among, over, read_body, setting_of, table_text, FolderCause, BadTable, TableLine, Bool, Err, IsTrue, List, None, Ok, Option, Result, Some, [], ap, arith, cond, false, inl, inr, length, refl, subst, true, ℕ, ◌+◌, ◌≡◌, ◌≤◌, ◌⊎◌, or_parts, All-nil, nat_lt, MAX_NODES, MAX_TABLE, link_bytes}
use Rattle.std.specs.List.Sorted.{IsStrictlySortedBy}
use Rattle.fx_outside.specs.declared.kind.HostKind.TheVariants as kind
use Rattle.fx_table.specs.TableLaws.{SpellsTable}
use Rattle.fx_table.proofs.Versions.{spells}
use Rattle.fx_folder.proofs.Counted.{at_most}

-- no table stands there, or a file that spells the lines
abbrev pub Spelled : List TableLine → Option Entry → Type 0
Spelled lines o = ((o ≡ None) × (lines ≡ [])) ⊎ (o ≡ Some (file (table_text lines)))

-- the lines of a table that was read, and that they are not too many
pub record IsTableOf (nodes left : ℕ) (S : Store) (lines : List TableLine) (o : Option Entry) : Type 0 where
  pub table : IsTable S lines
  pub is : Spelled lines o
  pub few : nodes + length (links_among lines) ≤ MAX_NODES
  pub fit : link_bytes (links_among lines) ≤ left
  pub short : length (table_text lines) ≤ MAX_TABLE

not_lacking : (b : Bool) → cond b (Some (BadTable 1)) None ≡ None → b ≡ false
not_lacking true e = cc
not_lacking false e = refl

not_bad : (b : Bool) (c : FolderCause) (bad : Option FolderCause) (lines made : List TableLine) → cond b (Err c) (unless_refused bad (Ok lines)) ≡ Ok made → (b ≡ false) × (bad ≡ None) × (lines ≡ made)
not_bad true c bad lines made e = cc
not_bad false c None lines made e = (refl, refl, cc)
not_bad false c (Some d) lines made e = cc

record IsRead (nodes left : ℕ) (S : Store) (text : List ℕ) (lines : List TableLine) : Type 0 where
  spells : SpellsTable S text lines
  many : are_too_many nodes left (links_among lines) ≡ false

-- a text whose lines are read spells them
is_read : (nodes left : ℕ) (S : Store) (text : List ℕ) (r : Result (List TableLine) ℕ) (lines : List TableLine) → read_body S text ≡ r → lines_or_cause nodes left S text r ≡ Ok lines → IsRead nodes left S text lines
is_read nodes left S text (Ok read) lines is e =
    let good = not_bad (are_too_many nodes left (links_among read)) _ (lacking text read) read lines e in
    let all = texts_are_lines (setting_of S text) (first_number text) (body_of text) read is in
    subst (IsRead nodes left S text) good.2 (record { spells = spells S text read all.table all.spelled (not_lacking (lacks_flags text read) good.1); many = good.0 })
is_read nodes left S text (Err number) lines is e =
    let good = not_bad (are_too_many nodes left (links_among (lines_before S text number))) _ (Some (BadTable number)) (lines_before S text number) lines e in
    let none : Some (BadTable number) ≡ None = good.1 in
    cc

not_large : (b : Bool) (c : FolderCause) (r : Result (List TableLine) FolderCause) (lines : List TableLine) → cond b (Err c) r ≡ Ok lines → (b ≡ false) × (r ≡ Ok lines)
not_large true c r lines e = cc
not_large false c r lines e = (refl, e)

of_file : (nodes left : ℕ) (S : Store) (k : HostKind) (text : List ℕ) (lines : List TableLine) → table_file_lines nodes left S k text ≡ Ok lines → IsTableOf nodes left S lines (Some (record { kind = k; bytes = text }))
of_file nodes left S kind.File text lines e =
    let small = not_large (nat_lt MAX_TABLE (length text)) _ (lines_or_cause nodes left S text (read_body S text)) lines e in
    let read = is_read nodes left S text (read_body S text) lines refl small.1 in
    let within = or_parts (nat_lt MAX_NODES (nodes + length (links_among lines))) (nat_lt left (link_bytes (links_among lines))) read.many in
    record {
      table = read.spells.table;
      is = inr (ap (λ t. Some (file t)) read.spells.spelled);
      few = at_most _ _ within.0;
      fit = at_most _ _ within.1;
      short = subst (λ t. length t ≤ MAX_TABLE) read.spells.spelled (at_most (length text) MAX_TABLE small.0);
    }
of_file nodes left S kind.Folder text lines e = cc
of_file nodes left S kind.Other text lines e = cc

no_lines : (S : Store) → IsTable S []
unfolding IsStrictlySortedBy
no_lines S = record { valid = All-nil IsLine; stand = All-nil (λ (l : TableLine). IsTrue (has_place (over S true) l)); ascending = (tt, tt) }

none_of : (nodes left : ℕ) (S : Store) → nodes ≤ MAX_NODES → IsTableOf nodes left S [] None
none_of nodes left S few = record { table = no_lines S; is = inl (refl, refl); few = omega (arith, few); fit = omega arith; short = omega arith }

pub table_of : (nodes left : ℕ) (S : Store) (o : Option Entry) (lines : List TableLine) → nodes ≤ MAX_NODES → table_lines nodes left S o ≡ Ok lines → IsTableOf nodes left S lines o
table_of nodes left S None lines few e = let same : [] ≡ lines = cc in subst (λ l. IsTableOf nodes left S l None) same (none_of nodes left S few)
table_of nodes left S (Some e) lines few is = of_file nodes left S e.kind e.bytes lines is
