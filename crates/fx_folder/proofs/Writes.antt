-- The steps of writing a folder: what each leaves, and that the next may be made.
use Rattle.fx_folder.proofs.Prelude.{◌≡◌, inl, inr, ℕ, ◌<◌, ◌≤◌, Bool, true, false, cond, List, [], ◌∷◌, ◌++◌, length, Option, Some, None, IfSome, IsSome, OnOk, OnErr, Result, refl, sym, ◌∙◌, ap, subst, arith, append_assoc, append-nil, option_or, entries, get, find, Node, Dir, path_cmp, Nodes, Parts, parts, HostView, WritesIn, LetsIn, IsIn, HostFault, writes_then, fault_in, Tree, Entry, file, is_free_at, host_entry, table_name, place_of, path_below, TableLine, line_of, lines_of, lines_text, has_flags, version_line, table_text, table_entry, IfTold, IsSaved, IsPartlySaved, IsReady, TakesPath, IsLeftBelow, with_folder, MadePart, IsOpen, with_entry, WrotePart, HasEntries, WroteFront, file_unless_empty, PutsAt, PutsIn, find_append, Out}
use Rattle.fx_store.specs.Whole.{IsWhole}
use Rattle.fx_outside.specs.Tree as tree
use Rattle.fx_folder.proofs.Filled.{opens}
use Rattle.fx_folder.proofs.Fronts.{begins, adds, fresh, from_old, next_free, table_free, all_saved, refused_front, refused_table, refused_folder}
use Rattle.fx_folder.proofs.Texts.{parts_place, fit_place, parts_table, fit_table}

abbrev Mapped : Type 0
Mapped = List (List ℕ) × Node

-- told trees

pub told_open : (told : Option Tree) (P : Tree → Type 0) (Q : Tree → Tree → Type 0) → IfSome told P → ((t : Tree) → P t → Q t t) → IfTold told told Q
told_open None P Q p h = refl
told_open (Some t) P Q p h = h t p

pub told_then : (a b c : Option Tree) (P Q R : Tree → Tree → Type 0) → IfTold a b P → IfTold b c Q → ((t u v : Tree) → a ≡ Some t → P t u → Q u v → R t v) → IfTold a c R
told_then None None c P Q R p q h = q
told_then None (Some u) c P Q R p q h = cc
told_then (Some t) None c P Q R p q h = absurd p
told_then (Some t) (Some u) None P Q R p q h = absurd q
told_then (Some t) (Some u) (Some v) P Q R p q h = h t u v refl p q

told_map : (a b : Option Tree) (P Q : Tree → Tree → Type 0) → IfTold a b P → ((t u : Tree) → a ≡ Some t → P t u → Q t u) → IfTold a b Q
told_map None b P Q p h = p
told_map (Some t) None P Q p h = p
told_map (Some t) (Some u) P Q p h = h t u refl p

pub told_next : (a b : Option Tree) (P : Tree → Type 0) (Q : Tree → Tree → Type 0) (R : Tree → Type 0) → IfSome a P → IfTold a b Q → ((t u : Tree) → P t → Q t u → R u) → IfSome b R
told_next None None P Q R p q h = tt
told_next None (Some u) P Q R p q h = cc
told_next (Some t) None P Q R p q h = tt
told_next (Some t) (Some u) P Q R p q h = h t u p q

-- one entry

-- what is put at a path below a folder is put in the folder
pub put_in : (folder place path : List ℕ) (p : Parts) (o o' : Option Entry) (a b : HostView) (r : Result (Unit {0}) HostFault) → path ≡ place → parts place ≡ parts folder ++ p → IsIn folder place → (LetsIn a.guard.may_write folder → a.guard.may_write place ≡ true) → o ≡ o' → PutsAt path o a b r → PutsIn folder p o' a b r
put_in folder place path p o o' a b r is at inside lets same put =
    let here : PutsAt place o' a b r = subst (λ x. PutsAt place x a b r) same (subst (λ q. PutsAt q o a b r) is put) in record {
      written = subst (λ q. OnOk r (IfTold a.told b.told (λ t t'. t' ≡ with_entry t q o'))) at here.written;
      partly = subst (λ q. OnErr r (IfTold a.told b.told (λ t t'. WrotePart t t' q o'))) at here.partly;
      fault = λ failed. fault_in folder place a b inside (here.fault failed);
      later = here.later;
      fit = λ all. here.fit (lets all);
    }

pub in_place : (folder : List ℕ) (names : Parts) → IsIn folder (folder ++ place_of names)
in_place folder [] = inl (append-nil folder)
in_place folder (name ∷ names) = inr (name ++ place_of names, refl)

-- the same place and entry, as the steps above name them

pub wrote_at : {E : Type 0} (r : Result (Unit {0}) E) (a b : Option Tree) (q q' : Parts) (o o' : Option Entry) → q ≡ q' → o ≡ o' → OnOk r (IfTold a b (λ t t'. t' ≡ with_entry t q o)) → OnOk r (IfTold a b (λ t t'. t' ≡ with_entry t q' o'))
wrote_at r a b q q' o o' p e h =
    subst (λ x. OnOk r (IfTold a b (λ t t'. t' ≡ with_entry t q' x))) e (subst (λ x. OnOk r (IfTold a b (λ t t'. t' ≡ with_entry t x o))) p h)

pub part_at : {E : Type 0} (r : Result (Unit {0}) E) (a b : Option Tree) (q q' : Parts) (o o' : Option Entry) → q ≡ q' → o ≡ o' → OnErr r (IfTold a b (λ t t'. WrotePart t t' q o)) → OnErr r (IfTold a b (λ t t'. WrotePart t t' q' o'))
part_at r a b q q' o o' p e h =
    subst (λ x. OnErr r (IfTold a b (λ t t'. WrotePart t t' q' x))) e (subst (λ x. OnErr r (IfTold a b (λ t t'. WrotePart t t' x o))) p h)

pub unless_empty : (bytes text : List ℕ) → bytes ≡ text → 0 < length text → Some (file bytes) ≡ file_unless_empty text
unless_empty bytes [] is some = absurd (omega (arith, some))
unless_empty bytes (b ∷ text) is some = ap (λ x. Some (file x)) is

-- while entries are written

pub record IsWriting (old now : HostView) (path : List ℕ) (nodes : Nodes) (left : List (List (List ℕ) × Node)) : Type 0 where
  pub later : old.faults ≤ now.faults
  pub fit : WritesIn path old now
  pub done : List (List (List ℕ) × Node)
  pub split : entries nodes ≡ done ++ left
  pub some : IsSome (find path_cmp [] done)
  pub stands : IfTold old.told now.told (λ t t'. HasEntries t t' (parts path) done)

pub starts_writing : (host : HostView) (path : List ℕ) (nodes : Nodes) (left : List Mapped) → IfSome host.told (λ t. IsOpen t path) → IsLeftBelow nodes left → IsWriting host host path nodes left
starts_writing host path nodes left open_ below = record {
  later = omega arith;
  fit = λ _. refl;
  done = ([], Dir below.0) ∷ [];
  split = below.2;
  some = refl;
  stands = told_open host.told (λ t. IsOpen t path) (λ t t'. HasEntries t t' (parts path) (([], Dir below.0) ∷ [])) open_ (λ t is. begins t path below.0 is);
}

some_or : (a b : Option Node) → IsSome a → IsSome (option_or a b)
some_or None b e = cc
some_or (Some x) b e = refl

next_split : (nodes : Nodes) (done left left' : List Mapped) (p : Parts) (node : Node) → entries nodes ≡ done ++ left → left ≡ (p, node) ∷ left' → entries nodes ≡ done ++ (p, node) ∷ left'
next_split nodes done left left' p node split is = split ∙ ap (λ l. done ++ l) is

pub goes_on : (old host host' : HostView) (path : List ℕ) (nodes : Nodes) (left left' : List Mapped) (p : Parts) → IsWriting old host path nodes left → TakesPath nodes left left' (Some p) → host.faults ≤ host'.faults → WritesIn path host host' → IfTold host.told host'.told (λ t t'. t' ≡ with_entry t (parts path ++ p) (host_entry (get nodes p))) → IsWriting old host' path nodes left'
goes_on old host host' path nodes left left' p was next later fit wrote =
    let node = next.0 in
    let one : List Mapped = (p, node) ∷ [] in
    let split = next_split nodes was.done left left' p node was.split next.2 in
    record {
      later = omega (arith, later, was.later);
      fit = writes_then path old host host' was.fit fit;
      done = was.done ++ one;
      split = split ∙ sym (append_assoc was.done one left');
      some = subst IsSome (sym (find_append [] was.done one)) (some_or (find path_cmp [] was.done) (find path_cmp [] one) was.some);
      stands = told_then old.told host.told host'.told (λ t t'. HasEntries t t' (parts path) was.done) (λ t t'. t' ≡ with_entry t (parts path ++ p) (host_entry (get nodes p))) (λ t t'. HasEntries t t' (parts path) (was.done ++ one)) was.stands wrote
          (λ t u v is has added.
          adds t u v (parts path) was.done p node has (fresh nodes was.done left' p node split)
          (added ∙ ap (λ o. with_entry u (parts path ++ p) (host_entry o)) next.1));
    }

-- the next entry may be written
pub is_free : (old host : HostView) (path : List ℕ) (nodes : Nodes) (left left' : List Mapped) (p : Parts) → IsWhole (get nodes) → IfSome old.told (λ t. IsOpen t path) → IsWriting old host path nodes left → TakesPath nodes left left' (Some p) → IfSome host.told (λ t. is_free_at t (path ++ place_of p) ≡ true)
is_free old host path nodes left left' p whole ready was next =
    let names = (whole.paths p (subst IsSome (sym next.1) refl)).names in
    told_next old.told host.told (λ t. IsOpen t path) (λ t t'. HasEntries t t' (parts path) was.done) (λ t. is_free_at t (path ++ place_of p) ≡ true) ready was.stands
    (λ t u is has.
    next_free nodes whole t u (parts path) was.done left' p next.0 (next_split nodes was.done left left' p next.0 was.split next.2) has was.some (path ++ place_of p) (fit_place path p is.fit names) (parts_place path p names))

-- it stops before the next entry, or in it

pub stops_before : (old host : HostView) (path : List ℕ) (nodes : Nodes) (left : List Mapped) → IsWriting old host path nodes left → IfTold old.told host.told (λ t t'. WroteFront t t' (parts path) nodes)
stops_before old host path nodes left was =
    told_map old.told host.told (λ t t'. HasEntries t t' (parts path) was.done) (λ t t'. WroteFront t t' (parts path) nodes) was.stands
    (λ t u is has. record {
      done = was.done;
      left = left;
      split = was.split;
      some = was.some;
      before = u;
      written = has;
      begun = inl refl;
    })

pub stops_in : (old host host' : HostView) (path : List ℕ) (nodes : Nodes) (left left' : List Mapped) (p : Parts) → IsWriting old host path nodes left → TakesPath nodes left left' (Some p) → IfTold host.told host'.told (λ t t'. WrotePart t t' (parts path ++ p) (host_entry (get nodes p))) → IfTold old.told host'.told (λ t t'. WroteFront t t' (parts path) nodes)
stops_in old host host' path nodes left left' p was next wrote =
    told_then old.told host.told host'.told (λ t t'. HasEntries t t' (parts path) was.done) (λ t t'. WrotePart t t' (parts path ++ p) (host_entry (get nodes p))) (λ t t'. WroteFront t t' (parts path) nodes) was.stands wrote
    (λ t u v is has part. record {
      done = was.done;
      left = left;
      split = was.split;
      some = was.some;
      before = u;
      written = has;
      begun = inr (p, next.0, left', next.2, subst (λ o. WrotePart u v (parts path ++ p) (host_entry o)) next.1 part);
    })

-- the whole folder

-- what is known of the tree before the folder is written
pub record IsStart (told : Option Tree) (path : List ℕ) (there : Out) (nodes : Nodes) : Type 0 where
  pub whole : IfSome told tree.IsWhole
  pub ready : IfSome told (λ t. IsReady t path there)
  pub stored : IsWhole (get nodes)

pub opened : (told told' : Option Tree) (path : List ℕ) (there : Out) → IfSome told tree.IsWhole → IfSome told (λ t. IsReady t path there) → IfTold told told' (λ t u. u ≡ with_folder t (parts path) there) → IfSome told' (λ t. IsOpen t path)
opened None None path there whole can made = tt
opened None (Some u) path there whole can made = cc
opened (Some t) told' path there whole can made =
    told_next (Some t) told' (λ x. IsOpen (with_folder x (parts path) there) path) (λ t u. u ≡ with_folder t (parts path) there) (λ u. IsOpen u path) (opens t path there whole can) made
    (λ x u is e. subst (λ y. IsOpen y path) (sym e) is)

-- the folder and its entries are there
pub filled : (told told1 told2 : Option Tree) (path : List ℕ) (there : Out) (nodes : Nodes) → IfTold told told1 (λ t u. u ≡ with_folder t (parts path) there) → IfTold told1 told2 (λ t t'. HasEntries t t' (parts path) (entries nodes)) → IfTold told told2 (λ t t'. HasEntries t t' (parts path) (entries nodes))
filled told told1 told2 path there nodes made wrote =
    told_then told told1 told2 (λ t u. u ≡ with_folder t (parts path) there) (λ t t'. HasEntries t t' (parts path) (entries nodes)) (λ t t'. HasEntries t t' (parts path) (entries nodes)) made wrote
    (λ t u v is first has. from_old t u v (parts path) there (entries nodes) first has)

pub free_for_table : (told told1 told2 : Option Tree) (path : List ℕ) (there : Out) (nodes : Nodes) → IsStart told path there nodes → IfTold told told1 (λ t u. u ≡ with_folder t (parts path) there) → IfTold told1 told2 (λ t t'. HasEntries t t' (parts path) (entries nodes)) → IfSome told2 (λ t. is_free_at t (path_below path table_name) ≡ true)
free_for_table told told1 told2 path there nodes start made wrote =
    told_next told1 told2 (λ t. IsOpen t path) (λ t t'. HasEntries t t' (parts path) (entries nodes)) (λ t. is_free_at t (path_below path table_name) ≡ true) (opened told told1 path there start.whole start.ready made) wrote
    (λ t u is has. table_free nodes start.stored t u (parts path) has (path_below path table_name) (fit_table path is.fit) (parts_table path))

table_file : (lines : List TableLine) (text : List ℕ) → text ≡ table_text lines → file_unless_empty text ≡ table_entry lines
table_file [] text is = ap file_unless_empty is
table_file (line ∷ lines) text is = ap file_unless_empty is ∙ some (has_flags (line ∷ lines))
  where
    long : (bytes more : List ℕ) → file_unless_empty ((bytes ++ 10 ∷ []) ++ more) ≡ Some (file ((bytes ++ 10 ∷ []) ++ more))
    long [] more = refl
    long (a ∷ bytes) more = refl

    some : (b : Bool) → file_unless_empty (cond b version_line [] ++ lines_text (line ∷ lines)) ≡ Some (file (cond b version_line [] ++ lines_text (line ∷ lines)))
    some true = refl
    some false = long (line_of line) (lines_text lines)

pub saved_all : (told told1 told2 told3 : Option Tree) (path : List ℕ) (there : Out) (nodes : Nodes) (text : List ℕ) → IsWhole (get nodes) → text ≡ table_text (lines_of nodes) → IfTold told told1 (λ t u. u ≡ with_folder t (parts path) there) → IfTold told1 told2 (λ t t'. HasEntries t t' (parts path) (entries nodes)) → IfTold told2 told3 (λ t t'. t' ≡ with_entry t (parts path ++ table_name ∷ []) (file_unless_empty text)) → IfTold told told3 (λ t t'. IsSaved t t' (parts path) nodes)
saved_all told told1 told2 told3 path there nodes text stored is made wrote added =
    told_then told told2 told3 (λ t t'. HasEntries t t' (parts path) (entries nodes)) (λ t t'. t' ≡ with_entry t (parts path ++ table_name ∷ []) (file_unless_empty text)) (λ t t'. IsSaved t t' (parts path) nodes) (filled told told1 told2 path there nodes made wrote) added
    (λ t u v at has new. all_saved nodes stored t u (parts path) has v (new ∙ ap (with_entry u (parts path ++ table_name ∷ [])) (table_file (lines_of nodes) text is)))

pub stopped_in_table : (told told1 told2 told3 : Option Tree) (path : List ℕ) (there : Out) (nodes : Nodes) (text : List ℕ) → IsWhole (get nodes) → text ≡ table_text (lines_of nodes) → IfTold told told1 (λ t u. u ≡ with_folder t (parts path) there) → IfTold told1 told2 (λ t t'. HasEntries t t' (parts path) (entries nodes)) → IfTold told2 told3 (λ t t'. WrotePart t t' (parts path ++ table_name ∷ []) (file_unless_empty text)) → IfTold told told3 (λ t t'. IsPartlySaved t t' (parts path) nodes)
stopped_in_table told told1 told2 told3 path there nodes text stored is made wrote part =
    told_then told told2 told3 (λ t t'. HasEntries t t' (parts path) (entries nodes)) (λ t t'. WrotePart t t' (parts path ++ table_name ∷ []) (file_unless_empty text)) (λ t t'. IsPartlySaved t t' (parts path) nodes) (filled told told1 told2 path there nodes made wrote) part
    (λ t u v at has some. refused_table nodes stored t u v (parts path) has (subst (WrotePart u v (parts path ++ table_name ∷ [])) (table_file (lines_of nodes) text is) some))

pub stopped_in_front : (told told1 told2 : Option Tree) (path : List ℕ) (there : Out) (nodes : Nodes) → IsWhole (get nodes) → IfTold told told1 (λ t u. u ≡ with_folder t (parts path) there) → IfTold told1 told2 (λ t t'. WroteFront t t' (parts path) nodes) → IfTold told told2 (λ t t'. IsPartlySaved t t' (parts path) nodes)
stopped_in_front told told1 told2 path there nodes stored made wrote =
    told_then told told1 told2 (λ t u. u ≡ with_folder t (parts path) there) (λ t t'. WroteFront t t' (parts path) nodes) (λ t t'. IsPartlySaved t t' (parts path) nodes) made wrote
    (λ t u v is first was. refused_front nodes stored t u v (parts path) there first was)

pub stopped_at_folder : (told told' : Option Tree) (path : List ℕ) (there : Out) (nodes : Nodes) → IsStart told path there nodes → IfTold told told' (λ t u. MadePart t u (parts path) there) → IfTold told told' (λ t t'. IsPartlySaved t t' (parts path) nodes)
stopped_at_folder None told' path there nodes start made = made
stopped_at_folder (Some t) None path there nodes start made = made
stopped_at_folder (Some t) (Some u) path there nodes start made = refused_folder nodes start.stored t u path there start.whole start.ready made

-- what was written at a path is what stands there
pub wrote_there : (told told' : Option Tree) (place : Parts) (nodes : Nodes) (p : Parts) (node : Node) → get nodes p ≡ Some node → IfTold told told' (λ t t'. t' ≡ with_entry t place (host_entry (Some node))) → IfTold told told' (λ t t'. t' ≡ with_entry t place (host_entry (get nodes p)))
wrote_there told told' place nodes p node is wrote = subst (λ o. IfTold told told' (λ t t'. t' ≡ with_entry t place (host_entry o))) (sym is) wrote

pub part_there : (told told' : Option Tree) (place : Parts) (nodes : Nodes) (p : Parts) (node : Node) → get nodes p ≡ Some node → IfTold told told' (λ t t'. WrotePart t t' place (host_entry (Some node))) → IfTold told told' (λ t t'. WrotePart t t' place (host_entry (get nodes p)))
part_there told told' place nodes p node is wrote = subst (λ o. IfTold told told' (λ t t'. WrotePart t t' place (host_entry o))) (sym is) wrote
