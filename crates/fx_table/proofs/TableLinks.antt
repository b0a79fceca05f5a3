-- The lines of a whole filestore are a table over the rest of it.
use Rattle.fx_table.proofs.Prelude.{strictly_sorted, Parts, root_first, IsPath, path_cmp, path_total, parent, IsNode, IsWhole, Nodes, Store, lists, Node, Dir, File, Link, Executable, IsLine, IsMark, IsTable, TableLine, Target, can_stand, has_place, is_dir, is_file, lines_of, over, but_no_link, unlinked, All, Bool, IfSome, IsSome, IsTrue, List, None, Option, Some, [], ap, arith, cond, false, get_or, is_some, length, refl, subst, suc, sym, take, true, ℕ, ◌++◌, ◌-◌, ◌<◌, ◌∙◌, ◌∷◌, ◌≡◌, take-length, take-suc, false≢true, All-cons, All-nil, eq_by_cmp_equiv, entries, entries_sorted, find, get, get-entries, AllByRecursion, IsStrictlySortedBy, keys_of, eq_by_cmp, is_eq, ordering_reverse, Ordering, Less}
use Rattle.fx_table.proofs.TableLines.{paths_of}
use Rattle.fx_table.proofs.TableTexts.{lines_among}
use Rattle.std.specs.Cmp.{IsTotalOrder}

-- ---- each entry is found by its key

abbrev pub AreFound : {K X : Type 0} → (K → K → Ordering) → List (K × X) → List (K × X) → Type 0
AreFound R [] es = Unit {0}
AreFound R (f ∷ fs) es = (find R f.0 es ≡ Some f.1) × AreFound R fs es

module _ {K : Type 0} {R : K → K → Ordering} (order : IsTotalOrder R) where
  not_tied : (p q : K) → R p q ≡ Less → eq_by_cmp R q p ≡ false
  not_tied p q e = ap is_eq (order.antisymm q p ∙ ap ordering_reverse e)

  module _ {X : Type 0} where
    found_behind : (e : K × X) (fs es : List (K × X)) → AllByRecursion (λ p. R e.0 p ≡ Less) (keys_of fs) → AreFound R fs es → AreFound R fs (e ∷ es)
    found_behind e [] es less found = tt
    found_behind e (f ∷ fs) es less found =
        (ap (λ b. cond b (Some e.1) (find R f.0 es)) (not_tied e.0 f.0 less.0) ∙ found.0, found_behind e fs es less.1 found.1)

    pub all_found : (es : List (K × X)) → IsStrictlySortedBy R (keys_of es) → AreFound R es es
    unfolding IsStrictlySortedBy
    all_found [] up = tt
    all_found (e ∷ es) up = (ap (λ b. cond b (Some e.1) (find R e.0 es)) ((eq_by_cmp_equiv order).refl e.0), found_behind e es es up.0 (all_found es up.1))

-- ---- a link of a whole filestore

last_off : (p : Parts) → 0 < length p → p ≡ parent p ++ get_or p (length p - 1) [] ∷ []
last_off p some =
    let n : suc (length p - 1) ≡ length p = omega (arith, some) in
    sym (take-length p) ∙ (ap (λ k. take k p) (sym n) ∙ take-suc p (length p - 1) [] (omega (arith, some)))

dir_lists : (o : Option Node) (name : List ℕ) → lists o name ≡ true → is_dir (but_no_link o) ≡ true
dir_lists None name e = absurd (false≢true e)
dir_lists (Some (File bytes exec)) name e = absurd (false≢true e)
dir_lists (Some (Dir names)) name e = refl
dir_lists (Some (Link text)) name e = absurd (false≢true e)

module _ (S : Store) (whole : IsWhole S) where
  parent_lists : (p : Parts) → IsSome (S p) → 0 < length p → is_dir (unlinked S (parent p)) ≡ true
  parent_lists p here some =
      let name = get_or p (length p - 1) [] in
      dir_lists (S (parent p)) name (sym (whole.listed (parent p) name) ∙ (ap (λ q. is_some (S q)) (sym (last_off p some)) ∙ here))

  pub below_root : (p : Parts) (node : Node) → is_dir (Some node) ≡ false → S p ≡ Some node → 0 < length p
  below_root [] node plain e = let root = whole.root in absurd (false≢true (sym plain ∙ (ap is_dir (sym e) ∙ ap is_dir root.1)))
  below_root (n ∷ p) node plain e = omega arith

  can : (p : Parts) (text : List ℕ) → S p ≡ Some (Link text) → can_stand (unlinked S) p ≡ true
  can p text e = rw (parent_lists p (ap is_some e) (below_root p (Link text) refl e), e) refl

  stands : (p : Parts) (bytes : List ℕ) (exec : Bool) → S p ≡ Some (File bytes exec) → is_file (unlinked S p) ≡ true
  stands p bytes exec e = ap (λ o. is_file (but_no_link o)) e

  within : (p : Parts) (node : Node) → S p ≡ Some node → IsPath p
  within p node e = whole.paths p (ap is_some e)

  text_within : (p : Parts) (text : List ℕ) → S p ≡ Some (Link text) → IsMark (Target text)
  text_within p text e = subst (λ o. IfSome o (IsNode p)) e (whole.nodes p)

-- ---- the lines of some entries

-- what holds of all paths holds of those of the lines
all_kept : (P : Parts → Type 0) (es : List (Parts × Node)) → AllByRecursion P (keys_of es) → AllByRecursion P (paths_of (lines_among es))
all_kept P [] all = tt
all_kept P ((p, File bytes true) ∷ es) all = (all.0, all_kept P es all.1)
all_kept P ((p, File bytes false) ∷ es) all = all_kept P es all.1
all_kept P ((p, Dir names) ∷ es) all = all_kept P es all.1
all_kept P ((p, Link text) ∷ es) all = (all.0, all_kept P es all.1)

sorted_kept : (es : List (Parts × Node)) → IsStrictlySortedBy path_cmp (keys_of es) → IsStrictlySortedBy path_cmp (paths_of (lines_among es))
unfolding IsStrictlySortedBy
sorted_kept [] up = tt
sorted_kept ((p, File bytes true) ∷ es) up = (all_kept (λ q. path_cmp p q ≡ Less) es up.0, sorted_kept es up.1)
sorted_kept ((p, File bytes false) ∷ es) up = sorted_kept es up.1
sorted_kept ((p, Dir names) ∷ es) up = sorted_kept es up.1
sorted_kept ((p, Link text) ∷ es) up = (all_kept (λ q. path_cmp p q ≡ Less) es up.0, sorted_kept es up.1)

abbrev HasPlace : Store → TableLine → Type 0
HasPlace S l = IsTrue (has_place (over (unlinked S) true) l)

-- what holds of each line of the entries
record AreLines (S : Store) (ls : List TableLine) : Type 0 where
  valid : All IsLine ls
  stand : All (HasPlace S) ls
  below : AllByRecursion (λ p. path_cmp [] p ≡ Less) (paths_of ls)

-- one line more
more : (S : Store) (l : TableLine) (ls : List TableLine) → IsLine l → HasPlace S l → 0 < length l.path → AreLines S ls → AreLines S (l ∷ ls)
more S l ls valid stand some later = record {
  valid = All-cons IsLine l ls valid later.valid;
  stand = All-cons (HasPlace S) l ls stand later.stand;
  below = (root_first l.path some, later.below);
}

module _ (nodes : Nodes) (whole : IsWhole (get nodes)) where
  are_lines : (es : List (Parts × Node)) → AreFound path_cmp es (entries nodes) → AreLines (get nodes) (lines_among es)
  are_lines [] found = record { valid = All-nil IsLine; stand = All-nil (HasPlace (get nodes)); below = tt }
  are_lines ((p, File bytes false) ∷ es) found = are_lines es found.1
  are_lines ((p, Dir names) ∷ es) found = are_lines es found.1
  are_lines ((p, File bytes true) ∷ es) found =
      let here : get nodes p ≡ Some (File bytes true) = get-entries nodes p ∙ found.0 in
      more (get nodes) (record { path = p; mark = Executable }) (lines_among es)
      (record { path = within (get nodes) whole p (File bytes true) here; mark = tt })
      (stands (get nodes) whole p bytes true here)
      (below_root (get nodes) whole p (File bytes true) refl here)
      (are_lines es found.1)
  are_lines ((p, Link text) ∷ es) found =
      let here : get nodes p ≡ Some (Link text) = get-entries nodes p ∙ found.0 in
      more (get nodes) (record { path = p; mark = Target text }) (lines_among es)
      (record { path = within (get nodes) whole p (Link text) here; mark = text_within (get nodes) whole p text here })
      (can (get nodes) whole p text here)
      (below_root (get nodes) whole p (Link text) refl here)
      (are_lines es found.1)

pub lines_are_tables : (nodes : Nodes) → IsWhole (get nodes) → IsTable (unlinked (get nodes)) (lines_of nodes)
unfolding IsStrictlySortedBy
lines_are_tables nodes whole =
    let up = strictly_sorted path_cmp (entries nodes) (entries_sorted nodes) in
    let all = are_lines nodes whole (entries nodes) (all_found path_total (entries nodes) up) in
    record { valid = all.valid; stand = all.stand; ascending = (all.below, sorted_kept (entries nodes) up) }
