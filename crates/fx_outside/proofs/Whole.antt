-- A tree stays whole when an entry is added at a free place.
use Rattle.std.proofs.Common.{◌≡◌, inl, inr, ℕ, ◌+◌, ◌<◌, ◌==◌, Bool, true, false, not, cond, ◌&&◌, ◌||◌, List, [], ◌∷◌, length, Option, None, Some, Result, Ok, Err, OnOk, OnErr, is_none, refl, sym, ◌∙◌, ap, subst, arith}
use Rattle.std.specs.Option.{option_map_or}
use Rattle.std.specs.List.{list_all, slice_split, onto_first}
use Rattle.std.specs.Ordering.{eq_by_cmp}
use Rattle.std.specs.FinMap.{get, insert, get-insert, get-empty}
use Rattle.std.proofs.lemmas.Bool.{cases_Bool, and_from}
use Rattle.std.proofs.lemmas.Bool.Decides.{nat_tests}
use Rattle.std.proofs.lemmas.Option.{same_Some}
use Rattle.std.proofs.lemmas.List.Splits.{length-slice_split}
use Rattle.fx_base.proofs.Booleans.{second_true, first_true}
use Rattle.fx_base.proofs.Names.{path_is}
use Rattle.fx_outside.specs.declared.kind.HostKind.{HostKind}
use Rattle.fx_outside.specs.Path.{Parts, parts_cmp, parts, is_fit, fit_parts, is_fit_part, has_no_slash, above}
use Rattle.fx_outside.specs.Tree.{Tree, Entry, IsWhole, has_folder, is_folder_kind, is_file_kind, is_placed, is_free, is_free_at}
use Rattle.fx_outside.specs.Memory.{tree_of}
use Rattle.fx_outside.proofs.Trees.{parts_total}

none_some : (entry : Entry) → None ≡ Some entry → ⊥
none_some entry e = cc

pub whole_empty : IsWhole (tree_of [])
whole_empty = record { placed = λ names entry is. absurd (none_some entry (sym (get-empty parts_cmp names) ∙ is)) }

fourth : (a b c d d' r : Bool) → (d ≡ true → d' ≡ true) → (a && (b && (c && (d && r)))) ≡ true → (a && (b && (c && (d' && r)))) ≡ true
fourth true true true true d' r up e = ap (λ x. x && r) (up refl) ∙ e
fourth true true true false d' r up e = cc
fourth true true false d d' r up e = cc
fourth true false c d d' r up e = cc
fourth false b c d d' r up e = cc

not_there : (o : Option Entry) → is_none o ≡ true → option_map_or (λ e. is_folder_kind e.kind) o false ≡ true → ⊥
not_there None e f = cc
not_there (Some x) e f = cc

-- a folder that stands somewhere stays when something is added elsewhere
folder_kept : (tree : Tree) (names : Parts) (entry : Entry) → is_none (get tree names) ≡ true → (place : Parts) → has_folder tree place ≡ true → has_folder (insert tree names entry) place ≡ true
folder_kept tree names entry free [] there = refl
folder_kept tree names entry free (n ∷ ns) there =
    elim (cases_Bool (eq_by_cmp parts_cmp (n ∷ ns) names)) [
      | inl same ↦ absurd (not_there (get tree names) free (subst (λ p. option_map_or (λ e. is_folder_kind e.kind) (get tree p) false ≡ true) (path_is (n ∷ ns) names same) there))
      | inr apart ↦ ap (λ o. option_map_or (λ e. is_folder_kind e.kind) o false) (get-insert parts_total tree names entry (n ∷ ns) ∙ ap (λ b. cond b (Some entry) (get tree (n ∷ ns))) apart) ∙ there
    ]

whole_insert : (tree : Tree) (names : Parts) (entry : Entry) → IsWhole tree → is_none (get tree names) ≡ true → is_placed tree names entry ≡ true → IsWhole (insert tree names entry)
whole_insert tree names entry whole free placed = record {
  placed = λ q found is.
      let up = folder_kept tree names entry free (above q) in
      let after = get-insert parts_total tree names entry q in
      elim (cases_Bool (eq_by_cmp parts_cmp q names)) [
        | inl same ↦
            let here : q ≡ names = path_is q names same in
            let this : found ≡ entry = same_Some found entry (sym is ∙ after ∙ ap (λ b. cond b (Some entry) (get tree q)) same) in
            fourth (not (length q == 0)) (list_all is_fit_part q) (list_all has_no_slash q) (has_folder tree (above q)) (has_folder (insert tree names entry) (above q)) (is_file_kind found.kind || length found.bytes == 0) up
            (subst (λ e. is_placed tree q e ≡ true) (sym this) (subst (λ p. is_placed tree p entry ≡ true) (sym here) placed))
        | inr apart ↦
            let there : get tree q ≡ Some found = ap (λ b. cond b (Some entry) (get tree q)) (sym apart) ∙ sym after ∙ is in
            fourth (not (length q == 0)) (list_all is_fit_part q) (list_all has_no_slash q) (has_folder tree (above q)) (has_folder (insert tree names entry) (above q)) (is_file_kind found.kind || length found.bytes == 0) up (whole.placed q found there)
      ];
}

onto_no_slash : (b : ℕ) (xs : Parts) → (b == 47) ≡ false → list_all has_no_slash xs ≡ true → list_all has_no_slash (onto_first b xs) ≡ true
onto_no_slash b [] apart all = ap (λ x. (not x && true) && true) apart
onto_no_slash b (x ∷ xs) apart all = ap (λ y. (not y && has_no_slash x) && list_all has_no_slash xs) apart ∙ all

no_slash : (path : List ℕ) → list_all has_no_slash (slice_split (λ b. b == 47) path) ≡ true
no_slash [] = refl
no_slash (b ∷ path) = elim (cases_Bool (b == 47)) [
  | inl slash ↦ ap (λ x. list_all has_no_slash (cond x ([] ∷ slice_split (λ b. b == 47) path) (onto_first b (slice_split (λ b. b == 47) path)))) slash ∙ no_slash path
  | inr apart ↦ ap (λ x. list_all has_no_slash (cond x ([] ∷ slice_split (λ b. b == 47) path) (onto_first b (slice_split (λ b. b == 47) path)))) apart ∙ onto_no_slash b _ apart (no_slash path)
]

positive : (n : ℕ) → 0 < n → not (n == 0) ≡ true
positive n big = grind (arith, nat_tests)

some_length : (n m : ℕ) → n ≡ m + 1 → not (n == 0) ≡ true
some_length n m e = let big : 0 < n = omega arith in positive n big

-- a path of a free place is where an entry may stand
pub whole_added : (tree : Tree) (path : List ℕ) (entry : Entry) → IsWhole tree → is_free_at tree path ≡ true → (is_file_kind entry.kind || length entry.bytes == 0) ≡ true → IsWhole (insert tree (parts path) entry)
whole_added tree path entry whole free bytes =
    let fit = first_true (is_fit path) _ free in
    let rest = second_true (is_fit path) _ free in
    let none = first_true (is_none (get tree (parts path))) _ rest in
    let around = second_true (is_none (get tree (parts path))) _ rest in
    whole_insert tree (parts path) entry whole none
    (and_from _ _ (some_length _ _ (length-slice_split (λ b. b == 47) path)) (and_from _ _ fit (and_from _ _ (no_slash path) (and_from _ _ around bytes))))

cond_none : (b : Bool) (names found : Parts) → Some found ≡ cond b (Some names) None → record { holds : b ≡ true; same : found ≡ names }
cond_none true names found e = record { holds = refl; same = same_Some found names e }
cond_none false names found e = cc

-- the parts that are read from a path
pub read_parts : (path : List ℕ) (found : Parts) → Some found ≡ fit_parts path → record { holds : is_fit path ≡ true; same : found ≡ parts path }
read_parts path found e = cond_none (is_fit path) (parts path) found e

-- what was added, or refused, at a free place leaves the tree whole
pub whole_after : {E : Type 0} (result : Result (Unit {0}) E) (old new : Tree) (path : List ℕ) (found : Parts) (entry : Entry) → IsWhole old → Some found ≡ fit_parts path → is_free old found ≡ true → (is_file_kind entry.kind || length entry.bytes == 0) ≡ true → OnOk result (new ≡ insert old found entry) → OnErr result (new ≡ old) → IsWhole new
whole_after (Ok done) old new path found entry whole is free bytes added same =
    let read = read_parts path found is in
    let here : is_free old (parts path) ≡ true = subst (λ n. is_free old n ≡ true) read.same free in
    subst IsWhole (sym (added ∙ ap (λ n. insert old n entry) read.same)) (whole_added old path entry whole (and_from _ _ read.holds here) bytes)
whole_after (Err e) old new path found entry whole is free bytes added same = subst IsWhole (sym same) whole

-- a free path has free parts
pub free_parts : (tree : Tree) (path : List ℕ) (found : Parts) → Some found ≡ fit_parts path → is_free_at tree path ≡ true → is_free tree found ≡ true
free_parts tree path found is free = subst (λ n. is_free tree n ≡ true) (sym (read_parts path found is).same) (second_true (is_fit path) _ free)

pub only_files : (kind : HostKind) (given stored : List ℕ) → stored ≡ given → (is_file_kind kind ≡ false → given ≡ []) → (is_file_kind kind || length stored == 0) ≡ true
only_files kind given stored same none = elim (cases_Bool (is_file_kind kind)) [
  | inl is_file ↦ ap (λ b. b || length stored == 0) is_file
  | inr other ↦ ap (λ b. b || length stored == 0) other ∙ ap (λ l. length l == 0) (same ∙ none other)
]
