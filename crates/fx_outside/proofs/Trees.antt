-- The tree of a list of entries: what stands at a place, one more entry, and the names in a folder.
use Rattle.std.proofs.Common.{◌≡◌, inl, inr, ℕ, suc, ◌-◌, true, cond, T, List, [], ◌∷◌, ◌++◌, length, Option, None, Some, option_map, refl, sym, ◌∙◌, ap, subst, arith, append_assoc}
use Rattle.std.specs.declared.cmp.Ordering.{Ordering}
use Rattle.std.specs.declared.cmp.Ordering.TheVariants.{Less, Equal, Greater}
use Rattle.std.specs.Ordering.{is_eq, is_lt, eq_by_cmp}
use Rattle.std.specs.Cmp.{IsTotalOrder, eq_by_cmp_equiv, tied_itself}
use Rattle.std.specs.Cmp.Lexicographic.{nat_list_cmp_total, lists_total, lists_ties, pointwise}
use Rattle.std.specs.List.{slice_get}
use Rattle.std.specs.Map.{lookup}
use Rattle.std.specs.BTreeMap.{is_at}
use Rattle.std.specs.FinMap.{IsAntisymmetric, get, insert, entries, find, is_sorted, same_map, get-insert, get-from_entries, get-entries, empty, entries-from_sorted, slice_cmp-IsAntisymmetric, nat_cmp-IsAntisymmetric}
use Rattle.std.specs.FinMap.Entries.{below_all}
use Rattle.std.proofs.lemmas.Bool.{cases_Bool}
use Rattle.fx_base.proofs.Names.{same_front, above_pushed}
use Rattle.fx_base.proofs.Orders.{then_equal}
use Rattle.fx_outside.specs.declared.kind.HostKind.{HostKind}
use Rattle.fx_outside.specs.Listing.{Names, name_cmp}
use Rattle.fx_outside.specs.Path.{Parts, parts_cmp, above, name_in}
use Rattle.fx_outside.specs.Tree.{Entry, Lists}
use Rattle.fx_outside.specs.Memory.{tree_of}
use Rattle.fx_outside.proofs.Sorted.{find_is_lookup, from_sorted_nil, sorted_prefix, split_last, both, first, second, is_less, less_test}

pub name_total : IsTotalOrder name_cmp
name_total = nat_list_cmp_total

pub parts_total : IsTotalOrder parts_cmp
parts_total = lists_total nat_list_cmp_total

pub name_same : IsAntisymmetric name_cmp
name_same = slice_cmp-IsAntisymmetric nat_cmp-IsAntisymmetric

pub parts_same : IsAntisymmetric parts_cmp
parts_same = slice_cmp-IsAntisymmetric name_same

-- what stands at a place
pub get_tree : (es : List (Parts × Entry)) (names : Parts) → get (tree_of es) names ≡ lookup (is_at (parts_cmp names)) es
get_tree es names = get-from_entries parts_total es names ∙ find_is_lookup parts_cmp names es

-- one more entry
pub insert_tree : (old new : List (Parts × Entry)) (names : Parts) (entry : Entry) → ((q : Parts) → lookup (is_at (parts_cmp q)) new ≡ cond (is_at (parts_cmp names) q) (Some entry) (lookup (is_at (parts_cmp q)) old)) → tree_of new ≡ insert (tree_of old) names entry
insert_tree old new names entry updates = same_map parts_total parts_same _ _ (λ q.
    get_tree new q ∙ updates q
    ∙ ap (λ b. cond b (Some entry) (lookup (is_at (parts_cmp q)) old)) ((eq_by_cmp_equiv parts_total).symm names q)
    ∙ ap (λ x. cond (eq_by_cmp parts_cmp q names) (Some entry) x) (sym (get_tree old q))
    ∙ sym (get-insert parts_total (tree_of old) names entry q))

pub in_folder_cmp : (folder : Parts) (m n : List ℕ) → parts_cmp (folder ++ m ∷ []) (folder ++ n ∷ []) ≡ name_cmp m n
in_folder_cmp folder m n = same_front folder (m ∷ []) (n ∷ []) ∙ then_equal (name_cmp m n)

pub true_test : (o : Ordering) → true ≡ is_eq o → o ≡ Equal
true_test Less e = cc
true_test Equal e = refl
true_test Greater e = cc

-- a place has this name in a folder where its parts are those of the folder and the name
pub name_in_folder : (folder names : Parts) (name : List ℕ) → name_in folder names ≡ Some name → names ≡ folder ++ name ∷ []
name_in_folder folder names name is =
    elim (cases_Bool (pointwise (eq_by_cmp name_cmp) (above names) folder)) [
      | inl holds ↦
          let around : above names ≡ folder = parts_same (above names) folder (true_test _ (sym holds ∙ lists_ties name_cmp (λ x y. refl) (above names) folder)) in
          let last : slice_get names (length names - 1) ≡ Some name = ap (λ b. cond b (slice_get names (length names - 1)) None) (sym holds) ∙ is in
          split_last names name last ∙ ap (λ l. l ++ name ∷ []) around
      | inr fails ↦ let none : name_in folder names ≡ None = ap (λ b. cond b (slice_get names (length names - 1)) None) fails in cc
    ]

pointwise_same : (names : Parts) → true ≡ pointwise (eq_by_cmp name_cmp) names names
pointwise_same names = ap is_eq (sym (tied_itself parts_total names)) ∙ sym (lists_ties name_cmp (λ x y. refl) names names)

last_pushed : (folder : Parts) (name : List ℕ) → slice_get (folder ++ name ∷ []) (length (folder ++ name ∷ []) - 1) ≡ Some name
last_pushed [] name = refl
last_pushed (x ∷ []) name = refl
last_pushed (x ∷ y ∷ folder) name =
    let one : length (x ∷ y ∷ folder ++ name ∷ []) - 1 ≡ suc (length (y ∷ folder ++ name ∷ []) - 1) = omega arith in
    ap (λ n. slice_get (x ∷ y ∷ folder ++ name ∷ []) n) one ∙ last_pushed (y ∷ folder) name

pub name_in_pushed : (folder : Parts) (name : List ℕ) → name_in folder (folder ++ name ∷ []) ≡ Some name
name_in_pushed folder name =
    ap (λ l. cond (pointwise (eq_by_cmp name_cmp) l folder) (slice_get (folder ++ name ∷ []) (length (folder ++ name ∷ []) - 1)) None) (above_pushed folder name)
    ∙ ap (λ b. cond b (slice_get (folder ++ name ∷ []) (length (folder ++ name ∷ []) - 1)) None) (sym (pointwise_same folder))
    ∙ last_pushed folder name

-- the entries directly in a folder, by their names
child : Option (List ℕ) → HostKind → List (List ℕ × HostKind) → List (List ℕ × HostKind)
child None kind rest = rest
child (Some name) kind rest = (name, kind) ∷ rest

pub children : Parts → List (Parts × Entry) → List (List ℕ × HostKind)
children folder [] = []
children folder (e ∷ es) = child (name_in folder e.0) e.1.kind (children folder es)

pub children_nil : (folder : Parts) → children folder [] ≡ []
unfolding children
children_nil folder = refl

pub children_cons : (folder : Parts) (e : Parts × Entry) (es : List (Parts × Entry)) (name : List ℕ) → name_in folder e.0 ≡ Some name → children folder (e ∷ es) ≡ (name, e.1.kind) ∷ children folder es
unfolding children child
children_cons folder e es name is = ap (λ o. child o e.1.kind (children folder es)) is

pub children_skip : (folder : Parts) (e : Parts × Entry) (es : List (Parts × Entry)) → name_in folder e.0 ≡ None → children folder (e ∷ es) ≡ children folder es
unfolding children child
children_skip folder e es is = ap (λ o. child o e.1.kind (children folder es)) is

-- the names of children rise with the places
children_below : (folder : Parts) (name : List ℕ) (es : List (Parts × Entry)) → T (below_all parts_cmp (folder ++ name ∷ []) es) → T (below_all name_cmp name (children folder es))
unfolding children child
children_below folder name [] h = tt
children_below folder name (e ∷ es) h =
    let rest = children_below folder name es (second (is_lt (parts_cmp (folder ++ name ∷ []) e.0)) _ h) in
    elim (name_in folder e.0) as (λ o. name_in folder e.0 ≡ o → T (below_all name_cmp name (child o e.1.kind (children folder es)))) [
      | None ↦ λ is. rest
      | Some other ↦ λ is.
          let less : parts_cmp (folder ++ name ∷ []) (folder ++ other ∷ []) ≡ Less = subst (λ p. parts_cmp (folder ++ name ∷ []) p ≡ Less) (name_in_folder folder e.0 other is) (is_less _ (first (is_lt (parts_cmp (folder ++ name ∷ []) e.0)) _ h)) in
          both (is_lt (name_cmp name other)) _ (less_test _ (sym (in_folder_cmp folder name other) ∙ less)) rest
    ] refl

pub children_sorted : (folder : Parts) (es : List (Parts × Entry)) → T (is_sorted parts_cmp es) → T (is_sorted name_cmp (children folder es))
unfolding children child
children_sorted folder [] h = tt
children_sorted folder (e ∷ es) h =
    let rest = children_sorted folder es (second (below_all parts_cmp e.0 es) _ h) in
    elim (name_in folder e.0) as (λ o. name_in folder e.0 ≡ o → T (is_sorted name_cmp (child o e.1.kind (children folder es)))) [
      | None ↦ λ is. rest
      | Some name ↦ λ is.
          both (below_all name_cmp name (children folder es)) _ (children_below folder name es (subst (λ p. T (below_all parts_cmp p es)) (name_in_folder folder e.0 name is) (first (below_all parts_cmp e.0 es) _ h))) rest
    ] refl

-- a child is found by its name where its place is
find_child : (folder : Parts) (name : List ℕ) (es : List (Parts × Entry)) → find name_cmp name (children folder es) ≡ option_map (λ e. e.kind) (find parts_cmp (folder ++ name ∷ []) es)
unfolding children child
find_child folder name [] = refl
find_child folder name (e ∷ es) =
    let rest = find_child folder name es in
    elim (name_in folder e.0) as (λ o. name_in folder e.0 ≡ o → find name_cmp name (child o e.1.kind (children folder es)) ≡ option_map (λ e. e.kind) (cond (eq_by_cmp parts_cmp (folder ++ name ∷ []) e.0) (Some e.1) (find parts_cmp (folder ++ name ∷ []) es))) [
      | None ↦ λ is. elim (cases_Bool (eq_by_cmp parts_cmp (folder ++ name ∷ []) e.0)) [
        | inl holds ↦
            let same : folder ++ name ∷ [] ≡ e.0 = parts_same _ _ (true_test _ (sym holds)) in
            let there = name_in_pushed folder name in
            let none : name_in folder (folder ++ name ∷ []) ≡ None = subst (λ p. name_in folder p ≡ None) (sym same) is in
            cc
        | inr fails ↦ rest ∙ ap (λ b. option_map (λ e. e.kind) (cond b (Some e.1) (find parts_cmp (folder ++ name ∷ []) es))) (sym fails)
      ]
      | Some other ↦ λ is.
          let tied : eq_by_cmp parts_cmp (folder ++ name ∷ []) e.0 ≡ eq_by_cmp name_cmp name other = ap (λ p. eq_by_cmp parts_cmp (folder ++ name ∷ []) p) (name_in_folder folder e.0 other is) ∙ ap is_eq (in_folder_cmp folder name other) in
          elim (cases_Bool (eq_by_cmp name_cmp name other)) [
            | inl holds ↦ ap (λ b. cond b (Some e.1.kind) (find name_cmp name (children folder es))) holds ∙ ap (λ b. option_map (λ e. e.kind) (cond b (Some e.1) (find parts_cmp (folder ++ name ∷ []) es))) (sym holds ∙ sym tied)
            | inr fails ↦ ap (λ b. cond b (Some e.1.kind) (find name_cmp name (children folder es))) fails ∙ rest ∙ ap (λ b. option_map (λ e. e.kind) (cond b (Some e.1) (find parts_cmp (folder ++ name ∷ []) es))) (sym fails ∙ sym tied)
          ]
    ] refl

-- a listing of the children of a folder in a tree lists that folder
pub lists_children : (es : List (Parts × Entry)) (folder : Parts) (names : Names) → entries names ≡ children folder es → Lists (tree_of es) folder names
lists_children es folder names is = λ name.
    get-entries names name ∙ ap (find name_cmp name) is ∙ find_child folder name es
    ∙ ap (option_map (λ e. e.kind)) (sym (get-from_entries parts_total es (folder ++ name ∷ [])))

-- the next child may stand at the end of those before it
pub child_stands : (folder : Parts) (all rest : List (Parts × Entry)) (names : Names) (name : List ℕ) (kind : HostKind) → T (is_sorted parts_cmp all) → entries names ++ (name, kind) ∷ children folder rest ≡ children folder all → T (is_sorted name_cmp (entries names ++ (name, kind) ∷ []))
child_stands folder all rest names name kind sorted is =
    sorted_prefix name_cmp (entries names ++ (name, kind) ∷ []) (children folder rest)
    (subst (λ l. T (is_sorted name_cmp l)) (sym is ∙ sym (append_assoc (entries names) ((name, kind) ∷ []) (children folder rest))) (children_sorted folder all sorted))

pub entries_none : entries (empty {X = HostKind} {R = name_cmp}) ≡ []
entries_none = ap entries (sym (from_sorted_nil name_cmp)) ∙ entries-from_sorted name_cmp [] tt
