-- What stands in the folder of a case, by the list of its texts.
use Rattle.std.proofs.Common.{◌≡◌, ◌⊎◌, inl, inr, ℕ, ◌+◌, Bool, true, false, cond, ◌||◌, List, [], ◌∷◌, ◌++◌, map, Option, Some, None, option_map, IsTrue, refl, sym, ◌∙◌, ap, append_assoc, append-nil, codes}
use Rattle.std.specs.Prelude.{bytes_eq}
use Rattle.std.specs.Ordering.{is_eq, eq_by_cmp}
use Rattle.std.specs.Cmp.Lexicographic.{texts_ties}
use Rattle.std.specs.FinMap.{get, find}
use Rattle.std.proofs.lemmas.Bool.{cases_Bool, or_cases}
use Rattle.std.specs.Option.{option_or}
use Rattle.fx_base.proofs.Orders.{then_greater, then_equal_ties}
use Rattle.fx_base.proofs.Names.{name_itself, name_is}
use Rattle.fx_store.specs.declared.node.Node.{Node}
use Rattle.fx_store.specs.Names.{path_cmp, rest_of}
use Rattle.fx_store.proofs.PathLists.{rest_is}
use Rattle.fx_outside.specs.Listing.{name_cmp}
use Rattle.fx_outside.specs.Path.{Parts, parts_cmp}
use Rattle.fx_outside.specs.Tree.{Tree, Entry, file}
use Rattle.fx_folder.specs.Deep.{folder_entry}
use Rattle.fx_folder.specs.Folder.{IsSaved, IsPartlySaved, IsFrontOf, entry_or}
use Rattle.fx_folder.specs.Places.{host_entry}
use Rattle.fx_folder.specs.Written.{HasEntries}
use Rattle.fx_folder.proofs.Fronts.{some_of}
use Rattle.fx_table.proofs.Descents.{find_append}
use Rattle.fx_large_commands.specs.Case.{Case, NamedText, case_texts, scripts_from, text_entry, case_entry, case_entry_or, text_places, is_listed_before, is_node_before, is_before_in_case, IsCaseWritten, IsPartOfCase, IsPartlyWritten}
use Rattle.fx_large_commands.specs.Wrote.{Mapped, file_of, text_nodes}

abbrev pub inner : List ℕ
inner = codes "in"

-- a text is found by its name
found_text : (named : List NamedText) (name : List ℕ) (names : Parts) → text_entry named name names ≡ host_entry (find path_cmp (name ∷ names) (map file_of named))
found_text [] name [] = refl
found_text [] name (b ∷ bs) = refl
found_text (n ∷ named) name [] =
    elim (is_eq (name_cmp name n.0)) as (λ t. option_map file (cond t (Some n.1) (find name_cmp name named)) ≡ host_entry (cond t (Some (file_of n).1) (find path_cmp (name ∷ []) (map file_of named)))) [ true ↦ refl | false ↦ found_text named name [] ]
    ∙ ap (λ t. host_entry (cond t (Some (file_of n).1) (find path_cmp (name ∷ []) (map file_of named)))) (sym (then_equal_ties (name_cmp name n.0)))
found_text (n ∷ named) name (b ∷ bs) =
    found_text named name (b ∷ bs) ∙ ap (λ t. host_entry (cond t (Some (file_of n).1) (find path_cmp (name ∷ b ∷ bs) (map file_of named)))) (sym (then_greater (name_cmp name n.0)))

-- no script is `in`
no_script : (k : ℕ) (scripts : List (List ℕ)) (names : Parts) → find path_cmp (inner ∷ names) (map file_of (scripts_from k scripts)) ≡ None
no_script k [] names = refl
no_script k (text ∷ scripts) names = no_script (k + 1) scripts names

pub no_text : (c : Case) (names : Parts) → find path_cmp (inner ∷ names) (text_nodes c) ≡ None
no_text c names = no_script 0 c.scripts names

named_in : (name : List ℕ) → bytes_eq name inner ≡ true → name ≡ inner
named_in name is = name_is name inner (sym (texts_ties name inner) ∙ is)

-- a text is an entry of the case
pub text_stands : (c : Case) (path : Parts) (e : Entry) → host_entry (find path_cmp path (text_nodes c)) ≡ Some e → case_entry c path ≡ Some e
text_stands c [] e is = is
text_stands c (name ∷ names) e is = elim (cases_Bool (bytes_eq name inner)) [
  | inl same ↦
      let none : host_entry (find path_cmp (name ∷ names) (text_nodes c)) ≡ None = ap (λ n. host_entry (find path_cmp (n ∷ names) (text_nodes c))) (named_in name same) ∙ ap host_entry (no_text c names) in
      let both : None ≡ Some e = sym none ∙ is in
      cc
  | inr apart ↦
      ap (λ b. cond b (folder_entry c.nodes names) (text_entry (case_texts c) name names)) apart ∙ found_text (case_texts c) name names ∙ is
]

-- ---- the order of the texts

abbrev pub places : List Mapped → List Parts
places nodes = map (λ (m : Mapped). m.0) nodes

places_of : (named : List NamedText) → places (map file_of named) ≡ map (λ (n : NamedText). n.0 ∷ []) named
places_of [] = refl
places_of (n ∷ named) = ap (λ l. (n.0 ∷ []) ∷ l) (places_of named)

-- the place has one of the first nodes, or this one is not listed before it among the others
abbrev pub IsReached : List Mapped → List Mapped → Parts → Parts → Type 0
IsReached done left before path = ((x : Node) × (find path_cmp path done ≡ Some x)) ⊎ (is_listed_before (places left) before path ≡ false)

-- then what is listed before it has one of the first nodes
listed_done : (done left : List Mapped) (before path : Parts) → IsReached done left before path → is_listed_before (places (done ++ left)) before path ≡ true → (y : Node) × (find path_cmp before done ≡ Some y)
listed_done [] left before path (inl found) listed = let none : None ≡ Some found.0 = found.1 in cc
listed_done [] left before path (inr last) listed = let both : false ≡ true = sym last ∙ listed in cc
listed_done (d ∷ done) left before path reached listed = elim (cases_Bool (eq_by_cmp parts_cmp path d.0)) [
  | inl same ↦
      let both : false ≡ true = sym (ap (λ t. cond t false (eq_by_cmp parts_cmp before d.0 || is_listed_before (places (done ++ left)) before path)) same) ∙ listed in
      cc
  | inr apart ↦
      go (eq_by_cmp parts_cmp before d.0) refl (λ on. listed_done done left before path (still apart reached) on)
      (sym (ap (λ t. cond t false (eq_by_cmp parts_cmp before d.0 || is_listed_before (places (done ++ left)) before path)) apart) ∙ listed)
]
  where
    still : eq_by_cmp parts_cmp path d.0 ≡ false → IsReached (d ∷ done) left before path → IsReached done left before path
    still apart (inl found) = inl (found.0, sym (ap (λ t. cond t (Some d.1) (find path_cmp path done)) apart) ∙ found.1)
    still apart (inr last) = inr last

    go : (b : Bool) → eq_by_cmp parts_cmp before d.0 ≡ b → (is_listed_before (places (done ++ left)) before path ≡ true → (y : Node) × (find path_cmp before done ≡ Some y)) → (eq_by_cmp parts_cmp before d.0 || is_listed_before (places (done ++ left)) before path) ≡ true → (y : Node) × (find path_cmp before (d ∷ done) ≡ Some y)
    go true same next later = (d.1, ap (λ t. cond t (Some d.1) (find path_cmp before done)) same)
    go false other next later =
        let found = next (sym (ap (λ t. t || is_listed_before (places (done ++ left)) before path) other) ∙ later) in
        (found.0, ap (λ t. cond t (Some d.1) (find path_cmp before done)) other ∙ found.1)

-- at the place of a text the case has that text
text_is : (c : Case) (path : Parts) (y : Node) → find path_cmp path (text_nodes c) ≡ Some y → case_entry c path ≡ host_entry (Some y)
text_is c [] y found = ap host_entry found
text_is c (name ∷ names) y found = elim (cases_Bool (bytes_eq name inner)) [
  | inl same ↦
      let none : find path_cmp (name ∷ names) (text_nodes c) ≡ None = ap (λ n. find path_cmp (n ∷ names) (text_nodes c)) (named_in name same) ∙ no_text c names in
      let both : None ≡ Some y = sym none ∙ found in
      cc
  | inr apart ↦
      ap (λ b. cond b (folder_entry c.nodes names) (text_entry (case_texts c) name names)) apart ∙ found_text (case_texts c) name names ∙ ap host_entry found
]

-- no text stands in the folder of the filestore
outside_inner : (c : Case) (path : Parts) (y : Node) → find path_cmp path (text_nodes c) ≡ Some y → rest_of (inner ∷ []) path ≡ None
outside_inner c path y found = go (rest_of (inner ∷ []) path) refl
  where
    go : (o : Option Parts) → rest_of (inner ∷ []) path ≡ o → rest_of (inner ∷ []) path ≡ None
    go None none = none
    go (Some names) some =
        let none : find path_cmp path (text_nodes c) ≡ None = ap (λ p. find path_cmp p (text_nodes c)) (rest_is (inner ∷ []) path names some) ∙ no_text c names in
        let both : None ≡ Some y = sym none ∙ found in
        cc

no_node_before : (o : Option Parts) → is_node_before o None ≡ false
no_node_before None = refl
no_node_before (Some names) = refl

-- one of the first texts is at this place, and the case has this entry for it
abbrev pub IsTextAmong : Case → List Mapped → Parts → Entry → Type 0
IsTextAmong c done place whole = (y : Node) × (find path_cmp place done ≡ Some y) × (find path_cmp place (text_nodes c) ≡ Some y) × (host_entry (Some y) ≡ Some whole)

-- what is listed before such a place is one of the first texts
listed_text : (c : Case) (done left : List Mapped) (before path : Parts) (whole : Entry) → text_nodes c ≡ done ++ left → IsReached done left before path → is_listed_before (text_places c) before path ≡ true → case_entry c before ≡ Some whole → IsTextAmong c done before whole
listed_text c done left before path whole split reached listed stands =
    let among : is_listed_before (places (done ++ left)) before path ≡ true =
    ap (λ l. is_listed_before (places l) before path) (sym split) ∙ ap (λ l. is_listed_before ([] ∷ l) before path) (places_of (case_texts c)) ∙ listed in
    let found = listed_done done left before path reached among in
    let text : find path_cmp before (text_nodes c) ≡ Some found.0 = ap (find path_cmp before) split ∙ find_append before done left ∙ ap (λ o. option_or o (find path_cmp before left)) found.1 in
    (found.0, found.1, text, sym (text_is c before found.0 text) ∙ stands)

-- what comes in the case before a text is a text, one of the first
pub text_before : (c : Case) (done left : List Mapped) (before path : Parts) (whole : Entry) (x : Node) → text_nodes c ≡ done ++ left → find path_cmp path (text_nodes c) ≡ Some x → IsReached done left before path → IsTrue (is_before_in_case c before path) → case_entry c before ≡ Some whole → IsTextAmong c done before whole
text_before c done left before path whole x split is reached order stands = elim (or_cases (is_listed_before (text_places c) before path) (is_node_before (rest_of (inner ∷ []) before) (rest_of (inner ∷ []) path)) order) [
  | inl listed ↦ listed_text c done left before path whole split reached listed stands
  | inr node ↦
      let none : is_node_before (rest_of (inner ∷ []) before) (rest_of (inner ∷ []) path) ≡ false =
      ap (is_node_before (rest_of (inner ∷ []) before)) (outside_inner c path x is) ∙ no_node_before (rest_of (inner ∷ []) before) in
      let both : false ≡ true = sym none ∙ node in
      cc
]

-- where the first texts stand and nothing else, what comes before one of them is one of them, and stands whole
pub first_before : (c : Case) (t u : Tree) (at : Parts) (done left : List Mapped) → text_nodes c ≡ done ++ left → HasEntries t u at done → (path before : Parts) (e whole : Entry) → get u (at ++ path) ≡ Some e → IsTrue (is_before_in_case c before path) → case_entry c before ≡ Some whole → IsTextAmong c done before whole
first_before c t u at done left split has path before e whole here order stands =
    let x = some_of (find path_cmp path done) e (sym (has.inside path) ∙ here) in
    let text : find path_cmp path (text_nodes c) ≡ Some x.0 = ap (find path_cmp path) split ∙ find_append path done left ∙ ap (λ o. option_or o (find path_cmp path left)) x.1 in
    text_before c done left before path whole x.0 split text (inl x) order stands

pub texts_ordered : (c : Case) (t u : Tree) (at : Parts) (done left : List Mapped) → text_nodes c ≡ done ++ left → HasEntries t u at done → (path before : Parts) (e whole : Entry) → get u (at ++ path) ≡ Some e → IsTrue (is_before_in_case c before path) → case_entry c before ≡ Some whole → get u (at ++ before) ≡ Some whole
texts_ordered c t u at done left split has path before e whole here order stands =
    let y = first_before c t u at done left split has path before e whole here order stands in
    has.inside before ∙ ap host_entry y.1 ∙ y.3

-- ---- places behind the folder, and behind the one in it

rest_beyond : (at names q : Parts) → rest_of at q ≡ None → rest_of (at ++ names) q ≡ None
rest_beyond [] names q none = cc
rest_beyond (a ∷ at) names [] none = refl
rest_beyond (a ∷ at) names (b ∷ q) none = elim (cases_Bool (eq_by_cmp name_cmp a b)) [
  | inl same ↦
      let rest : rest_of at q ≡ None = ap (λ t. cond t (rest_of at q) None) (sym same) ∙ none in
      ap (λ t. cond t (rest_of (at ++ names) q) None) same ∙ rest_beyond at names q rest
  | inr apart ↦ ap (λ t. cond t (rest_of (at ++ names) q) None) apart
]

rest_behind : (at names path : Parts) → rest_of (at ++ names) (at ++ path) ≡ rest_of names path
rest_behind [] names path = refl
rest_behind (a ∷ at) names path = ap (λ t. cond t (rest_of (at ++ names) (at ++ path)) None) (name_itself a) ∙ rest_behind at names path

named_apart : (name : List ℕ) (names : Parts) → bytes_eq name inner ≡ false → rest_of (inner ∷ []) (name ∷ names) ≡ None
named_apart name names apart = elim (cases_Bool (eq_by_cmp name_cmp inner name)) [
  | inl same ↦
      let is : bytes_eq name inner ≡ true = ap (λ n. bytes_eq n inner) (sym (name_is inner name same)) in
      let both : true ≡ false = sym is ∙ apart in
      cc
  | inr other ↦ ap (λ t. cond t (rest_of [] names) None) other
]

-- ---- the texts and the filestore's folder are the folder of the case

-- an entry is that of the case at the path, or a front of it at the last one
abbrev IsEntryOf : Case → Parts → Parts → Entry → Type 0
IsEntryOf c last path e = (whole : Entry) × (case_entry c path ≡ Some whole) × ((e ≡ whole) ⊎ ((path ≡ last) × IsFrontOf e whole))

module _ (c : Case) (t u v : Tree) (at : Parts) (has : HasEntries t u at (text_nodes c)) where
  abbrev below : Parts
  below = at ++ inner ∷ []

  into : (names : Parts) → below ++ names ≡ at ++ inner ∷ names
  into names = append_assoc at (inner ∷ []) names

  pub case_written : IsSaved u v below c.nodes → IsCaseWritten t v at c
  case_written saved q = go (rest_of at q) refl
    where
      beside : (q : Parts) → rest_of below q ≡ None → get v q ≡ get u q
      beside q none = saved q ∙ ap (entry_or (get u q) c.nodes) none

      inside : (path : Parts) → get v (at ++ path) ≡ case_entry c path
      inside [] = beside (at ++ []) (rest_behind at (inner ∷ []) []) ∙ has.inside []
      inside (name ∷ names) = elim (cases_Bool (bytes_eq name inner)) [
        | inl same ↦
            ap (λ n. get v (at ++ n ∷ names)) (named_in name same) ∙ saved (at ++ inner ∷ names) ∙ ap (entry_or (get u (at ++ inner ∷ names)) c.nodes) (rest_behind at (inner ∷ []) (inner ∷ names))
            ∙ sym (ap (λ b. cond b (folder_entry c.nodes names) (text_entry (case_texts c) name names)) same)
        | inr apart ↦
            beside (at ++ name ∷ names) (rest_behind at (inner ∷ []) (name ∷ names) ∙ named_apart name names apart) ∙ has.inside (name ∷ names)
            ∙ sym (ap (λ b. cond b (folder_entry c.nodes names) (text_entry (case_texts c) name names)) apart ∙ found_text (case_texts c) name names)
      ]

      go : (o : Option Parts) → rest_of at q ≡ o → get v q ≡ case_entry_or (get t q) c o
      go None none = beside q (rest_beyond at (inner ∷ []) q none) ∙ has.outside q none
      go (Some path) some = ap (get v) (rest_is at q path some) ∙ inside path

  -- all texts, and nothing or a part of the filestore's folder
  texts_alone : IsPartOfCase t u at c []
  texts_alone = record {
    outside = has.outside;
    inside = λ path e is. (e, text_stands c path e (sym (has.inside path) ∙ is), inl refl);
    ordered = texts_ordered c t u at (text_nodes c) [] (sym (append-nil (text_nodes c))) has;
  }

  pub case_part : IsPartlySaved u v below c.nodes → IsPartlyWritten t v at c
  case_part (inl same) = inr ([], subst_tree same)
    where
      subst_tree : v ≡ u → IsPartOfCase t v at c []
      subst_tree e = rw e texts_alone
  case_part (inr (last, part)) = inr (inner ∷ last, record { outside = outside; inside = inside; ordered = ordered })
    where
      outside : (q : Parts) → rest_of at q ≡ None → get v q ≡ get t q
      outside q none = part.outside q (rest_beyond at (inner ∷ []) q none) ∙ has.outside q none

      of_text : (path : Parts) (e : Entry) → rest_of below (at ++ path) ≡ None → get v (at ++ path) ≡ Some e → IsEntryOf c (inner ∷ last) path e
      of_text path e none is = (e, text_stands c path e (sym (has.inside path) ∙ sym (part.outside (at ++ path) none) ∙ is), inl refl)

      of_node : (names : Parts) (e : Entry) → get v (at ++ inner ∷ names) ≡ Some e → IsEntryOf c (inner ∷ last) (inner ∷ names) e
      of_node names e is =
          let found = part.inside names e (ap (get v) (into names) ∙ is) in
          (found.0, found.1, front found.2)
        where
          front : {whole : Entry} → (e ≡ whole) ⊎ ((names ≡ last) × IsFrontOf e whole) → (e ≡ whole) ⊎ ((inner ∷ names ≡ inner ∷ last) × IsFrontOf e whole)
          front (inl all) = inl all
          front (inr (here, some)) = inr (ap (λ l. inner ∷ l) here, some)

      inside : (path : Parts) (e : Entry) → get v (at ++ path) ≡ Some e → IsEntryOf c (inner ∷ last) path e
      inside [] e is = of_text [] e (rest_behind at (inner ∷ []) []) is
      inside (name ∷ names) e is = elim (cases_Bool (bytes_eq name inner)) [
        | inl same ↦ rw (named_in name same) (of_node names e (ap (λ n. get v (at ++ n ∷ names)) (sym (named_in name same)) ∙ is))
        | inr apart ↦ of_text (name ∷ names) e (rest_behind at (inner ∷ []) (name ∷ names) ∙ named_apart name names apart) is
      ]

      ordered : (path before : Parts) (e whole : Entry) → get v (at ++ path) ≡ Some e → IsTrue (is_before_in_case c before path) → case_entry c before ≡ Some whole → get v (at ++ before) ≡ Some whole
      ordered path before e whole here order stands = elim (or_cases (is_listed_before (text_places c) before path) (is_node_before (rest_of (inner ∷ []) before) (rest_of (inner ∷ []) path)) order) [
        | inl listed ↦
            let y = listed_text c (text_nodes c) [] before path whole (sym (append-nil (text_nodes c))) (inr refl) listed stands in
            part.outside (at ++ before) (rest_behind at (inner ∷ []) before ∙ outside_inner c before y.0 y.2) ∙ has.inside before ∙ ap host_entry y.2 ∙ y.3
        | inr node ↦ of_nodes (rest_of (inner ∷ []) before) (rest_of (inner ∷ []) path) refl refl node
      ]
        where
          of_nodes : (o p : Option Parts) → rest_of (inner ∷ []) before ≡ o → rest_of (inner ∷ []) path ≡ p → is_node_before o p ≡ true → get v (at ++ before) ≡ Some whole
          of_nodes None p none there node = cc
          of_nodes (Some first) None some none node = cc
          of_nodes (Some first) (Some names) some there node =
              let earlier : before ≡ inner ∷ first = rest_is (inner ∷ []) before first some in
              let later : path ≡ inner ∷ names = rest_is (inner ∷ []) path names there in
              ap (λ q. get v (at ++ q)) earlier ∙ sym (ap (get v) (into first))
              ∙ part.ordered names first e whole (ap (get v) (into names) ∙ sym (ap (λ q. get v (at ++ q)) later) ∙ here) node (sym (ap (case_entry c) earlier) ∙ stands)
