-- Where the entries of a folder of any depth stand for the host, and what each of them is loaded as.
use Rattle.fx_folder.proofs.Prelude.{◌≡◌, ℕ, ◌==◌, Bool, true, false, not, cond, ◌&&◌, ◌||◌, List, [], ◌∷◌, ◌++◌, map, length, Option, Some, None, option_map, IfSome, IfOk, IfErr, OnOk, Result, Ok, Err, refl, sym, ◌∙◌, ap, subst, append_assoc, arith, nat_le, nat_lt, option_or, option_map_or, list_all, get, entries, find, same_entries, nat_tests, never_both, fifth_true, no_length, none_if_never, HostKind, Names, LetsIn, Parts, parts, is_fit, parts_cmp, is_fit_part, has_no_slash, above, Tree, Entry, IsWhole, Lists, entry_at, is_folder_at, bytes_at, is_folder_kind, is_file_kind, has_folder, parts_total, parts_same, Dir, Change, IsPath, is_name, Item, FolderCause, TooLarge, LoadFault, Refused, ReadFault, NoMemory, MAX_NODES, MAX_FILE_BYTES, path_below, all_below, walked, last_name, refused_kind, refused_bytes, refused_entry, node_of_kind, place_of, item_path, items_of, bytes_in, held_of, below_names, ahead, IsThere, IsEntered, AnswersEntry, AnswersFile, refused_path, IsNoRefusal, size_of}
use Rattle.fx_outside.specs.declared.kind.HostKind.TheVariants as kinds
use Rattle.fx_folder.proofs.Texts.{parts_place, fit_place, lets_place}
use Rattle.fx_folder.proofs.Below.{folder_fit}
use Rattle.fx_folder.proofs.Filled.{stands_in, folder_entry_is, none_below}
use Rattle.fx_folder.proofs.Branches.{all_sorted, find_below, items_ahead, items_there, find_none}

-- ---- the host path of names below a folder

pub parts_of_text : (folder text : List ℕ) (p : Parts) → IsPath p → 47 ∷ text ≡ place_of p → parts (path_below folder text) ≡ parts folder ++ p
parts_of_text folder text p path is = ap (λ l. parts (folder ++ l)) is ∙ parts_place folder p path.names

pub fit_of_text : (folder text : List ℕ) (p : Parts) → IsPath p → 47 ∷ text ≡ place_of p → is_fit folder ≡ true → is_fit (path_below folder text) ≡ true
fit_of_text folder text p path is fit = ap (λ l. is_fit (folder ++ l)) is ∙ fit_place folder p fit path.names

pub lets_text : (may : List ℕ → Bool) (folder text : List ℕ) (p : Parts) → IsPath p → 47 ∷ text ≡ place_of p → LetsIn may folder → may (path_below folder text) ≡ true
lets_text may folder text p path is lets = ap (λ l. may (folder ++ l)) is ∙ lets_place may folder p lets path.names

entry_of_text : (t : Tree) (folder text : List ℕ) (p : Parts) → is_folder_at t folder ≡ true → IsPath p → 47 ∷ text ≡ place_of p → entry_at t (path_below folder text) ≡ get t (parts folder ++ p)
entry_of_text t folder text p here path is =
    ap (λ b. cond b (get t (parts (path_below folder text))) None) (fit_of_text folder text p path is (folder_fit t folder here))
    ∙ ap (get t) (parts_of_text folder text p path is)

-- an item that was passed, at its text
pub record IsPassed (folder text : List ℕ) (path : Parts) (x : Item) : Type 0 where
  pub spelled : 47 ∷ text ≡ place_of path
  pub is : path ≡ item_path x
  pub valid : IsPath path

pub passed_of : (folder text : List ℕ) (path : Parts) (x : Item) → 47 ∷ text ≡ place_of (item_path x) → path ≡ item_path x → IsPath path → IsPassed folder text path x
passed_of folder text path x is same valid = record { spelled = is ∙ ap place_of (sym same); is = same; valid = valid }

pub text_is : (text : List ℕ) (path p : Parts) → 47 ∷ text ≡ place_of p → path ≡ p → 47 ∷ text ≡ place_of path
text_is text path p is same = is ∙ ap place_of (sym same)

pub on_ok : {A E : Type 0} (r : Result A E) (P : Type 0) → P → OnOk r P
on_ok (Ok x) P p = p
on_ok (Err e) P p = tt

kind_is : (test : HostKind → Bool) (o : Option Entry) (k j : HostKind) → option_map (λ e. e.kind) o ≡ Some k → k ≡ j → option_map_or (λ e. test e.kind) o false ≡ test j
kind_is test None k j e f = cc
kind_is test (Some entry) k j e f = let same : entry.kind ≡ j = cc in ap test same

entry_of_item : (t : Tree) (folder text : List ℕ) (path : Parts) (x : Item) → is_folder_at t folder ≡ true → IsPassed folder text path x → entry_at t (path_below folder text) ≡ get t (parts folder ++ item_path x)
entry_of_item t folder text path x here passed = entry_of_text t folder text path here passed.valid passed.spelled ∙ ap (λ q. get t (parts folder ++ q)) passed.is

-- what stands at the text is of the item's kind
pub kind_there : (test : HostKind → Bool) (told : Option Tree) (folder text : List ℕ) (path : Parts) (x : Item) (j : HostKind) → IfSome told (λ t. (is_folder_at t folder ≡ true) × IsThere t (parts folder) x) → IsPassed folder text path x → x.kind ≡ j → IfSome told (λ t. option_map_or (λ e. test e.kind) (entry_at t (path_below folder text)) false ≡ test j)
kind_there test None folder text path x j there passed kind = tt
kind_there test (Some t) folder text path x j there passed kind = ap (λ o. option_map_or (λ e. test e.kind) o false) (entry_of_item t folder text path x there.0 passed) ∙ kind_is test _ x.kind j there.1.kind kind

-- ---- refusals of an entry

known : (a b : Bool) (o : Option FolderCause) (c d : FolderCause) → cond a (cond b None (Some c)) (Some d) ≡ None → cond a (cond b o (Some c)) (Some d) ≡ o
known true true o c d e = refl
known true false o c d e = cc
known false b o c d e = cc

entry_known : (nodes left : ℕ) (p : Parts) (e : Entry) → refused_path nodes p ≡ None → refused_entry nodes left (p, e) ≡ option_or (refused_kind p e.kind) (refused_bytes left p e.bytes)
entry_known nodes left p e none = known (is_name (last_name p)) (nat_le (length p) 64 && nat_lt nodes MAX_NODES) _ _ _ none

-- ---- what an item is loaded as

bytes_of_item : (t : Tree) (folder text : List ℕ) (path : Parts) (x : Item) → is_folder_at t folder ≡ true → IsPassed folder text path x → bytes_at t (path_below folder text) ≡ bytes_in t (parts folder ++ item_path x)
bytes_of_item t folder text path x here passed = ap (λ o. option_map_or (λ (e : Entry). e.bytes) o []) (entry_of_item t folder text path x here passed)

pub file_told : (told : Option Tree) (folder text : List ℕ) (path : Parts) (nodes left : ℕ) (x : Item) (result : Result Change LoadFault) → IfSome told (λ t. (is_folder_at t folder ≡ true) × IsThere t (parts folder) x) → refused_path nodes (item_path x) ≡ None → IsPassed folder text path x → x.kind ≡ kinds.File → IfSome told (λ t. AnswersFile left path (bytes_at t (path_below folder text)) result) → IfSome told (λ t. AnswersEntry nodes left (held_of t (parts folder) x) result)
file_told None folder text path nodes left x result there none passed kind answer = tt
file_told (Some t) folder text path nodes left x result there none passed kind answer = by result (subst (λ b. AnswersFile left (item_path x) b result) (bytes_of_item t folder text path x there.0 passed) (subst (λ q. AnswersFile left q (bytes_at t (path_below folder text)) result) passed.is answer))
  where
    refusal : refused_entry nodes left (held_of t (parts folder) x) ≡ refused_bytes left (item_path x) (bytes_in t (parts folder ++ item_path x))
    refusal = entry_known nodes left (item_path x) (held_of t (parts folder) x).1 none ∙ ap (λ k. option_or (refused_kind (item_path x) k) (refused_bytes left (item_path x) (bytes_in t (parts folder ++ item_path x)))) kind

    by : (r : Result Change LoadFault) → AnswersFile left (item_path x) (bytes_in t (parts folder ++ item_path x)) r → AnswersEntry nodes left (held_of t (parts folder) x) r
    by (Ok change) a = (
      refusal ∙ a.0,
      a.1 ∙ ap (λ k. record { path = item_path x; node = Some (node_of_kind k (bytes_in t (parts folder ++ item_path x))) }) (sym kind),
      ap size_of a.1,
    )
    by (Err (Refused cause)) a = refusal ∙ a
    by (Err ReadFault) a = tt
    by (Err NoMemory) a = tt

folder_bytes : (t : Tree) → IsWhole t → (q : Parts) (o : Option Entry) → get t q ≡ o → option_map (λ e. e.kind) o ≡ Some kinds.Folder → option_map_or (λ (e : Entry). e.bytes) o [] ≡ []
folder_bytes t whole q None is kind = refl
folder_bytes t whole q (Some e) is kind =
    let fifth_is = fifth_true (not (length q == 0)) (list_all is_fit_part q) (list_all has_no_slash q) (has_folder t (above q)) (is_file_kind e.kind || length e.bytes == 0) (whole.placed q e is) in
    let folder : e.kind ≡ kinds.Folder = cc in
    no_length e.bytes (ap (λ k. is_file_kind k || length e.bytes == 0) (sym folder) ∙ fifth_is)

no_size : (left : ℕ) (p : Parts) → refused_bytes left p [] ≡ None
no_size left p = let small : (nat_lt MAX_FILE_BYTES 0 || nat_lt left 0) ≡ false = grind (arith, nat_tests) in ap (λ b. cond b (Some (TooLarge (place_of p))) None) small

pub folder_result : (told : Option Tree) → IfSome told IsWhole → (folder text : List ℕ) (path : Parts) (nodes left : ℕ) (x : Item) (r : Result Change LoadFault) → IfSome told (λ t. (is_folder_at t folder ≡ true) × IsThere t (parts folder) x) → refused_path nodes (item_path x) ≡ None → IsPassed folder text path x → x.kind ≡ kinds.Folder → IfOk r (λ change. change ≡ record { path = path; node = Some (Dir []) }) → IfErr r IsNoRefusal → IfSome told (λ t. AnswersEntry nodes left (held_of t (parts folder) x) r)
folder_result None whole folder text path nodes left x r there none passed kind is cause = tt
folder_result (Some t) whole folder text path nodes left x (Ok change) there none passed kind is cause =
    let p = item_path x in
    let empty : bytes_in t (parts folder ++ p) ≡ [] = folder_bytes t whole (parts folder ++ p) (get t (parts folder ++ p)) refl (there.1.kind ∙ ap Some kind) in (
      entry_known nodes left p (held_of t (parts folder) x).1 none ∙ ap (λ k. option_or (refused_kind p k) (refused_bytes left p (bytes_in t (parts folder ++ p)))) kind ∙ ap (refused_bytes left p) empty ∙ no_size left p,
      is ∙ ap (λ q. record { path = q; node = Some (Dir []) }) passed.is ∙ ap (λ k. record { path = p; node = Some (node_of_kind k (bytes_in t (parts folder ++ p))) }) (sym kind),
      ap size_of is ∙ ap length (sym empty),
    )
folder_result (Some t) whole folder text path nodes left x (Err (Refused why)) there none passed kind is cause = absurd cause
folder_result (Some t) whole folder text path nodes left x (Err ReadFault) there none passed kind is cause = tt
folder_result (Some t) whole folder text path nodes left x (Err NoMemory) there none passed kind is cause = tt

-- ---- what is to be walked behind an item

nothing_below : (t : Tree) → IsWhole t → (P : Parts) → has_folder t P ≡ false → all_below t P ≡ []
nothing_below t whole P missing = same_entries parts_cmp parts_total parts_same (all_below t P) [] (all_sorted t P) tt by
  where
    by : (q : Parts) → find parts_cmp q (all_below t P) ≡ None
    by [] = find_none t P
    by (a ∷ r) = find_below t P a r ∙ none_below t whole P (λ n. none_if_never _ λ x is. never_both (has_folder t P) (stands_in t whole P n x is) missing) a r

pushed_folder : (t : Tree) (at p : Parts) (n : List ℕ) → has_folder t (at ++ (p ++ n ∷ [])) ≡ option_map_or (λ e. is_folder_kind e.kind) (get t (at ++ (p ++ n ∷ []))) false
pushed_folder t at p n = ap (has_folder t) (sym (append_assoc at p (n ∷ []))) ∙ folder_entry_is t (at ++ p) n [] ∙ ap (λ q. option_map_or (λ (e : Entry). is_folder_kind e.kind) (get t q) false) (append_assoc at p (n ∷ []))

file_entered : (t : Tree) → IsWhole t → (at : Parts) (x : Item) (todo : List Item) → IsThere t at x → x.kind ≡ kinds.File → IsEntered t at (item_path x) todo todo
file_entered t whole at x todo there kind = record {
  ahead = ap (λ l. walked (map (below_names (item_path x)) l ++ ahead t at todo)) (sym (nothing_below t whole (at ++ item_path x) (pushed_folder t at x.parent x.name ∙ kind_is is_folder_kind (get t (at ++ item_path x)) x.kind kinds.File there.kind kind)));
  there = λ are. are;
}

pub entered_file : (told : Option Tree) → IfSome told IsWhole → (folder : List ℕ) (x : Item) (todo todo' : List Item) → IfSome told (λ t. (is_folder_at t folder ≡ true) × IsThere t (parts folder) x) → x.kind ≡ kinds.File → todo' ≡ todo → IfSome told (λ t. IsEntered t (parts folder) (item_path x) todo todo')
entered_file None whole folder x todo todo' there kind same = tt
entered_file (Some t) whole folder x todo todo' there kind same = subst (λ l. IsEntered t (parts folder) (item_path x) todo l) (sym same) (file_entered t whole (parts folder) x todo there.1 kind)

pub entered_folder : (told : Option Tree) → IfSome told IsWhole → (folder text : List ℕ) (path : Parts) (x : Item) (names : Names) (todo todo' : List Item) → IsPassed folder text path x → todo' ≡ todo ++ items_of path (entries names) → IfSome told (λ t. Lists t (parts (path_below folder text)) names) → IfSome told (λ t. IsEntered t (parts folder) (item_path x) todo todo')
entered_folder None whole folder text path x names todo todo' passed is lists = tt
entered_folder (Some t) whole folder text path x names todo todo' passed is lists =
    let at = parts folder in
    let p = item_path x in
    let listed : Lists t (at ++ p) names = subst (λ q. Lists t (at ++ q) names) passed.is (subst (λ q. Lists t q names) (parts_of_text folder text path passed.valid passed.spelled) lists) in
    let new : todo' ≡ todo ++ items_of p (entries names) = is ∙ ap (λ q. todo ++ items_of q (entries names)) passed.is in
    subst (λ l. IsEntered t at p todo l) (sym new) (record { ahead = items_ahead t whole at p names todo listed; there = items_there t at p names todo listed })
