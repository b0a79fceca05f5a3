-- What a folder's listing says of it.
use Rattle.fx_folder.proofs.Prelude.{Empty, IsReady, IsTaken, Names, name_cmp, parts, Entry, Lists, Tree, entry_at, is_folder_at, HostKind, IfSome, List, None, Option, Some, [], ap, cond, inr, length, option_map, refl, sym, true, ℕ, ◌++◌, ◌∙◌, ◌∷◌, ◌≡◌, tied_itself, nat_list_cmp_total, empty_of_len, entries, find, get, get-empty, get-entries, len, len-entries, is_eq}
use Rattle.fx_folder.proofs.Filled.{stands}

nothing_listed : (names : Names) → len names ≡ 0 → (q : List ℕ) → get names q ≡ None
nothing_listed names e q = ap (λ m. get m q) (empty_of_len names e) ∙ get-empty name_cmp q

first_found : (es : List (List ℕ × HostKind)) → (length es ≡ 0 → ⊥) → (name : List ℕ) × (kind : HostKind) × (find name_cmp name es ≡ Some kind)
first_found [] some = absurd (some refl)
first_found (e ∷ es) some = (e.0, e.1, ap (λ o. cond (is_eq o) (Some e.1) (find name_cmp e.0 es)) (tied_itself nat_list_cmp_total e.0))

first_listed : (names : Names) → (len names ≡ 0 → ⊥) → (name : List ℕ) × (kind : HostKind) × (get names name ≡ Some kind)
first_listed names some =
    let found = first_found (entries names) (λ e. some (len-entries names ∙ e)) in
    (found.0, found.1, get-entries names found.0 ∙ found.2)

none_mapped : (o : Option Entry) → None ≡ option_map (λ e. e.kind) o → o ≡ None
none_mapped None e = refl
none_mapped (Some x) e = cc

some_mapped : (o : Option Entry) (kind : HostKind) → Some kind ≡ option_map (λ e. e.kind) o → (x : Entry) × (o ≡ Some x)
some_mapped None kind e = cc
some_mapped (Some x) kind e = (x, refl)

pub is_ready : (told : Option Tree) (path : List ℕ) (names : Names) → IfSome told (λ tree. is_folder_at tree path ≡ true) → IfSome told (λ tree. Lists tree (parts path) names) → len names ≡ 0 → IfSome told (λ tree. IsReady tree path Empty)
is_ready None path names folder lists none = tt
is_ready (Some tree) path names folder lists none = (folder, λ name. none_mapped _ (sym (nothing_listed names none name) ∙ lists name))

pub is_taken : (told : Option Tree) (path : List ℕ) (names : Names) → IfSome told (λ tree. is_folder_at tree path ≡ true) → IfSome told (λ tree. Lists tree (parts path) names) → (len names ≡ 0 → ⊥) → IfSome told (λ tree. IsTaken tree path)
is_taken None path names folder lists some = tt
is_taken (Some tree) path names folder lists some =
    let here = stands (entry_at tree path) folder in
    let one = first_listed names some in
    let inside = some_mapped (get tree (parts path ++ one.0 ∷ [])) one.1 (sym one.2 ∙ lists one.0) in
    (here.0, here.1, inr (one.0, inside.0, inside.1))
