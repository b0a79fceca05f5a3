-- What stands below a place of a host's tree, and a folder that is ready to be filled.
use Rattle.fx_folder.proofs.Prelude.{◌≡◌, ◌≢◌, ℕ, Bool, true, false, not, ◌==◌, cond, ◌&&◌, ◌||◌, List, [], ◌∷◌, ◌++◌, length, Option, Some, None, refl, sym, ◌∙◌, ap, subst, arith, append_assoc, is_eq, eq_by_cmp, tied_itself, list_all, option_map_or, get, get-insert, nat_tests, length-slice_split, fifth_true, chosen_some, none_if_never, pushed_some, above_pushed, HostKind, Parts, parts, parts_cmp, above, is_fit, is_fit_part, has_no_slash, Tree, Entry, folder, has_folder, entry_at, is_folder_kind, is_file_kind, parts_total, longer, IsReady, with_folder, IsOpen, Out, Absent, Empty}
use Rattle.fx_outside.specs.declared.kind.HostKind.TheVariants as kinds
use Rattle.fx_outside.specs.Tree as tree

-- below a place where nothing stands, nothing stands

fourth : (a b c d r : Bool) → (a && (b && (c && (d && r)))) ≡ true → d ≡ true
fourth true true true true r e = refl
fourth true true true false r e = cc
fourth true true false d r e = cc
fourth true false c d r e = cc
fourth false b c d r e = cc

not_none : (o : Option Entry) → o ≡ None → option_map_or (λ e. is_folder_kind e.kind) o false ≡ true → ⊥
not_none None e h = cc
not_none (Some x) e h = cc

no_folder : (t : Tree) (at : Parts) → at ≢ [] → get t at ≡ None → has_folder t at ≡ true → ⊥
no_folder t [] some none there = some refl
no_folder t (a ∷ at) some none there = not_none (get t (a ∷ at)) none there

-- an entry stands in a folder
pub stands_in : (t : Tree) → tree.IsWhole t → (at : Parts) (n : List ℕ) (e : Entry) → get t (at ++ n ∷ []) ≡ Some e → has_folder t at ≡ true
stands_in t whole at n e is =
    let p = at ++ n ∷ [] in
    let placed = whole.placed p e is in
    let around = fourth (not (length p == 0)) (list_all is_fit_part p) (list_all has_no_slash p) (has_folder t (above p)) (is_file_kind e.kind || length e.bytes == 0) placed in
    subst (λ q. has_folder t q ≡ true) (above_pushed at n) around

-- below the root a folder stands where its entry does
pub folder_entry_is : (t : Tree) (P : Parts) (n : List ℕ) (r : Parts) → has_folder t (P ++ n ∷ r) ≡ option_map_or (λ x. is_folder_kind x.kind) (get t (P ++ n ∷ r)) false
folder_entry_is t [] n r = refl
folder_entry_is t (p ∷ P) n r = refl

-- a place with no entry has none in it
pub none_in : (t : Tree) → tree.IsWhole t → (at : Parts) → at ≢ [] → get t at ≡ None → (n : List ℕ) → get t (at ++ n ∷ []) ≡ None
none_in t whole at some none n = none_if_never _ λ e is. no_folder t at some none (stands_in t whole at n e is)

-- a folder with no entry has nothing below
pub none_below : (t : Tree) → tree.IsWhole t → (at : Parts) → ((n : List ℕ) → get t (at ++ n ∷ []) ≡ None) → (a : List ℕ) (r : Parts) → get t (at ++ a ∷ r) ≡ None
none_below t whole at empty a [] = empty a
none_below t whole at empty a (b ∷ r) =
    let deeper = none_below t whole (at ++ a ∷ []) (none_in t whole (at ++ a ∷ []) (pushed_some at a) (empty a)) b r in
    ap (get t) (sym (append_assoc at (a ∷ []) (b ∷ r))) ∙ deeper

-- a folder in which files may be written: it stands there, or is made first, and nothing is in it
pub record CanFill (t : Tree) (at : Parts) (there : Out) : Type 0 where
  pub some : at ≢ []
  pub folder : get (with_folder t at there) at ≡ Some folder
  pub empty : (n : List ℕ) → get t (at ++ n ∷ []) ≡ None

pub beside_folder : (t : Tree) (at : Parts) (there : Out) (q : Parts) → eq_by_cmp parts_cmp q at ≡ false → get (with_folder t at there) q ≡ get t q
beside_folder t at Empty q apart = refl
beside_folder t at Absent q apart = get-insert parts_total t at folder q ∙ ap (λ b. cond b (Some folder) (get t q)) apart

no_bytes : (n : ℕ) (bytes : List ℕ) → (length bytes == 0) ≡ true → bytes ≡ []
no_bytes n [] e = refl
no_bytes n (b ∷ bytes) e = let long : (length (b ∷ bytes) == 0) ≡ false = grind (arith, nat_tests) in cc

of_kind : (kind : HostKind) (bytes : List ℕ) → is_folder_kind kind ≡ true → (is_file_kind kind || length bytes == 0) ≡ true → ◌≡◌ {A = Entry} (record { kind = kind; bytes = bytes }) folder
of_kind kinds.File bytes f e = cc
of_kind kinds.Folder bytes f e = ap (λ b. record { kind = kinds.Folder; bytes = b }) (no_bytes 0 bytes e)
of_kind kinds.Other bytes f e = cc

parts_some : (path : List ℕ) → parts path ≢ []
parts_some path none = absurd (omega (arith, length-slice_split (λ b. b == 47) path, ap length none))

cond_fit : {A : Type 0} (b : Bool) (x y : A) → b ≡ true → cond b x y ≡ x
cond_fit true x y e = refl
cond_fit false x y e = cc

pub stands : (o : Option Entry) → option_map_or (λ e. is_folder_kind e.kind) o false ≡ true → (e : Entry) × (o ≡ Some e) × (is_folder_kind e.kind ≡ true)
stands None h = cc
stands (Some e) h = (e, refl, h)

-- a path where a folder is ready is fit
pub fit_of : (t : Tree) (path : List ℕ) (there : Out) → IsReady t path there → is_fit path ≡ true
fit_of t path Empty can =
    let here = stands (entry_at t path) can.0 in
    (chosen_some (is_fit path) (get t (parts path)) here.0 here.1).0
fit_of t path Absent can = can.0

-- a folder that is ready can be filled
pub can_fill : (t : Tree) (path : List ℕ) (there : Out) → tree.IsWhole t → IsReady t path there → CanFill t (parts path) there
can_fill t path Empty whole can =
    let here = stands (entry_at t path) can.0 in
    let e = here.0 in
    let p = parts path in
    let found = (chosen_some (is_fit path) (get t p) e here.1).1 in
    let placed = fifth_true (not (length p == 0)) (list_all is_fit_part p) (list_all has_no_slash p) (has_folder t (above p)) (is_file_kind e.kind || length e.bytes == 0) (whole.placed p e found) in
    record {
      some = parts_some path;
      folder = found ∙ ap Some (of_kind e.kind e.bytes here.2 placed);
      empty = can.1;
    }
can_fill t path Absent whole can =
    let none : get t (parts path) ≡ None = sym (cond_fit (is_fit path) (get t (parts path)) None can.0) ∙ can.1 in
    record {
      some = parts_some path;
      folder = get-insert parts_total t (parts path) folder (parts path) ∙ ap (λ b. cond b (Some folder) (get t (parts path))) (ap is_eq (tied_itself parts_total (parts path)));
      empty = none_in t whole (parts path) (parts_some path) none;
    }

-- and stands open then
pub opens : (t : Tree) (path : List ℕ) (there : Out) → tree.IsWhole t → IsReady t path there → IsOpen (with_folder t (parts path) there) path
opens t path there whole can =
    let fill = can_fill t path there whole can in
    record {
      fit = fit_of t path there can;
      folder = fill.folder;
      empty = λ name names. beside_folder t (parts path) there (parts path ++ name ∷ names) (longer (parts path) name names) ∙ none_below t whole (parts path) fill.empty name names;
    }
