-- Items of a folder: which entry is its table, and where an item stands.
use Rattle.fx_folder.proofs.Prelude.{◌≡◌, ℕ, zero, suc, ◌+◌, ◌<◌, ◌≤◌, Bool, true, false, cond, List, [], ◌∷◌, ◌++◌, length, drop, None, Some, refl, sym, ◌∙◌, ap, arith, append_assoc, append-nil, bytes_eq, slice_get, false≢true, same_Some, All-head, bytes_eq-Decides, none_past, HostKind, Parts, IsName, IsPath, Item, table_name, in_table, item, items_of}
use Rattle.fx_store.specs.Names.{is_name}

pub reserved : is_name table_name ≡ false
unfolding is_name
reserved = refl

name_apart : (m : List ℕ) → IsName m → bytes_eq m table_name ≡ false
name_apart m is = by (bytes_eq m table_name) refl
  where
    by : (b : Bool) → bytes_eq m table_name ≡ b → b ≡ false
    by false e = refl
    by true e = absurd (false≢true (sym reserved ∙ (ap is_name (sym ((bytes_eq-Decides m table_name).0 e)) ∙ is)))

-- only an entry of the root can be the table
pub deep_apart : (p : Parts) (n : List ℕ) → IsPath p → 0 < length p → in_table (p ++ n ∷ []) ≡ false
deep_apart [] n path some = absurd (omega arith)
deep_apart (m ∷ p) n path some = name_apart m (All-head IsName m p path.names)

pub at_root : (p : Parts) (n : List ℕ) (b : Bool) → length p ≤ 0 → b ≡ bytes_eq n table_name → b ≡ in_table (p ++ n ∷ [])
at_root [] n b none is = is
at_root (m ∷ p) n b none is = absurd (omega arith)

drop_at : {A : Type 0} (xs : List A) (i : ℕ) (x : A) → slice_get xs i ≡ Some x → drop i xs ≡ x ∷ drop (suc i) xs
drop_at [] i x is = cc
drop_at (y ∷ xs) zero x is = ap (λ z. z ∷ xs) (same_Some y x is)
drop_at (y ∷ xs) (suc i) x is = drop_at xs i x is

pub not_past : {A : Type 0} (xs : List A) (i : ℕ) → i < length xs → None ≡ slice_get xs i → ⊥
not_past xs i lt none = let le = none_past xs i (sym none) in omega arith

after : (i j : ℕ) → j ≡ i + 1 → suc i ≡ j
after i j e = omega arith

pub nothing_left : (p : Parts) (es : List (List ℕ × HostKind)) (n : ℕ) (old : List Item) → length es ≤ n → old ≡ old ++ items_of p (drop n es)
nothing_left p es n old le = sym (ap (λ l. old ++ items_of p l) (drop_all es n le) ∙ append-nil old)
  where
    drop_all : (xs : List (List ℕ × HostKind)) (i : ℕ) → length xs ≤ i → drop i xs ≡ []
    drop_all [] zero h = refl
    drop_all [] (suc i) h = refl
    drop_all (x ∷ xs) zero h = absurd (omega arith)
    drop_all (x ∷ xs) (suc i) h = drop_all xs i (omega arith)

-- one entry more becomes an item, unless it is the table
pub one_item : (p : Parts) (es : List (List ℕ × HostKind)) (i j : ℕ) (n : List ℕ) (k : HostKind) (old todo : List Item) → j ≡ i + 1 → Some (n, k) ≡ slice_get es i → todo ≡ old ++ items_of p (drop j es) → in_table (p ++ n ∷ []) ≡ false → todo ++ item p (n, k) ∷ [] ≡ old ++ items_of p (drop i es)
one_item p es i j n k old todo next is so other =
    let at : drop i es ≡ (n, k) ∷ drop j es = drop_at es i (n, k) (sym is) ∙ ap (λ m. (n, k) ∷ drop m es) (after i j next) in
    ap (λ l. l ++ item p (n, k) ∷ []) so
    ∙ append_assoc old (items_of p (drop j es)) (item p (n, k) ∷ [])
    ∙ ap (λ b. old ++ (items_of p (drop j es) ++ cond b [] (item p (n, k) ∷ []))) (sym other)
    ∙ ap (λ l. old ++ items_of p l) (sym at)

pub no_item : (p : Parts) (es : List (List ℕ × HostKind)) (i j : ℕ) (n : List ℕ) (k : HostKind) (old todo : List Item) → j ≡ i + 1 → Some (n, k) ≡ slice_get es i → todo ≡ old ++ items_of p (drop j es) → in_table (p ++ n ∷ []) ≡ true → todo ≡ old ++ items_of p (drop i es)
no_item p es i j n k old todo next is so table =
    let at : drop i es ≡ (n, k) ∷ drop j es = drop_at es i (n, k) (sym is) ∙ ap (λ m. (n, k) ∷ drop m es) (after i j next) in
    so ∙ ap (λ l. old ++ l) (sym (append-nil (items_of p (drop j es))))
    ∙ ap (λ b. old ++ (items_of p (drop j es) ++ cond b [] (item p (n, k) ∷ []))) (sym table)
    ∙ ap (λ l. old ++ items_of p l) (sym at)
