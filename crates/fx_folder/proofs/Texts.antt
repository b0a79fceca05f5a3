-- Paths of entries of a folder, as texts.
use Rattle.fx_folder.proofs.Prelude.{◌≡◌, inl, inr, ℕ, ◌==◌, ◌<◌, Bool, true, false, not, cond, ◌&&◌, ◌||◌, List, [], ◌∷◌, ◌++◌, length, All, append_assoc, append-nil, refl, sym, ◌∙◌, ap, arith, nat_lt, nat_le, bytes_eq, codes, list_all, list_any, slice_split, onto_first, is_utf8, cases_Bool, and_from, nat_tests, list_all-append, length-slice_split, IsName, is_slash, is_nul, is_reserved, LetsIn, Parts, parts, is_fit, is_fit_part, All-head, All-tail, second_true, first_true, path_below, table_name, place_of}
use Rattle.fx_store.specs.Names.{is_name}

-- what a name is, one fact after another
pub record NameParts (name : List ℕ) : Type 0 where
  pub some : nat_lt 0 (length name) ≡ true
  pub no_slash : not (list_any is_slash name) ≡ true
  pub unreserved : not (is_reserved name) ≡ true
  pub text : is_utf8 name ≡ true

pub name_parts : (name : List ℕ) → IsName name → NameParts name
unfolding is_name
name_parts name is =
    let a = nat_lt 0 (length name) in
    let b = nat_le (length name) 255 in
    let c = not (list_any is_slash name) in
    let d = not (list_any is_nul name) in
    let e = not (is_reserved name) in
    let to_e = first_true ((((a && b) && c) && d) && e) (is_utf8 name) is in
    let to_d = first_true (((a && b) && c) && d) e to_e in
    let to_c = first_true ((a && b) && c) d to_d in
    record {
      some = first_true a b (first_true (a && b) c to_c);
      no_slash = second_true (a && b) c to_c;
      unreserved = second_true (((a && b) && c) && d) e to_e;
      text = second_true ((((a && b) && c) && d) && e) (is_utf8 name) is;
    }

-- a text without a slash is one part

onto_joined : (b : ℕ) (xs ys : Parts) → 0 < length xs → onto_first b (xs ++ ys) ≡ onto_first b xs ++ ys
onto_joined b [] ys some = absurd (omega arith)
onto_joined b (x ∷ xs) ys some = refl

some_parts : (x : List ℕ) → 0 < length (slice_split (λ b. b == 47) x)
some_parts x = omega (arith, length-slice_split (λ b. b == 47) x)

parts_joined : (x y : List ℕ) → parts (x ++ 47 ∷ y) ≡ parts x ++ parts y
parts_joined [] y = refl
parts_joined (b ∷ x) y = elim (cases_Bool (b == 47)) [
  | inl slash ↦
      ap (λ t. cond t ([] ∷ parts (x ++ 47 ∷ y)) (onto_first b (parts (x ++ 47 ∷ y)))) slash ∙ ap (λ p. [] ∷ p) (parts_joined x y)
      ∙ ap (λ t. cond t ([] ∷ parts x) (onto_first b (parts x)) ++ parts y) (sym slash)
  | inr apart ↦
      ap (λ t. cond t ([] ∷ parts (x ++ 47 ∷ y)) (onto_first b (parts (x ++ 47 ∷ y)))) apart ∙ ap (onto_first b) (parts_joined x y)
      ∙ onto_joined b (parts x) (parts y) (some_parts x)
      ∙ ap (λ t. cond t ([] ∷ parts x) (onto_first b (parts x)) ++ parts y) (sym apart)
]

neither : (a b : Bool) → not (a || b) ≡ true → (a ≡ false) × (not b ≡ true)
neither true b e = cc
neither false b e = (refl, e)

one_part : (name : List ℕ) → not (list_any is_slash name) ≡ true → parts name ≡ name ∷ []
one_part [] e = refl
one_part (b ∷ name) e =
    let apart = neither (b == 47) (list_any is_slash name) e in
    ap (λ t. cond t ([] ∷ parts name) (onto_first b (parts name))) apart.0 ∙ ap (onto_first b) (one_part name apart.1)

pub parts_below : (folder name : List ℕ) → IsName name → parts (path_below folder name) ≡ parts folder ++ name ∷ []
parts_below folder name is = parts_joined folder name ∙ ap (λ p. parts folder ++ p) (one_part name (name_parts name is).no_slash)

-- a name can name an entry of the host

not_either : (a b c : Bool) → not ((a || b) || c) ≡ true → (not a && not b) ≡ true
not_either true b c e = cc
not_either false true c e = cc
not_either false false c e = refl

positive : (n : ℕ) → nat_lt 0 n ≡ true → not (n == 0) ≡ true
positive n e = grind (arith, nat_tests)

fit_name : (name : List ℕ) → IsName name → is_fit_part name ≡ true
fit_name name is =
    let p = name_parts name is in
    and_from (not (length name == 0)) _ (positive (length name) p.some) (not_either (bytes_eq name (codes ".")) (bytes_eq name (codes "..")) (bytes_eq name (codes ".forest-links")) p.unreserved)

pub fit_below : (folder name : List ℕ) → is_fit folder ≡ true → IsName name → is_fit (path_below folder name) ≡ true
fit_below folder name fit is =
    ap (list_all is_fit_part) (parts_below folder name is) ∙ list_all-append is_fit_part (parts folder) (name ∷ [])
    ∙ and_from (list_all is_fit_part (parts folder)) _ fit (and_from (is_fit_part name) true (fit_name name is) refl)

-- the path below a folder of the names of a filestore's path

named : (n : List ℕ) (p : Parts) → All IsName (n ∷ p) → IsName n
named n p all = All-head IsName n p all

pub parts_place : (folder : List ℕ) (p : Parts) → All IsName p → parts (folder ++ place_of p) ≡ parts folder ++ p
parts_place folder [] all = ap parts (append-nil folder) ∙ sym (append-nil (parts folder))
parts_place folder (n ∷ p) all =
    ap parts (sym (append_assoc folder (47 ∷ n) (place_of p))) ∙ parts_place (path_below folder n) p (All-tail IsName n p all)
    ∙ ap (λ q. q ++ p) (parts_below folder n (named n p all)) ∙ append_assoc (parts folder) (n ∷ []) p

pub fit_place : (folder : List ℕ) (p : Parts) → is_fit folder ≡ true → All IsName p → is_fit (folder ++ place_of p) ≡ true
fit_place folder [] fit all = ap is_fit (append-nil folder) ∙ fit
fit_place folder (n ∷ p) fit all =
    ap is_fit (sym (append_assoc folder (47 ∷ n) (place_of p))) ∙ fit_place (path_below folder n) p (fit_below folder n fit (named n p all)) (All-tail IsName n p all)

-- where a fence lets a folder through, it lets through what is below it by the names of a path

pub fit_alone : (name : List ℕ) → IsName name → is_fit name ≡ true
fit_alone name is = ap (list_all is_fit_part) (one_part name (name_parts name is).no_slash) ∙ and_from (is_fit_part name) true (fit_name name is) refl

pub lets_place : (may : List ℕ → Bool) (folder : List ℕ) (p : Parts) → LetsIn may folder → All IsName p → may (folder ++ place_of p) ≡ true
lets_place may folder [] lets all = ap may (append-nil folder) ∙ lets.itself
lets_place may folder (n ∷ p) lets all = lets.below (n ++ place_of p) (fit_place n p (fit_alone n (named n p all)) (All-tail IsName n p all))

-- a folder below it is let through too
pub lets_inner : (may : List ℕ → Bool) (folder name : List ℕ) → LetsIn may folder → is_fit name ≡ true → LetsIn may (path_below folder name)
lets_inner may folder name lets fit = record {
  itself = lets.below name fit;
  below = λ names fits. ap may (append_assoc folder (47 ∷ name) (47 ∷ names)) ∙ lets.below (name ++ 47 ∷ names) (ap (list_all is_fit_part) (parts_joined name names) ∙ list_all-append is_fit_part (parts name) (parts names) ∙ and_from (is_fit name) _ fit fits);
}

-- the table below a folder

pub lets_table : (may : List ℕ → Bool) (folder : List ℕ) → LetsIn may folder → may (path_below folder table_name) ≡ true
lets_table may folder lets = lets.below table_name refl

pub parts_table : (folder : List ℕ) → parts (path_below folder table_name) ≡ parts folder ++ table_name ∷ []
parts_table folder = parts_joined folder table_name ∙ ap (λ p. parts folder ++ p) (one_part table_name refl)

pub fit_table : (folder : List ℕ) → is_fit folder ≡ true → is_fit (path_below folder table_name) ≡ true
fit_table folder fit =
    ap (list_all is_fit_part) (parts_table folder) ∙ list_all-append is_fit_part (parts folder) (table_name ∷ []) ∙ and_from (is_fit folder) true fit refl
