-- Texts are read as what they spell.
use Rattle.std.proofs.Common.{◌≡◌, ℕ, ◌<◌, Bool, true, false, cond, ◌&&◌, List, [], ◌∷◌, ◌++◌, length, Ok, Err, All, refl, sym, ap, subst, ◌∙◌, arith}
use Rattle.std.specs.Prelude.{nat_lt, is_ok}
use Rattle.std.specs.List.{list_any, list_all, slice_split, join_with_byte}
use Rattle.std.proofs.lemmas.Bool.{false≢true, eqb-true, not-true, or_parts}
use Rattle.std.proofs.lemmas.List.{append-nil}
use Rattle.std.proofs.lemmas.List.Elements.{All-nil, All-cons, All-head, All-tail}
use Rattle.std.proofs.lemmas.List.Splits.{slice_split_none, slice_split_at, length-slice_split, join_with_byte-slice_split}
use Rattle.fx_base.proofs.Booleans.{second_true, first_true}
use Rattle.fx_base.proofs.Lists.{all_pass}
use Rattle.fx_base.proofs.Results.{chosen_ok}
use Rattle.fx_store.specs.declared.name.PathFault.TheVariants.{BadName, TooDeep}
use Rattle.fx_store.specs.Names.{is_slash, is_name, IsName, parts, path_text}
use Rattle.fx_store.specs.Faults.{path_of, joined, extended, read_path}
use Rattle.fx_store.specs.Spelling.{SpellsPath, SpellsNames, ReadsPathText, ExtendsBySpelling}

-- ---- tests and lists

none_pass : {X : Type 0} (p : X → Bool) (xs : List X) → list_any p xs ≡ false → All (λ x. p x ≡ false) xs
none_pass p [] e = All-nil (λ x. p x ≡ false)
none_pass p (x ∷ xs) e = let both = or_parts (p x) (list_any p xs) e in All-cons (λ x. p x ≡ false) x xs both.0 (none_pass p xs both.1)

passes_all : {X : Type 0} (p : X → Bool) (xs : List X) → All (λ x. p x ≡ true) xs → list_all p xs ≡ true
passes_all p [] all = refl
passes_all p (x ∷ xs) all = ap (λ b. b && list_all p xs) (All-head (λ x. p x ≡ true) x xs all) ∙ passes_all p xs (All-tail (λ x. p x ≡ true) x xs all)

-- ---- names

-- what a name's test says of its parts, from left to right
name_has_no_slash : (n : List ℕ) → IsName n → All (λ b. is_slash b ≡ false) n
unfolding is_name
name_has_no_slash n h = none_pass is_slash n (not-true _ (second_true _ _ (first_true _ _ (first_true _ _ (first_true _ _ h)))))

no_empty_name : IsName [] → ⊥
unfolding is_name
no_empty_name h = false≢true h

-- ---- parts and joints

split_joined : (n : List ℕ) (ns : List (List ℕ)) → All IsName (n ∷ ns) → slice_split is_slash (join_with_byte 47 (n ∷ ns)) ≡ n ∷ ns
split_joined n [] all = slice_split_none is_slash n (name_has_no_slash n (All-head IsName n [] all))
split_joined n (m ∷ ns) all =
    slice_split_at is_slash n 47 (join_with_byte 47 (m ∷ ns)) (name_has_no_slash n (All-head IsName n (m ∷ ns) all)) refl
    ∙ ap (λ ps. n ∷ ps) (split_joined m ns (All-tail IsName n (m ∷ ns) all))

-- a path goes on by a name as by that part alone
pub extended_by_name : (path : List (List ℕ)) (text : List ℕ) → IsName text → extended path text ≡ joined path text
extended_by_name path text name =
    let alone : slice_split is_slash text ≡ text ∷ [] = slice_split_none is_slash text (name_has_no_slash text name) in
    let passes : list_all is_name (text ∷ []) ≡ true = ap (λ b. b && true) name in
    (λ i. cond (list_all is_name (alone i)) (path_of (path ++ alone i)) (Err BadName)) ∙ ap (λ b. cond b (joined path text) (Err BadName)) passes

joined_split : (text : List ℕ) → join_with_byte 47 (slice_split is_slash text) ≡ text
joined_split text = join_with_byte-slice_split 47 text

split_some : (text : List ℕ) → 0 < length (slice_split is_slash text)
split_some text = omega (arith, length-slice_split is_slash text)

text_of_names : (n : List ℕ) (ns : List (List ℕ)) → path_text (n ∷ ns) ≡ 47 ∷ join_with_byte 47 (n ∷ ns)
text_of_names n [] = ap (λ bs. 47 ∷ bs) (append-nil n)
text_of_names n (m ∷ ns) = ap (λ bs. 47 ∷ (n ++ bs)) (text_of_names m ns)

text_of_some : (ns : List (List ℕ)) → 0 < length ns → path_text ns ≡ 47 ∷ join_with_byte 47 ns
text_of_some [] some = absurd (omega arith)
text_of_some (n ∷ ns) some = text_of_names n ns

-- the joined names begin with a byte, so their parts are the names
parts_joined : (n : List ℕ) (ns : List (List ℕ)) → All IsName (n ∷ ns) → parts (join_with_byte 47 (n ∷ ns)) ≡ n ∷ ns
parts_joined [] ns all = absurd (no_empty_name (All-head IsName [] ns all))
parts_joined (b ∷ bs) [] all = split_joined (b ∷ bs) [] all
parts_joined (b ∷ bs) (m ∷ ns) all = split_joined (b ∷ bs) (m ∷ ns) all

-- ---- answers

not_deep : {A : Type 0} (b : Bool) (x a : A) → cond b (Err TooDeep) (Ok x) ≡ Ok a → x ≡ a
not_deep {A} true x a e = absurd (false≢true (ap is_ok e))
not_deep {A} false x a e = cc

path_of_ok : (names path : List (List ℕ)) → path_of names ≡ Ok path → names ≡ path
path_of_ok names path e = not_deep (nat_lt 64 (length names)) names path e

-- ---- the laws

read_spelled : (text : List ℕ) (path : List (List ℕ)) → SpellsPath text path → read_path text ≡ path_of path
read_spelled text [] s = ap read_path (sym s.spelled)
read_spelled text (n ∷ ns) s =
    ap read_path (sym s.spelled ∙ text_of_names n ns)
    ∙ (ap (λ ps. cond (list_all is_name ps) (path_of ps) (Err BadName)) (parts_joined n ns s.names)
    ∙ ap (λ b. cond b (path_of (n ∷ ns)) (Err BadName)) (passes_all is_name (n ∷ ns) s.names))

spelled_parts : (bs : List ℕ) → path_text (parts bs) ≡ 47 ∷ bs
spelled_parts [] = refl
spelled_parts (b ∷ bs) = text_of_some (slice_split is_slash (b ∷ bs)) (split_some (b ∷ bs)) ∙ ap (λ t. 47 ∷ t) (joined_split (b ∷ bs))

read_after : (bs : List ℕ) (path : List (List ℕ)) → cond (list_all is_name (parts bs)) (path_of (parts bs)) (Err BadName) ≡ Ok path → SpellsPath (47 ∷ bs) path
read_after bs path e =
    let both = chosen_ok (list_all is_name (parts bs)) (path_of (parts bs)) BadName path e in
    let same = path_of_ok (parts bs) path both.1 in
    record { names = subst (All IsName) same (all_pass is_name (parts bs) both.0); spelled = ap path_text (sym same) ∙ spelled_parts bs }

read_by : (slash : Bool) (b : ℕ) (bs : List ℕ) (path : List (List ℕ)) → is_slash b ≡ slash → cond slash (cond (list_all is_name (parts (cond slash bs (b ∷ bs)))) (path_of (parts (cond slash bs (b ∷ bs)))) (Err BadName)) (Err BadName) ≡ Ok path → SpellsPath (b ∷ bs) path
read_by true b bs path is e = subst (λ c. SpellsPath (c ∷ bs) path) (sym (eqb-true b 47 is)) (read_after bs path e)
read_by false b bs path is e = absurd (false≢true (ap is_ok e))

read_spells : (text : List ℕ) (path : List (List ℕ)) → read_path text ≡ Ok path → SpellsPath text path
read_spells [] path e = absurd (false≢true (ap is_ok e))
read_spells (b ∷ bs) path e = read_by (is_slash b) b bs path refl e

pub path_texts_read : (text : List ℕ) (path : List (List ℕ)) → ReadsPathText text path
path_texts_read text path = record { reads = read_spelled text path; spells = read_spells text path }

extended_spelled : (from : List (List ℕ)) (text : List ℕ) (names : List (List ℕ)) → SpellsNames text names → extended from text ≡ path_of (from ++ names)
extended_spelled from text [] s = absurd (omega (arith, s.some))
extended_spelled from text (n ∷ ns) s =
    let split : slice_split is_slash text ≡ n ∷ ns = ap (slice_split is_slash) (sym s.spelled) ∙ split_joined n ns s.valid in
    ap (λ ps. cond (list_all is_name ps) (path_of (from ++ ps)) (Err BadName)) split
    ∙ ap (λ b. cond b (path_of (from ++ n ∷ ns)) (Err BadName)) (passes_all is_name (n ∷ ns) s.valid)

extended_spells : (from : List (List ℕ)) (text : List ℕ) (path : List (List ℕ)) → extended from text ≡ Ok path → (names : List (List ℕ)) × (path ≡ from ++ names) × SpellsNames text names
extended_spells from text path e =
    let ps = slice_split is_slash text in
    let both = chosen_ok (list_all is_name ps) (path_of (from ++ ps)) BadName path e in
    (ps, sym (path_of_ok (from ++ ps) path both.1), record { valid = all_pass is_name ps both.0; some = split_some text; spelled = joined_split text })

pub paths_go_on : (from : List (List ℕ)) (text : List ℕ) (path : List (List ℕ)) → ExtendsBySpelling from text path
paths_go_on from text path = record { extends = extended_spelled from text; spells = extended_spells from text path }
