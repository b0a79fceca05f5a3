-- Names and paths: what stands behind a path, what a name and a path's text are made of, and what a directory lists. The crate below has more, in its page Names.
use Rattle.std.proofs.Common.{◌≡◌, ℕ, suc, ◌<◌, ◌≤◌, Bool, true, false, cond, ◌||◌, List, [], ◌∷◌, ◌++◌, length, Some, None, Ok, Err, All, refl, ap, ◌∙◌, arith, length-append}
use Rattle.std.specs.declared.cmp.Ordering.TheVariants.{Less}
use Rattle.std.specs.Ordering.{eq_by_cmp}
use Rattle.std.specs.List.{list_all, flat_map}
use Rattle.std.specs.Str.{is_utf8}
use Rattle.std.proofs.lemmas.Bool.{le-ltb}
use Rattle.std.proofs.lemmas.Bool.Decides.{nat_tests}
use Rattle.std.proofs.lemmas.List.Elements.{All-nil, All-cons, All-head, All-tail, All-append, All-push}
use Rattle.fx_base.proofs.Booleans.{second_true}
use Rattle.fx_base.proofs.Lists.{all_pass}
use Rattle.fx_base.proofs.Names.{name_itself, name_is}
use Rattle.fx_base.proofs.Orders.{bytes_tie}
use Rattle.fx_base.proofs.TextBytes.{utf8_bytes}
use Rattle.fx_text.specs.Sets.{has_text}
use Rattle.fx_store.specs.declared.name.PathFault.TheVariants.{TooDeep}
use Rattle.fx_store.specs.Faults.{read_path}
use Rattle.fx_store.specs.Names.{name_cmp, path_cmp, is_name, IsName, IsPath, has, path_text, rest_of}
use Rattle.fx_store.specs.Resolve.{◌/ₚ◌}
use Rattle.fx_store.proofs.SpellingLaws.{path_texts_read}

-- ---- what stands behind a path

pub rest_append : (at path : List (List ℕ)) → rest_of at (at ++ path) ≡ Some path
rest_append [] path = refl
rest_append (a ∷ at) path = ap (λ b. cond b (rest_of at (at ++ path)) None) (name_itself a) ∙ rest_append at path

pub rest_is : (at q path : List (List ℕ)) → rest_of at q ≡ Some path → q ≡ at ++ path
rest_is [] q path e = cc
rest_is (a ∷ at) [] path e = cc
rest_is (a ∷ at) (b ∷ q) path e = by (eq_by_cmp name_cmp a b) refl e (rest_is at q path)
  where
    by : (t : Bool) → eq_by_cmp name_cmp a b ≡ t → cond t (rest_of at q) None ≡ Some path → (rest_of at q ≡ Some path → q ≡ at ++ path) → b ∷ q ≡ a ∷ (at ++ path)
    by true f h rest = let same : a ≡ b = name_is a b f in let tail : q ≡ at ++ path = rest h in cc
    by false f h rest = cc

-- the root comes before all other paths
pub root_first : (p : List (List ℕ)) → 0 < length p → path_cmp [] p ≡ Less
root_first [] some = absurd (omega arith)
root_first (n ∷ p) some = refl

-- ---- one more name

pub length_below : (q : List (List ℕ)) (n : List ℕ) → length (q /ₚ n) ≡ suc (length q)
length_below q n = omega (arith, length-append q (n ∷ []))

pub path_below : (q : List (List ℕ)) (n : List ℕ) → IsPath q → IsName n → length q < 64 → IsPath (q /ₚ n)
path_below q n path name room = record { names = All-push IsName q n path.names name; short = omega (arith, room, length_below q n) }

-- ---- names and texts as bytes

pub all_names : (names : List (List ℕ)) → list_all is_name names ≡ true → All IsName names
all_names names pass = all_pass is_name names pass

pub short_name : (name : List ℕ) → IsName name → length name ≤ 255
unfolding is_name
short_name name h = grind (arith, nat_tests)

pub name_bytes : (name : List ℕ) → IsName name → All (λ b. b < 256) name
unfolding is_name
name_bytes name is = utf8_bytes name (second_true _ (is_utf8 name) is)

names_bytes : (ns : List (List ℕ)) → All IsName ns → All (λ b. b < 256) (flat_map (λ n. 47 ∷ n) ns)
names_bytes [] all = All-nil (λ b. b < 256)
names_bytes (n ∷ ns) all =
    All-append (λ b. b < 256) (47 ∷ n) (flat_map (λ n. 47 ∷ n) ns) (All-cons (λ b. b < 256) 47 n (omega arith) (name_bytes n (All-head IsName n ns all))) (names_bytes ns (All-tail IsName n ns all))

pub path_bytes : (path : List (List ℕ)) → All IsName path → All (λ b. b < 256) (path_text path)
path_bytes [] all = All-cons (λ b. b < 256) 47 [] (omega arith) (All-nil (λ b. b < 256))
path_bytes (n ∷ ns) all = names_bytes (n ∷ ns) all

-- a path is read from its text
pub read_path_text : (p : List (List ℕ)) → IsPath p → read_path (path_text p) ≡ Ok p
read_path_text p is =
    (path_texts_read (path_text p) p).reads (record { names = is.names; spelled = refl }) ∙ ap (λ b. cond b (Err TooDeep) (Ok p)) (le-ltb 64 (length p) is.short)

-- ---- names that are listed

pub has_first : (n : List ℕ) (ns : List (List ℕ)) → has (n ∷ ns) n ≡ true
has_first n ns = ap (λ b. b || has ns n) (name_itself n)

-- the two tests of a name among others agree
pub has-text : (names : List (List ℕ)) (n : List ℕ) → has names n ≡ has_text n names
has-text [] n = refl
has-text (m ∷ names) n = λ i. bytes_tie n m i || has-text names n i
