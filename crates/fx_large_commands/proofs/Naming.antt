-- The names of the texts of a case: each is a name, and no two are the same.
use Rattle.std.proofs.Common.{◌≡◌, inl, inr, ℕ, zero, suc, ◌+◌, ◌<◌, ◌≤◌, ◌^◌, false, cond, List, [], ◌∷◌, ◌++◌, map, take, length, Some, None, refl, sym, ◌∙◌, ap, arith, codes}
use Rattle.std.specs.Prelude.{slice_get}
use Rattle.std.specs.Ordering.{eq_by_cmp}
use Rattle.std.specs.Str.{is_utf8, chars}
use Rattle.std.specs.FinMap.{find}
use Rattle.std.proofs.lemmas.Bool.{cases_Bool}
use Rattle.std.proofs.lemmas.Fmt.{decimal_digit, decimal_injective}
use Rattle.std.proofs.lemmas.List.{map-append, length-take-le}
use Rattle.std.proofs.lemmas.Option.{slice_get_within}
use Rattle.fx_store.specs.declared.node.Node.TheVariants.{File}
use Rattle.fx_store.specs.Names.{IsName, is_name, path_cmp}
use Rattle.fx_gen.specs.Scripts.{generated_scripts, scripts_to as generated_to}
use Rattle.fx_gen.proofs.Placing.{each_below}
use Rattle.fx_large_commands.specs.Case.{Case, scripts_from, script_name}
use Rattle.fx_large_commands.specs.Wrote.{Mapped, file_of, text_nodes, scripts_to}
use lib.Utf8.{encode}
use Rattle.fx_base.proofs.Lists.{take_next}
use Rattle.fx_base.proofs.Names.{path_is}

pub spec_named : IsName (codes "spec")
unfolding is_utf8 chars encode is_name
spec_named = refl

pub inner_named : IsName (codes "in")
unfolding is_utf8 chars encode is_name
inner_named = refl

digit_named : (n : ℕ) → n < 10 → IsName (115 ∷ (48 + n) ∷ [])
unfolding is_utf8 chars encode is_name
digit_named n h = each_below (λ n. is_name (115 ∷ (48 + n) ∷ [])) 10 refl n h

as_digit : (n : ℕ) → n < 10 → script_name n ≡ 115 ∷ (48 + n) ∷ []
as_digit n h = ap (λ ds. 115 ∷ ds) (decimal_digit n h)

pub script_named : (n : ℕ) → n < 10 → IsName (script_name n)
script_named n h = ap is_name (as_digit n h) ∙ digit_named n h

-- a path of one name that no earlier text has

apart : (p q : List (List ℕ)) → (p ≡ q → ⊥) → eq_by_cmp path_cmp p q ≡ false
apart p q other = elim (cases_Bool (eq_by_cmp path_cmp p q)) [
  | inl same ↦ absurd (other (path_is p q same))
  | inr isnt ↦ isnt
]

abbrev first_name : List (List ℕ) → List ℕ
first_name [] = []
first_name (name ∷ names) = name

abbrev digits_of : List ℕ → List ℕ
digits_of [] = []
digits_of (b ∷ bytes) = bytes

same_number : (i j : ℕ) → i < 2 ^ 64 → j < 2 ^ 64 → script_name i ∷ [] ≡ script_name j ∷ [] → i ≡ j
same_number i j p q e = decimal_injective i j p q (ap (λ ns. digits_of (first_name ns)) e)

not_spec : (i : ℕ) → i < 10 → script_name i ∷ [] ≡ codes "spec" ∷ [] → ⊥
not_spec i h e =
    let short : (48 + i) ∷ [] ≡ 112 ∷ 101 ∷ 99 ∷ [] = sym (decimal_digit i h) ∙ ap (λ ns. digits_of (first_name ns)) e in
    let lengths : 1 ≡ 3 = ap length short in
    absurd (omega (arith, lengths))

no_earlier : (i k : ℕ) (texts : List (List ℕ)) → k + length texts ≤ i → i < 2 ^ 64 → find path_cmp (script_name i ∷ []) (map file_of (scripts_from k texts)) ≡ None
no_earlier i k [] before small = refl
no_earlier i k (text ∷ texts) before small =
    let other = apart (script_name i ∷ []) (script_name k ∷ []) (λ e. absurd (omega (arith, before, small, same_number i k small (omega (arith, before, small)) e))) in
    ap (λ b. cond b (Some (file_of (script_name k, text)).1) (find path_cmp (script_name i ∷ []) (map file_of (scripts_from (k + 1) texts)))) other
    ∙ no_earlier i (k + 1) texts (omega (arith, before)) small

pub script_fresh : (c : Case) (i : ℕ) → i < 10 → i ≤ length c.scripts → find path_cmp (script_name i ∷ []) (text_nodes (scripts_to i c)) ≡ None
script_fresh c i small there =
    let other = apart (script_name i ∷ []) (codes "spec" ∷ []) (not_spec i small) in
    ap (λ b. cond b (Some (File c.description false)) (find path_cmp (script_name i ∷ []) (map file_of (scripts_from 0 (take i c.scripts))))) other
    ∙ no_earlier i 0 (take i c.scripts) (omega (arith, length-take-le i c.scripts there)) (omega (arith, small))

-- a generated case has eight scripts
pub eight_scripts : (number : ℕ) → length (generated_scripts number) ≡ 8
unfolding generated_to
eight_scripts number = refl

-- one script more

scripts_push : (k : ℕ) (texts : List (List ℕ)) (text : List ℕ) → scripts_from k (texts ++ text ∷ []) ≡ scripts_from k texts ++ (script_name (k + length texts), text) ∷ []
scripts_push k [] text = let here : k ≡ k + 0 = omega arith in ap (λ n. (script_name n, text) ∷ []) here
scripts_push k (x ∷ texts) text =
    let next : k + 1 + length texts ≡ k + suc (length texts) = omega arith in
    ap (λ l. (script_name k, x) ∷ l) (scripts_push (k + 1) texts text ∙ ap (λ n. scripts_from (k + 1) texts ++ (script_name n, text) ∷ []) next)

pub one_more : (c : Case) (i : ℕ) (text : List ℕ) → slice_get c.scripts i ≡ Some text → text_nodes (scripts_to (i + 1) c) ≡ text_nodes (scripts_to i c) ++ (script_name i ∷ [], File text false) ∷ []
one_more c i text is =
    let within = slice_get_within c.scripts i text is in
    let front = take i c.scripts in
    let count : 0 + length front ≡ i = omega (arith, within, length-take-le i c.scripts (omega (arith, within))) in
    ap (λ l. text_nodes (record c { scripts = l })) (take_next c.scripts i text is)
    ∙ ap (λ l. text_nodes (record c { scripts = [] }) ++ map file_of l) (scripts_push 0 front text ∙ ap (λ n. scripts_from 0 front ++ (script_name n, text) ∷ []) count)
    ∙ ap (λ l. text_nodes (record c { scripts = [] }) ++ l) (map-append file_of (scripts_from 0 front) ((script_name i, text) ∷ []))

pub all_taken : (c : Case) (i : ℕ) → i ≡ length c.scripts → text_nodes (scripts_to i c) ≡ text_nodes c
all_taken c i all = ap (λ l. text_nodes (record c { scripts = l })) (ap (λ n. take n c.scripts) all ∙ take_all c.scripts)
  where
    take_all : (xs : List (List ℕ)) → take (length xs) xs ≡ xs
    take_all [] = refl
    take_all (x ∷ xs) = ap (λ l. x ∷ l) (take_all xs)

-- the texts that are left are the rest of the list
pub texts_split : (c : Case) (i : ℕ) → (left : List Mapped) × (text_nodes c ≡ text_nodes (scripts_to i c) ++ left)
texts_split c i = let rest = go 0 i c.scripts in (rest.0, ap (λ l. text_nodes (record c { scripts = [] }) ++ l) rest.1)
  where
    go : (k i : ℕ) (xs : List (List ℕ)) → (left : List Mapped) × (map file_of (scripts_from k xs) ≡ map file_of (scripts_from k (take i xs)) ++ left)
    go k zero xs = (map file_of (scripts_from k xs), refl)
    go k (suc i) [] = ([], refl)
    go k (suc i) (x ∷ xs) = let rest = go (k + 1) i xs in (rest.0, ap (λ l. file_of (script_name k, x) ∷ l) rest.1)
