-- The lines of a script: how long they are, and one more of them.
use Rattle.std.proofs.Common.{◌≡◌, ℕ, zero, suc, ◌+◌, ◌<◌, ◌≤◌, ◌==◌, Bool, true, false, cond, List, [], ◌∷◌, ◌++◌, map, length, codes, refl, sym, ap, ◌∙◌, append_assoc, arith}
use Rattle.std.specs.Fmt.{decimal}
use Rattle.std.specs.List.{flat_map, range_with_len}
use Rattle.std.proofs.lemmas.Fmt.{length-decimal-le}
use Rattle.std.proofs.lemmas.List.{length-append}
use Rattle.std.proofs.lemmas.Grind.{flat_map-append}
use Rattle.std.proofs.lemmas.List.{append-nil}
use mir.Val.{bool_byte}
use Rattle.std.proofs.lemmas.List.FromFn.{map-range_with_len_more}
use Rattle.fx_base.proofs.Booleans.{byte_is}
use Rattle.fx_gen.specs.Notes.{project}
use Rattle.fx_gen.specs.Scripts.{front, count_line, log_line, txn_line, first_lines, generated_script, scripts_to, kind_of, logging_of, counting_of}

pub count_short : (p : ℕ) → length (count_line p) ≤ 128
unfolding count_line
count_short p = omega arith

pub log_short : (p k j : ℕ) → k < 8 → j < 200 → length (log_line p k j) ≤ 128
unfolding log_line
log_short p k j kk jj =
    let one = length-decimal-le 1 k (omega arith) (omega arith) (omega arith) in
    let three = length-decimal-le 3 j (omega arith) (omega arith) (omega arith) in
    rest (decimal k) (decimal j) one three
  where
    rest : (ks js : List ℕ) → length ks ≤ 1 → length js ≤ 3 → length (front p ++ codes "into next into down fetch l : names store((l union one(\"" ++ (codes "s" ++ ks ++ codes "t" ++ js) ++ codes "\"))) }\n") ≤ 128
    rest ks js a b = simp length-append (omega (arith, a, b))

range_more : (a n : ℕ) → range_with_len a (suc n) ≡ range_with_len a n ++ (a + n) ∷ []
range_more a zero = let e : a ≡ a + 0 = omega arith in ap (λ x. x ∷ []) e
range_more a (suc n) =
    let e : (a + 1) + n ≡ a + suc n = omega arith in
    ap (λ l. a ∷ l) (range_more (a + 1) n ∙ ap (λ x. range_with_len (a + 1) n ++ x ∷ []) e)

-- the parts of one number more
pub flat_more : {A : Type 0} (f : ℕ → List A) (n : ℕ) → flat_map f (range_with_len 0 (n + 1)) ≡ flat_map f (range_with_len 0 n) ++ f n
flat_more f n =
    let one : n + 1 ≡ suc n = omega arith in
    let zero_n : 0 + n ≡ n = omega arith in
    ap (λ m. flat_map f (range_with_len 0 m)) one
    ∙ ap (flat_map f) (range_more 0 n)
    ∙ flat_map-append f (range_with_len 0 n) ((0 + n) ∷ [])
    ∙ ap (λ l. flat_map f (range_with_len 0 n) ++ l) (append-nil (f (0 + n)) ∙ ap f zero_n)

pub map_more : {A : Type 0} (f : ℕ → A) (n : ℕ) → map f (range_with_len 0 (n + 1)) ≡ map f (range_with_len 0 n) ++ f n ∷ []
map_more f n = map-range_with_len_more f 0 n n (omega arith)

pub lines_none : (number k : ℕ) → first_lines number k 0 ≡ []
unfolding first_lines
lines_none number k = refl

pub lines_more : (number k n : ℕ) → first_lines number k (n + 1) ≡ first_lines number k n ++ txn_line number k n
unfolding first_lines
lines_more number k n = flat_more (txn_line number k) n

-- one more transaction logs, or it does not
pub logging_more : (number t : ℕ) (logs : Bool) (a b : ℕ) → logs ≡ (kind_of number t == 3) → a ≡ logging_of number t → b ≡ bool_byte logs → a + b ≡ logging_of number (t + 1)
unfolding logging_of
logging_more number t logs a b is first more =
    let one : t + 1 ≡ suc t = omega arith in
    ap (λ n. n + b) first ∙ ap (λ n. logging_of number t + n) (more ∙ byte_is logs ∙ ap (λ c. cond c 1 0) is) ∙ ap (logging_of number) (sym one)

pub at_most_one : (logs : Bool) (b : ℕ) → b ≡ bool_byte logs → b ≤ 1
at_most_one true b e = omega arith
at_most_one false b e = omega arith

-- one more project in the list
pub config_more : (n : ℕ) → (flat_map (λ name. name ++ codes "\n") (map project (range_with_len 0 n)) ++ project n) ++ codes "\n" ≡ flat_map (λ name. name ++ codes "\n") (map project (range_with_len 0 (n + 1)))
config_more n =
    let f : List ℕ → List ℕ = λ name. name ++ codes "\n" in
    append_assoc (flat_map f (map project (range_with_len 0 n))) (project n) (codes "\n")
    ∙ sym (
    ap (flat_map f) (map_more project n)
    ∙ flat_map-append f (map project (range_with_len 0 n)) (project n ∷ [])
    ∙ ap (λ l. flat_map f (map project (range_with_len 0 n)) ++ l) (append-nil (project n ++ codes "\n")))

pub scripts_none : (number : ℕ) → scripts_to number 0 ≡ []
unfolding scripts_to
scripts_none number = refl

pub scripts_more : (number n : ℕ) → scripts_to number (n + 1) ≡ scripts_to number n ++ generated_script number n ∷ []
unfolding scripts_to
scripts_more number n = map_more (generated_script number) n

pub logging_none : (number : ℕ) → logging_of number 0 ≡ 0
unfolding logging_of
logging_none number = refl

-- each transaction counts or logs
pub counting_rest : (number t : ℕ) → counting_of number t + logging_of number t ≡ t
unfolding counting_of logging_of
counting_rest number zero = refl
counting_rest number (suc t) = step (kind_of number t == 3) (counting_rest number t)
  where
    step : (logs : Bool) → counting_of number t + logging_of number t ≡ t → (counting_of number t + cond logs 0 1) + (logging_of number t + cond logs 1 0) ≡ suc t
    step true e = omega arith
    step false e = omega arith
