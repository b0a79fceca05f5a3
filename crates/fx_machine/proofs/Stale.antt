-- The tests of staleness find exactly the looks whose path an entry has changed since; a look at the end of the order is none.
use Rattle.std.proofs.Common.{◌≡◌, ◌≢◌, ℕ, zero, suc, ◌<◌, Bool, true, false, ◌&&◌, ◌||◌, cond, List, [], ◌∷◌, map, length, Option, Some, None, refl, sym, ap, subst, ◌∙◌, arith, ⊎_elim}
use Rattle.std.specs.Prelude.{nat_le, bytes_eq}
use Rattle.std.specs.Cmp.Lexicographic.{pointwise}
use Rattle.std.specs.FinMap.{get}
use Rattle.std.specs.List.{IsDistinct, list_any}
use Rattle.std.specs.Ordering.{eq_by_cmp, is_eq}
use Rattle.std.proofs.lemmas.Bool.{false≢true, and_from, and_left, le-leb, lt-leb, or_from, or_left, or_right, cases_eq, not_from_false, false_from_ne_true, or_cases, and_parts, leb-true, not-true}
use Rattle.std.proofs.lemmas.Cmp.{tied_itself}
use Rattle.std.proofs.lemmas.List.Elements.{All-from_recursion}
use Rattle.std.proofs.lemmas.List.Folds.{list_any-append, list_any_none}
use Rattle.std.proofs.lemmas.Map.Keys.{IsDistinct-head, IsDistinct-tail}
use Rattle.std.proofs.lemmas.Option.{none-some, same_Some}
use Rattle.std.proofs.lemmas.Slice.Eq.{bytes_eq-Decides, slice_eq-Decides}
use Rattle.fx_store.specs.declared.node.Node.{Node}
use Rattle.fx_store.specs.declared.node.Node.TheVariants.{File, Dir, Link}
use Rattle.fx_store.specs.Names.{path_cmp}
use Rattle.fx_store.specs.Orders.{path_total, path_eq_same}
use Rattle.fx_spec.specs.Plans.{Turn}
use Rattle.fx_spec.specs.Order.{BaseTree, state, Changes, first_numbers}
use Rattle.fx_machine.specs.Machine.{Look, looks_of, position_at, IsStaleAt}
use Rattle.fx_machine.specs.Laws.{StaleIsExact}
use Rattle.fx_machine.specs.Measure.{same_flag, same_node, changes_at, is_stale_look}
use Rattle.fx_machine.proofs.Reached.{reached_sound}

-- ---- tests over the first numbers

any_at : (test : ℕ → Bool) (n k : ℕ) → k < n → test k ≡ true → list_any test (first_numbers n) ≡ true
any_at test zero k h e = absurd (omega arith)
any_at test (suc n) k h e = list_any-append test (first_numbers n) (n ∷ []) ∙ ⊎_elim
    (λ (same : k ≡ n). or_right (list_any test (first_numbers n)) (test n || false) (or_left (test n) false (subst (λ k. test k ≡ true) same e)))
    (λ (other : k ≢ n). or_left (list_any test (first_numbers n)) (test n || false) (any_at test n k (omega arith) e)) (cases_eq k n)

none_at : (test : ℕ → Bool) (n : ℕ) → ((k : ℕ) → k < n → test k ≡ false) → list_any test (first_numbers n) ≡ false
none_at test zero h = refl
none_at test (suc n) h =
    list_any-append test (first_numbers n) (n ∷ []) ∙ or_from (list_any test (first_numbers n)) (test n || false) (none_at test n (λ k l. h k (omega arith))) (or_from (test n) false (h n (omega arith)) refl)

-- ---- nodes

flag_is : (exec was : Bool) → same_flag exec was ≡ true → exec ≡ was
flag_is true true e = refl
flag_is true false e = absurd (false≢true e)
flag_is false true e = absurd (false≢true e)
flag_is false false e = refl

flag_itself : (exec : Bool) → same_flag exec exec ≡ true
flag_itself true = refl
flag_itself false = refl

file_is : (a b : List ℕ) (exec was : Bool) → (bytes_eq a b && same_flag exec was) ≡ true → Some (File a exec) ≡ Some (File b was)
file_is a b exec was e =
    let parts : (bytes_eq a b ≡ true) × (same_flag exec was ≡ true) = and_parts (bytes_eq a b) (same_flag exec was) e in
    ap (λ bytes. Some (File bytes exec)) ((bytes_eq-Decides a b).0 parts.0) ∙ ap (λ flag. Some (File b flag)) (flag_is exec was parts.1)

-- where the test of equality passes, the same stands there
pub same_is : (a b : Option Node) → same_node a b ≡ true → a ≡ b
same_is None None e = refl
same_is None (Some b) e = absurd (false≢true e)
same_is (Some (File a exec)) None e = absurd (false≢true e)
same_is (Some (Dir a)) None e = absurd (false≢true e)
same_is (Some (Link a)) None e = absurd (false≢true e)
same_is (Some (File a exec)) (Some (File b was)) e = file_is a b exec was e
same_is (Some (File a exec)) (Some (Dir b)) e = absurd (false≢true e)
same_is (Some (File a exec)) (Some (Link b)) e = absurd (false≢true e)
same_is (Some (Dir a)) (Some (File b exec)) e = absurd (false≢true e)
same_is (Some (Dir a)) (Some (Dir b)) e = ap (λ names. Some (Dir names)) ((slice_eq-Decides bytes_eq-Decides a b (pointwise bytes_eq a b) refl).0 e)
same_is (Some (Dir a)) (Some (Link b)) e = absurd (false≢true e)
same_is (Some (Link a)) (Some (File b exec)) e = absurd (false≢true e)
same_is (Some (Link a)) (Some (Dir b)) e = absurd (false≢true e)
same_is (Some (Link a)) (Some (Link b)) e = ap (λ text. Some (Link text)) ((bytes_eq-Decides a b).0 e)

pub same_itself : (a : Option Node) → same_node a a ≡ true
same_itself None = refl
same_itself (Some (File a exec)) = and_from (bytes_eq a a) (same_flag exec exec) ((bytes_eq-Decides a a).1 refl) (flag_itself exec)
same_itself (Some (Dir a)) = (slice_eq-Decides bytes_eq-Decides a a (same_node (Some (Dir a)) (Some (Dir a))) refl).1 refl
same_itself (Some (Link a)) = (bytes_eq-Decides a a).1 refl

-- the test of a change passes exactly where an entry changes what stands at the path
pub changes_found : (base : BaseTree) (o : List Turn) (i : ℕ) (path : List (List ℕ)) → Changes base o i path → changes_at base o i path ≡ true
changes_found base o i path changed =
    not_from_false _ (false_from_ne_true _ (λ same. changed (same_is (get (state base o i) path) (get (state base o (suc i)) path) same)))

-- ---- looks

position_passes : (test : Look → Bool) (looks : List Look) (path : List (List ℕ)) (i : ℕ) → position_at looks path ≡ Some i → test (path, i) ≡ true → list_any test looks ≡ true
position_passes test [] path i e t = absurd (none-some i e)
position_passes test (l ∷ ls) path i e t = go (eq_by_cmp path_cmp path l.0) refl e (λ f. position_passes test ls path i f t)
  where
    go : (b : Bool) → eq_by_cmp path_cmp path l.0 ≡ b → cond b (Some l.1) (position_at ls path) ≡ Some i → (position_at ls path ≡ Some i → list_any test ls ≡ true) → (test l || list_any test ls) ≡ true
    go true is e rest =
        let same : path ≡ l.0 = path_eq_same path l.0 is in
        let at : l.1 ≡ i = same_Some l.1 i e in
        or_left (test l) (list_any test ls) (subst (λ path. test (path, l.1) ≡ true) same (subst (λ i. test (path, i) ≡ true) (sym at) t))
    go false is e rest = or_right (test l) (list_any test ls) (rest e)

-- a look is found stale where an entry has changed its path since
pub stale_found : (base : BaseTree) (o : List Turn) (looks : List Look) (entry : ℕ) (path : List (List ℕ)) → IsStaleAt base o looks entry path → list_any (is_stale_look base o) looks ≡ true
stale_found base o looks entry path s =
    position_passes (is_stale_look base o) looks path s.0 s.1
    (any_at (λ j. nat_le s.0 j && changes_at base o j path) (length o) entry s.3 (and_from (nat_le s.0 entry) (changes_at base o entry path) (le-leb s.0 entry s.2) (changes_found base o entry path s.4)))

-- a look at the end of the order is not found stale
pub fresh_at_end : (base : BaseTree) (o : List Turn) (path : List (List ℕ)) → is_stale_look base o (path, length o) ≡ false
fresh_at_end base o path = none_at (λ j. nat_le (length o) j && changes_at base o j path) (length o) (λ k h. and_left (nat_le (length o) k) (changes_at base o k path) (lt-leb (length o) k h))

-- ---- what a look that is found stale says

any_below : (test : ℕ → Bool) (n : ℕ) → list_any test (first_numbers n) ≡ true → (k : ℕ) × (k < n) × (test k ≡ true)
any_below test zero e = absurd (false≢true e)
any_below test (suc n) e = ⊎_elim
    (λ (h : list_any test (first_numbers n) ≡ true). let at = any_below test n h in (at.0, (let l = at.1 in omega (arith, l)), at.2))
    (λ (h : (test n || false) ≡ true). (n, omega arith, last (test n) h)) (or_cases (list_any test (first_numbers n)) (test n || false) (sym (list_any-append test (first_numbers n) (n ∷ [])) ∙ e))
  where
    last : (b : Bool) → (b || false) ≡ true → b ≡ true
    last true h = refl
    last false h = h

pub found_changes : (base : BaseTree) (o : List Turn) (i : ℕ) (path : List (List ℕ)) → changes_at base o i path ≡ true → Changes base o i path
found_changes base o i path found same =
    false≢true (sym (not-true (same_node (get (state base o i) path) (get (state base o (suc i)) path)) found) ∙ subst (λ after. same_node (get (state base o i) path) after ≡ true) same (same_itself (get (state base o i) path)))

-- of looks at different paths one that passes a test is the one at its path
position_found : (test : Look → Bool) (looks : List Look) → IsDistinct (eq_by_cmp path_cmp) (map (λ (l : Look). l.0) looks) → list_any test looks ≡ true
    → (path : List (List ℕ)) × (i : ℕ) × (position_at looks path ≡ Some i) × (test (path, i) ≡ true) × (list_any (eq_by_cmp path_cmp path) (map (λ (l : Look). l.0) looks) ≡ true)
position_found test [] apart e = absurd (false≢true e)
position_found test (l ∷ ls) apart e = ⊎_elim
    (λ (h : test l ≡ true). (l.0, l.1, ap (λ b. cond b (Some l.1) (position_at ls l.0)) itself, h, or_left (eq_by_cmp path_cmp l.0 l.0) (list_any (eq_by_cmp path_cmp l.0) (map (λ (l : Look). l.0) ls)) itself))
    (λ (h : list_any test ls ≡ true).
    let at = position_found test ls (IsDistinct-tail (eq_by_cmp path_cmp) l.0 (map (λ (l : Look). l.0) ls) apart) h in
    (at.0, at.1, ap (λ b. cond b (Some l.1) (position_at ls at.0)) (other at.0 at.4) ∙ at.2, at.3, or_right (eq_by_cmp path_cmp at.0 l.0) (list_any (eq_by_cmp path_cmp at.0) (map (λ (l : Look). l.0) ls)) at.4))
    (or_cases (test l) (list_any test ls) e)
  where
    itself : eq_by_cmp path_cmp l.0 l.0 ≡ true
    itself = ap is_eq (tied_itself path_total l.0)

    none : list_any (eq_by_cmp path_cmp l.0) (map (λ (l : Look). l.0) ls) ≡ false
    none = list_any_none (eq_by_cmp path_cmp l.0) (map (λ (l : Look). l.0) ls) (All-from_recursion (λ q. eq_by_cmp path_cmp l.0 q ≡ false) (map (λ (l : Look). l.0) ls) (IsDistinct-head (eq_by_cmp path_cmp) l.0 (map (λ (l : Look). l.0) ls) apart))

    other : (path : List (List ℕ)) → list_any (eq_by_cmp path_cmp path) (map (λ (l : Look). l.0) ls) ≡ true → eq_by_cmp path_cmp path l.0 ≡ false
    other path found = false_from_ne_true (eq_by_cmp path_cmp path l.0) (λ is. false≢true (sym none ∙ subst (λ path. list_any (eq_by_cmp path_cmp path) (map (λ (l : Look). l.0) ls) ≡ true) (path_eq_same path l.0 is) found))

-- where a look is found stale, an entry has changed its path since
pub found_stale : (base : BaseTree) (o : List Turn) (looks : List Look) → IsDistinct (eq_by_cmp path_cmp) (map (λ (l : Look). l.0) looks) → list_any (is_stale_look base o) looks ≡ true → (entry : ℕ) × (path : List (List ℕ)) × IsStaleAt base o looks entry path
found_stale base o looks apart e =
    let at = position_found (is_stale_look base o) looks apart e in
    let entry = any_below (λ j. nat_le at.1 j && changes_at base o j at.0) (length o) at.3 in
    let both = and_parts (nat_le at.1 entry.0) (changes_at base o entry.0 at.0) entry.2 in
    (entry.0, at.0, (at.1, at.2, leb-true at.1 entry.0 both.0, entry.1, found_changes base o entry.0 at.0 both.1))

pub stale_is_exact : StaleIsExact
stale_is_exact base m reached shell =
    (found_stale base m.order (looks_of m shell) ((reached_sound base m reached).looks shell).apart, λ at. stale_found base m.order (looks_of m shell) at.0 at.1 at.2)
