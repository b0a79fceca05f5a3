-- A directory that lists one name more.
use Rattle.std.proofs.Common.{◌≡◌, ℕ, ◌+◌, ◌≤◌, Bool, true, false, cond, ◌||◌, List, [], ◌∷◌, ◌++◌, length, Ok, Err, refl, sym, ap, ◌∙◌, arith}
use Rattle.std.specs.declared.cmp.Ordering.{Ordering}
use Rattle.std.specs.declared.cmp.Ordering.TheVariants.{Less, Equal, Greater}
use Rattle.std.specs.Ordering.{eq_by_cmp, is_eq, match_ordering}
use Rattle.std.proofs.lemmas.Bool.{true≢false, or_left, or_right, le-leb}
use Rattle.fx_store.specs.declared.changes.Change.{Change}
use Rattle.fx_store.specs.declared.node.Node.TheVariants.{File, Dir}
use Rattle.fx_store.specs.Names.{name_cmp, IsNameSet, has}
use Rattle.fx_store.specs.Resolve.{◌/ₚ◌}
use Rattle.fx_store.specs.Rule.{Ask, Answer, answer, ◌>>=◌}
use Rattle.fx_store.specs.Whole.{Store}
use Rattle.fx_store.proofs.Asks.{answer-bind}
use Rattle.fx_base.proofs.Names.{name_itself}
use Rattle.fx_text.specs.declared.set.TheConstants.{UNION_LIMIT}
use Rattle.fx_text.specs.Sets.{has_text, set_of, with_text, weight}
use Rattle.fx_text.proofs.Merging.{set_alike, has_append}
use Rattle.fx_text.proofs.Putting.{set_again, set_turned, put_in}
use Rattle.fx_expr.specs.declared.fault.ExprFault.TheVariants.{TooLong}
use Rattle.fx_expr.specs.Eval.{united}
use Rattle.fx_expr.specs.Tree.{Tree}
use Rattle.fx_spec.specs.Edit.{set_to, entry, entries, new_names}
use Rattle.fx_spec.proofs.EditsMake.{has-with}

abbrev Path : Type 0
Path = List (List ℕ)

-- the entries of some names are those of each name, one after another
entries_more : (S : Store) (change : List ℕ → Ask (List Change)) (n : List ℕ) (names : Path) → answer S (entries change (n ∷ names)) ≡ answer S (change n) ++ answer S (entries change names)
entries_more S change n names =
    answer-bind S (change n) (λ first. entries change names >>= λ rest. Answer (first ++ rest)) ∙ answer-bind S (entries change names) (λ rest. Answer (answer S (change n) ++ rest))

module _ (S : Store) (q old : Path) (t : List ℕ) (set : IsNameSet old) (fresh : has old t ≡ false) where
  abbrev new : Path
  new = with_text t old

  abbrev file : Change
  file = set_to (q /ₚ t) (File [] false)

  listed : (m : List ℕ) → has old m ≡ true → has new m ≡ true
  listed m h = has-with t old set m ∙ or_right (eq_by_cmp name_cmp m t) (has old m) h

  own_listed : has new t ≡ true
  own_listed = has-with t old set t ∙ or_left (eq_by_cmp name_cmp t t) (has old t) (name_itself t)

  stays : (m : List ℕ) → has old m ≡ true → answer S (entry q old new m) ≡ []
  stays m h = rw (listed m h, h) refl

  added : answer S (entry q old new t) ≡ file ∷ []
  added = rw (own_listed, fresh) refl

  none : (xs : Path) → ((m : List ℕ) → has xs m ≡ true → has old m ≡ true) → answer S (entries (entry q old new) xs) ≡ []
  none [] within = refl
  none (x ∷ xs) within =
      entries_more S (entry q old new) x xs
      ∙ ap (λ l. l ++ answer S (entries (entry q old new) xs)) (stays x (within x (or_left (eq_by_cmp name_cmp x x) (has xs x) (name_itself x))))
      ∙ none xs (λ m h. within m (or_right (eq_by_cmp name_cmp m x) (has xs m) h))

  one : (xs : Path) → ((m : List ℕ) → has xs m ≡ true → has old m ≡ true) → answer S (entries (entry q old new) (with_text t xs)) ≡ file ∷ []
  one [] within = entries_more S (entry q old new) t [] ∙ ap (λ l. l ++ []) added
  one (x ∷ xs) within = by (name_cmp t x) refl (one xs (λ m h. within m (or_right (eq_by_cmp name_cmp m x) (has xs m) h)))
    where
      by : (o : Ordering) → name_cmp t x ≡ o → answer S (entries (entry q old new) (with_text t xs)) ≡ file ∷ [] → answer S (entries (entry q old new) (match_ordering o (t ∷ x ∷ xs) (x ∷ xs) (x ∷ with_text t xs))) ≡ file ∷ []
      by Less e rest = entries_more S (entry q old new) t (x ∷ xs) ∙ ap (λ l. l ++ answer S (entries (entry q old new) (x ∷ xs))) added ∙ ap (λ l. file ∷ l) (none (x ∷ xs) within)
      by Equal e rest = absurd (true≢false (sym (within t (or_left (eq_by_cmp name_cmp t x) (has xs t) (ap is_eq e))) ∙ fresh))
      by Greater e rest =
          entries_more S (entry q old new) x (with_text t xs)
          ∙ ap (λ l. l ++ answer S (entries (entry q old new) (with_text t xs))) (stays x (within x (or_left (eq_by_cmp name_cmp x x) (has xs x) (name_itself x))))
          ∙ rest

  twice : set_of (old ++ old) ≡ old
  twice = set_alike (old ++ old) old (λ z. has_append z old old ∙ same (has_text z old)) ∙ set_again old set.ascending
    where
      same : (b : Bool) → (b || b) ≡ b
      same true = refl
      same false = refl

  both : set_of (old ++ new) ≡ new
  both = put_in t old old ∙ ap (with_text t) twice

  pub adds : answer S (new_names q old new) ≡ Ok (set_to q (Dir new) ∷ file ∷ [])
  adds =
      answer-bind S (entries (entry q old new) (set_of (old ++ new))) (λ below. Answer (Ok (set_to q (Dir new) ∷ below)))
      ∙ ap (λ l. Ok (set_to q (Dir new) ∷ l)) (ap (λ xs. answer S (entries (entry q old new) xs)) both ∙ one old (λ m h. h))

  pub union_is : set_of (old ++ t ∷ []) ≡ new
  union_is = set_turned old (t ∷ []) ∙ ap (with_text t) (set_again old set.ascending)

  pub united_with : weight (set_of (old ++ t ∷ [])) ≤ UNION_LIMIT → united old (t ∷ []) ≡ Ok (Tree.names new)
  united_with light =
      ap (λ b. cond b (Ok (Tree.names (set_of (old ++ t ∷ [])))) (Err TooLong)) (le-leb (weight (set_of (old ++ t ∷ []))) UNION_LIMIT light)
      ∙ ap (λ l. Ok (Tree.names l)) union_is

  longer : (xs : Path) → ((m : List ℕ) → has xs m ≡ true → has old m ≡ true) → length (with_text t xs) ≡ length xs + 1
  longer [] within = refl
  longer (x ∷ xs) within = by (name_cmp t x) refl (longer xs (λ m h. within m (or_right (eq_by_cmp name_cmp m x) (has xs m) h)))
    where
      by : (o : Ordering) → name_cmp t x ≡ o → length (with_text t xs) ≡ length xs + 1 → length (match_ordering o (t ∷ x ∷ xs) (x ∷ xs) (x ∷ with_text t xs)) ≡ length (x ∷ xs) + 1
      by Less e rest = omega arith
      by Equal e rest = absurd (true≢false (sym (within t (or_left (eq_by_cmp name_cmp t x) (has xs t) (ap is_eq e))) ∙ fresh))
      by Greater e rest = omega (arith, rest)

  pub length-with : length new ≡ length old + 1
  length-with = longer old (λ m h. h)
