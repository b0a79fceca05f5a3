-- The paths that a transaction consults, each once: the same paths, and the same first one of which nothing is known.
use Rattle.std.proofs.Common.{◌≡◌, ℕ, Bool, true, false, cond, not, List, [], ◌∷◌, ◌++◌, Contains, All, Some, IsSome, is_some, refl, ap, ◌∙◌, sym, subst, ◌⊎◌, inl, inr}
use Rattle.std.specs.List.{filter}
use Rattle.std.specs.Map.{keys_of}
use Rattle.std.specs.Ordering.{eq_by_cmp}
use Rattle.std.proofs.lemmas.List.Elements.{All-nil, All-cons, All-head, All-tail, All-weaker, All-filter, All-contains, All-contains_itself}
use Rattle.fx_base.proofs.Lists.{Contains-later, Contains-first}
use Rattle.fx_store.specs.Names.{path_cmp}
use Rattle.fx_store.specs.Rule.{Known, first_unknown}
use Rattle.fx_store.specs.Orders.{path_eq_same}
use Rattle.fx_spec.specs.Task.{once}
use Rattle.fx_view.specs.ReadList.{ReadList}
use Rattle.fx_view.specs.Reads.{read_at, IsRead}

abbrev Path : Type 0
Path = List (List ℕ)

-- ---- each at its first place

all_once : (P : Path → Type 0) (ps : List Path) → All P ps → All P (once ps)
all_once P [] all = All-nil P
all_once P (p ∷ ps) all =
    All-cons P p (filter (λ q. not (eq_by_cmp path_cmp p q)) (once ps)) (All-head P p ps all)
    (All-filter (λ q. not (eq_by_cmp path_cmp p q)) P (once ps) (all_once P ps (All-tail P p ps all)))

pub once-within : (ps : List Path) (x : Path) → Contains (once ps) x → Contains ps x
once-within ps x h = All-contains (Contains ps) (once ps) x (all_once (Contains ps) ps (All-contains_itself ps)) h

kept_by : (t : Path → Bool) (xs : List Path) → All (λ y. t y ≡ true → Contains (filter t xs) y) xs
kept_by t [] = All-nil (λ y. t y ≡ true → Contains [] y)
kept_by t (x ∷ xs) = at (t x) refl (kept_by t xs)
  where
    at : (b : Bool) → t x ≡ b → All (λ y. t y ≡ true → Contains (filter t xs) y) xs → All (λ y. t y ≡ true → Contains (cond b (x ∷ filter t xs) (filter t xs)) y) (x ∷ xs)
    at true is rest =
        All-cons (λ y. t y ≡ true → Contains (x ∷ filter t xs) y) x xs (λ _. Contains-first x (filter t xs))
        (All-weaker (λ y. t y ≡ true → Contains (filter t xs) y) (λ y. t y ≡ true → Contains (x ∷ filter t xs) y) (λ y h e. Contains-later x (filter t xs) y (h e)) xs rest)
    at false is rest =
        All-cons (λ y. t y ≡ true → Contains (filter t xs) y) x xs (λ e. let no : false ≡ true = sym is ∙ e in cc) rest

all_in_once : (ps : List Path) → All (Contains (once ps)) ps
all_in_once [] = All-nil (Contains [])
all_in_once (p ∷ ps) =
    All-cons (Contains (once (p ∷ ps))) p ps (Contains-first p (filter (λ q. not (eq_by_cmp path_cmp p q)) (once ps)))
    (All-weaker (Contains (once ps)) (Contains (once (p ∷ ps))) (λ x h. at (eq_by_cmp path_cmp p x) x refl h) ps (all_in_once ps))
  where
    at : (b : Bool) (x : Path) → eq_by_cmp path_cmp p x ≡ b → Contains (once ps) x → Contains (p ∷ filter (λ q. not (eq_by_cmp path_cmp p q)) (once ps)) x
    at true x is h = subst (Contains (p ∷ filter (λ q. not (eq_by_cmp path_cmp p q)) (once ps))) (path_eq_same p x is) (Contains-first p (filter (λ q. not (eq_by_cmp path_cmp p q)) (once ps)))
    at false x is h =
        Contains-later p (filter (λ q. not (eq_by_cmp path_cmp p q)) (once ps)) x
        (All-contains (λ y. not (eq_by_cmp path_cmp p y) ≡ true → Contains (filter (λ q. not (eq_by_cmp path_cmp p q)) (once ps)) y) (once ps) x (kept_by (λ q. not (eq_by_cmp path_cmp p q)) (once ps)) h (ap not is))

pub within-once : (ps : List Path) (x : Path) → Contains ps x → Contains (once ps) x
within-once ps x h = All-contains (Contains (once ps)) ps x (all_in_once ps) h

-- ---- the first of which nothing is known

first_filter : (known : Known) (p : Path) → is_some (known p) ≡ true → (ps : List Path) → first_unknown known (filter (λ q. not (eq_by_cmp path_cmp p q)) ps) ≡ first_unknown known ps
first_filter known p is [] = refl
first_filter known p is (q ∷ ps) = at (eq_by_cmp path_cmp p q) refl (first_filter known p is ps)
  where
    at : (b : Bool) → eq_by_cmp path_cmp p q ≡ b → first_unknown known (filter (λ q. not (eq_by_cmp path_cmp p q)) ps) ≡ first_unknown known ps
        → first_unknown known (cond (not b) (q ∷ filter (λ q. not (eq_by_cmp path_cmp p q)) ps) (filter (λ q. not (eq_by_cmp path_cmp p q)) ps)) ≡ cond (is_some (known q)) (first_unknown known ps) (Some q)
    at true e rest = rest ∙ ap (λ b. cond b (first_unknown known ps) (Some q)) (sym (ap (λ x. is_some (known x)) (sym (path_eq_same p q e)) ∙ is))
    at false e rest = ap (λ x. cond (is_some (known q)) x (Some q)) rest

pub first-once : (known : Known) (ps : List Path) → first_unknown known (once ps) ≡ first_unknown known ps
first-once known [] = refl
first-once known (p ∷ ps) = at (is_some (known p)) refl (first-once known ps)
  where
    at : (b : Bool) → is_some (known p) ≡ b → first_unknown known (once ps) ≡ first_unknown known ps → cond b (first_unknown known (filter (λ q. not (eq_by_cmp path_cmp p q)) (once ps))) (Some p) ≡ cond b (first_unknown known ps) (Some p)
    at true is rest = first_filter known p is (once ps) ∙ rest
    at false is rest = refl

-- ---- what was read

-- a path that is read is one of those before, or of the later ones
pub read_among : (reads more : ReadList) (p : Path) → IsRead (reads ++ more) p → IsRead reads p ⊎ Contains (keys_of more) p
read_among (e ∷ es) more p h = at (eq_by_cmp path_cmp p e.0) h (λ k. read_among es more p k)
  where
    at : (b : Bool) → IsSome (cond b (Some e.1) (read_at (es ++ more) p)) → (IsRead (es ++ more) p → IsRead es p ⊎ Contains (keys_of more) p) → IsSome (cond b (Some e.1) (read_at es p)) ⊎ Contains (keys_of more) p
    at true k rest = inl refl
    at false k rest = rest k
read_among [] [] p h = inl h
read_among [] (e ∷ es) p h = inr (at (eq_by_cmp path_cmp p e.0) refl h (λ k. later (read_among [] es p k)))
  where
    none : IsRead [] p → ⊥
    none nil = cc

    later : IsRead [] p ⊎ Contains (keys_of es) p → Contains (keys_of es) p
    later (inl nil) = absurd (none nil)
    later (inr k) = k

    at : (b : Bool) → eq_by_cmp path_cmp p e.0 ≡ b → IsSome (cond b (Some e.1) (read_at es p)) → (IsRead es p → Contains (keys_of es) p) → Contains (e.0 ∷ keys_of es) p
    at true is k rest = subst (Contains (e.0 ∷ keys_of es)) (sym (path_eq_same p e.0 is)) (Contains-first e.0 (keys_of es))
    at false is k rest = Contains-later e.0 (keys_of es) p (rest k)
