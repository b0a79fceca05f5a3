-- Which entry and which path a conflict can name: where some looked path was changed since its look there is a least one, and an
-- entry is the last that changed it.
use Rattle.std.proofs.Common.{◌≡◌, ◌⊎◌, inl, inr, ⊎_elim, ℕ, zero, suc, ◌<◌, ◌≤◌, Bool, true, false, cond, List, [], ◌∷◌, ◌++◌, length, Option, Some, None, refl, sym, ◌∙◌, ap, subst, arith, append_assoc}
use Rattle.std.specs.Prelude.{IsTrue}
use Rattle.std.specs.declared.cmp.Ordering.{Ordering}
use Rattle.std.specs.declared.cmp.Ordering.TheVariants.{Less, Equal, Greater}
use Rattle.std.specs.Ordering.{is_le, is_gt, ordering_reverse, eq_by_cmp}
use Rattle.std.proofs.lemmas.Bool.{false≢true, cases_lt}
use Rattle.std.proofs.lemmas.Cmp.{upto, tied_itself}
use Rattle.std.proofs.lemmas.Option.{none-some, same_Some}
use Rattle.fx_store.specs.Names.{path_cmp}
use Rattle.fx_store.specs.Orders.{path_total, path_eq_same}
use Rattle.fx_spec.specs.Plans.{Turn}
use Rattle.fx_spec.specs.Order.{BaseTree, Changes}
use Rattle.fx_machine.specs.declared.event.Event.{Event}
use Rattle.fx_machine.specs.Machine.{Machine, Look, position_at, IsStaleAt}
use Rattle.fx_machine.specs.Measure.{changes_at}
use Rattle.fx_machine.proofs.Stale.{changes_found, found_changes}
use Rattle.fx_board.proofs.Indexes.{changes_within}
use Rattle.fx_diaries.specs.Named.{IsNamedAt, NameConflicts}

abbrev Path : Type 0
Path = List (List ℕ)

-- the conflicts of the first events name what they are to name, if those of all do
pub names_front : (base : BaseTree) (m : Machine) (events more : List Event) → NameConflicts base m (events ++ more) → NameConflicts base m events
names_front base m events more named before e after m' is run = named before e (after ++ more) m' (ap (λ l. l ++ more) is ∙ append_assoc before (e ∷ after) more) run

-- ---- the last number that passes a test

record IsLastBelow (test : ℕ → Bool) (n last : ℕ) : Type 0 where
  below : last < n
  passes : test last ≡ true
  later : (k : ℕ) → last < k → k < n → test k ≡ false

abbrev HasLastOrNone : (ℕ → Bool) → ℕ → Type 0
HasLastOrNone test n = ((last : ℕ) × IsLastBelow test n last) ⊎ ((k : ℕ) → k < n → test k ≡ false)

last_below : (test : ℕ → Bool) (n : ℕ) → HasLastOrNone test n
last_below test zero = inr (λ k h. absurd (omega (arith, h)))
last_below test (suc n) = by (test n) refl (last_below test n)
  where
    at_end : (k : ℕ) → test n ≡ false → n ≤ k → k < suc n → test k ≡ false
    at_end k fails from within = let same : n ≡ k = omega (arith, from, within) in subst (λ k. test k ≡ false) same fails

    by : (b : Bool) → test n ≡ b → HasLastOrNone test n → HasLastOrNone test (suc n)
    by true passes before = inl (n, record { below = omega arith; passes = passes; later = λ k after within. absurd (omega (arith, after, within)) })
    by false fails (inl (last, found)) =
        inl (last, record { below = omega (arith, found.below); passes = found.passes; later = λ k after within. ⊎_elim (λ (less : k < n). found.later k after less) (λ (from : n ≤ k). at_end k fails from within) (cases_lt k n) })
    by false fails (inr none) = inr (λ k within. ⊎_elim (λ (less : k < n). none k less) (λ (from : n ≤ k). at_end k fails from within) (cases_lt k n))

-- ---- the last entry that changed a looked path

module _ (base : BaseTree) (o : List Turn) (looks : List Look) where
  -- the entry changed the path at or after its look, and no later one did
  record IsLastAt (entry : ℕ) (path : Path) : Type 0 where
    stale : IsStaleAt base o looks entry path
    last : (later : ℕ) → entry < later → Changes base o later path → ⊥

  abbrev WasChanged : Path → Type 0
  WasChanged path = (entry : ℕ) × IsLastAt entry path

  abbrev WasKept : Path → Type 0
  WasKept path = (entry : ℕ) → IsStaleAt base o looks entry path → ⊥

  since : (path : Path) (i : ℕ) → position_at looks path ≡ Some i → HasLastOrNone (λ k. changes_at base o k path) (length o) → WasChanged path ⊎ WasKept path
  since path i at (inl (last, found)) =
      ⊎_elim
      (λ (before : last < i). inr (λ entry stale.
      let same : i ≡ stale.0 = same_Some i stale.0 (sym at ∙ stale.1) in
      let from : stale.0 ≤ entry = stale.2 in
      false≢true (sym (found.later entry (omega (arith, before, same, from)) stale.3) ∙ changes_found base o entry path stale.4)))
      (λ (from : i ≤ last). inl (
        last,
        record {
          stale = (i, at, from, found.below, found_changes base o last path found.passes);
          last = λ later after changes. false≢true (sym (found.later later after (changes_within base o later path changes)) ∙ changes_found base o later path changes);
        },
      ))
      (cases_lt last i)
  since path i at (inr none) = inr (λ entry stale. false≢true (sym (none entry stale.3) ∙ changes_found base o entry path stale.4))

  -- whether a path was changed at or after its look
  changed_since : (path : Path) → WasChanged path ⊎ WasKept path
  changed_since path = by (position_at looks path) refl
    where
      by : (r : Option ℕ) → position_at looks path ≡ r → WasChanged path ⊎ WasKept path
      by None at = inr (λ entry stale. none-some stale.0 (sym at ∙ stale.1))
      by (Some i) at = since path i at (last_below (λ k. changes_at base o k path) (length o))

  -- ---- the least of the looked paths that were changed

  abbrev IsUpTo : Path → Path → Type 0
  IsUpTo p q = is_gt (path_cmp p q) ≡ false

  -- of these looks, and of this path
  record HasLeast (ls : List Look) (than : Path) : Type 0 where
    path : Path
    entry : ℕ
    is : IsLastAt entry path
    below : IsUpTo path than
    least : (p : Path) (i : ℕ) → position_at ls p ≡ Some i → (e : ℕ) → IsStaleAt base o looks e p → IsUpTo path p

  with_look : (l : Look) (ls : List Look) (than : Path) (rest : HasLeast ls than) → ((e : ℕ) → IsStaleAt base o looks e l.0 → IsUpTo rest.path l.0) → HasLeast (l ∷ ls) than
  with_look l ls than rest here = record { path = rest.path; entry = rest.entry; is = rest.is; below = rest.below; least = λ p i at e stale. by p i e stale (eq_by_cmp path_cmp p l.0) refl at }
    where
      by : (p : Path) (i e : ℕ) → IsStaleAt base o looks e p → (b : Bool) → eq_by_cmp path_cmp p l.0 ≡ b → cond b (Some l.1) (position_at ls p) ≡ Some i → IsUpTo rest.path p
      by p i e stale true is at = let same : p ≡ l.0 = path_eq_same p l.0 is in subst (IsUpTo rest.path) (sym same) (here e (subst (IsStaleAt base o looks e) same stale))
      by p i e stale false is at = rest.least p i at e stale

  -- what is above another path is not below it
  not_above : (r : Ordering) → is_gt r ≡ true → is_gt (ordering_reverse r) ≡ false
  not_above Less above = absurd (false≢true above)
  not_above Equal above = refl
  not_above Greater above = refl

  abbrev below_both : (ls : List Look) (than path : Path) → IsUpTo path than → HasLeast ls path → HasLeast ls than
  below_both ls than path under rest = record { path = rest.path; entry = rest.entry; is = rest.is; below = upto path_total rest.path path than rest.below under; least = rest.least }

  one_more : (l : Look) (ls : List Look) (than : Path) (entry : ℕ) → IsLastAt entry than → ((p : Path) (e : ℕ) → IsLastAt e p → HasLeast ls p) → HasLeast (l ∷ ls) than
  one_more l ls than entry is rest = by (changed_since l.0)
    where
      compared : (e : ℕ) → IsLastAt e l.0 → (b : Bool) → is_gt (path_cmp than l.0) ≡ b → HasLeast (l ∷ ls) than
      compared e found true above =
          let lower = rest l.0 e found in
          let under : IsUpTo l.0 than = ap is_gt (path_total.antisymm l.0 than) ∙ not_above (path_cmp than l.0) above in
          with_look l ls than (below_both ls than l.0 under lower) (λ _ _. lower.below)
      compared e found false under = let same = rest than entry is in with_look l ls than same (λ _ _. upto path_total same.path than l.0 same.below under)

      by : WasChanged l.0 ⊎ WasKept l.0 → HasLeast (l ∷ ls) than
      by (inl (e, found)) = compared e found (is_gt (path_cmp than l.0)) refl
      by (inr kept) = with_look l ls than (rest than entry is) (λ e stale. absurd (kept e stale))

  least_of : (ls : List Look) (than : Path) (entry : ℕ) → IsLastAt entry than → HasLeast ls than
  least_of [] than entry is = record { path = than; entry = entry; is = is; below = ap is_gt (tied_itself path_total than); least = λ p i at e stale. absurd (none-some i at) }
  least_of (l ∷ ls) than entry is = one_more l ls than entry is (λ p e found. least_of ls p e found)

  up_to : (r : Ordering) → is_gt r ≡ false → IsTrue (is_le r)
  up_to Less under = refl
  up_to Equal under = refl
  up_to Greater under = absurd (false≢true (sym under))

  -- so where an entry changed a looked path at or after its look, some entry and path can be named
  pub can_name : (entry : ℕ) (path : Path) → IsStaleAt base o looks entry path → (e : ℕ) × (p : Path) × IsNamedAt base o looks e p
  can_name entry path stale = by (changed_since path)
    where
      by : WasChanged path ⊎ WasKept path → (e : ℕ) × (p : Path) × IsNamedAt base o looks e p
      by (inl (last, found)) =
          let least = least_of looks path last found in
          (least.entry, least.path, record { stale = least.is.stale; last = least.is.last; least = λ e p s. up_to (path_cmp least.path p) (least.least p s.0 s.1 e s) })
      by (inr kept) = absurd (kept entry stale)
