-- What a removal clears, and that a directory's new names and a removed entry leave a whole filestore whole.
use Rattle.std.proofs.Common.{◌≡◌, ◌≢◌, ℕ, zero, suc, ◌-◌, ◌≤◌, ◌<◌, Bool, true, false, cond, ◌||◌, refl, ap, subst, sym, ◌∙◌, ◌⊎◌, inl, inr, List, [], ◌∷◌, ◌++◌, map, length, Option, Some, None, is_some, arith, length-append, append_assoc}
use Rattle.std.proofs.lemmas.List.{append-nil, map-append}
use Rattle.std.proofs.lemmas.List.Folds.{list_any-append}
use Rattle.std.proofs.lemmas.Bool.{true≢false, or_right}
use Rattle.std.specs.Ordering.{eq_by_cmp}
use Rattle.fx_base.proofs.Names.{name_is, path_itself}
use Rattle.fx_store.specs.declared.node.Node.{Node}
use Rattle.fx_store.specs.declared.node.Node.TheVariants.{File, Dir, Link}
use Rattle.fx_store.specs.declared.changes.Change.{Change}
use Rattle.fx_store.specs.Names.{path_cmp, name_cmp, has, has_path}
use Rattle.fx_store.specs.Orders.{path_eq_same}
use Rattle.fx_store.specs.Relisted.{relist_at, CanRelist}
use Rattle.fx_store.specs.Resolve.{◌/ₚ◌}
use Rattle.fx_store.specs.Rule.{Answer, answer, ◌>>=◌}
use Rattle.fx_store.specs.Whole.{Store, IsWhole, lists, update, over}
use Rattle.fx_store.proofs.Asks.{answer-bind}
use Rattle.fx_store.proofs.PathLists.{has-text}
use Rattle.fx_expr.specs.Sets.{set_of}
use Rattle.fx_text.proofs.Canon.{has_set}
use Rattle.fx_spec.specs.Edit.{removed, names_of, entries, cleared, clear_levels, clear}
use Rattle.fx_spec.proofs.EditsWhole.{nothing_below}

-- ------------------------------------------------------------------------------------------------ the paths of a removal

over-removals : (U : Store) (ps : List (List (List ℕ))) (r : List (List ℕ)) → over U (map removed ps) r ≡ cond (has_path ps r) None (U r)
over-removals U [] r = refl
over-removals U (p ∷ ps) r = over-removals (update U (removed p)) ps r ∙ at (has_path ps r) (eq_by_cmp path_cmp r p)
  where
    at : (a b : Bool) → cond a None (cond b None (U r)) ≡ cond (b || a) None (U r)
    at true true = refl
    at true false = refl
    at false true = refl
    at false false = refl

abbrev below_each : (List ℕ → List (List (List ℕ))) → List (List ℕ) → List (List (List ℕ))
below_each f [] = []
below_each f (n ∷ names) = f n ++ below_each f names

abbrev below_node : List (List ℕ) → (List (List ℕ) → List (List (List ℕ))) → Option Node → List (List (List ℕ))
below_node p next None = []
below_node p next (Some node) = p ∷ below_each (λ n. next (p /ₚ n)) (names_of (Some node))

-- the mapped paths from one on, so many levels down
abbrev below : ℕ → Store → List (List ℕ) → List (List (List ℕ))
below zero S p = []
below (suc levels) S p = below_node p (λ r. below levels S r) (S p)

cleared-is : (levels : ℕ) (S : Store) (p : List (List ℕ)) → answer S (clear_levels levels p) ≡ map removed (below levels S p)
cleared-is zero S p = refl
cleared-is (suc levels) S p = at (S p) (λ r. cleared-is levels S r)
  where
    all : ((r : List (List ℕ)) → answer S (clear_levels levels r) ≡ map removed (below levels S r)) → (names : List (List ℕ))
        → answer S (entries (λ n. clear_levels levels (p /ₚ n)) names) ≡ map removed (below_each (λ n. below levels S (p /ₚ n)) names)
    all next [] = refl
    all next (n ∷ names) =
        answer-bind S (clear_levels levels (p /ₚ n)) (λ first. entries (λ n. clear_levels levels (p /ₚ n)) names >>= λ rest. Answer (first ++ rest))
        ∙ answer-bind S (entries (λ n. clear_levels levels (p /ₚ n)) names) (λ rest. Answer (answer S (clear_levels levels (p /ₚ n)) ++ rest))
        ∙ (λ i. next (p /ₚ n) i ++ all next names i)
        ∙ sym (map-append removed (below levels S (p /ₚ n)) (below_each (λ n. below levels S (p /ₚ n)) names))

    at : (x : Option Node) → ((r : List (List ℕ)) → answer S (clear_levels levels r) ≡ map removed (below levels S r))
        → answer S (cleared p (λ r. clear_levels levels r) x) ≡ map removed (below_node p (λ r. below levels S r) x)
    at None next = refl
    at (Some node) next =
        answer-bind S (entries (λ n. clear_levels levels (p /ₚ n)) (names_of (Some node))) (λ b. Answer (removed p ∷ b)) ∙ ap (λ b. removed p ∷ b) (all next (names_of (Some node)))

-- what is there is listed all the way
mapped_above : (S : Store) → IsWhole S → (q t : List (List ℕ)) → is_some (S (q ++ t)) ≡ true → is_some (S q) ≡ true
mapped_above S whole q t h = at (S q) refl
  where
    at : (x : Option Node) → S q ≡ x → is_some x ≡ true
    at None e = sym (ap is_some (nothing_below S whole t q e)) ∙ h
    at (Some node) e = refl

in_each : (f : List ℕ → List (List (List ℕ))) (names : List (List ℕ)) (n : List ℕ) (r : List (List ℕ)) → has names n ≡ true → has_path (f n) r ≡ true → has_path (below_each f names) r ≡ true
in_each f [] n r h g = absurd (true≢false (sym h))
in_each f (m ∷ names) n r h g = list_any-append (eq_by_cmp path_cmp r) (f m) (below_each f names) ∙ at (eq_by_cmp name_cmp n m) refl h (λ k. in_each f names n r k g)
  where
    at : (b : Bool) → eq_by_cmp name_cmp n m ≡ b → (b || has names n) ≡ true → (has names n ≡ true → has_path (below_each f names) r ≡ true) → (has_path (f m) r || has_path (below_each f names) r) ≡ true
    at true e k next = ap (λ b. b || has_path (below_each f names) r) (subst (λ m. has_path (f m) r ≡ true) (name_is n m e) g)
    at false e k next = or_right (has_path (f m) r) (has_path (below_each f names) r) (next k)

listed_names : (x : Option Node) (n : List ℕ) → lists x n ≡ true → (node : Node) × (x ≡ Some node) × (has (names_of (Some node)) n ≡ true)
listed_names None n h = absurd (true≢false (sym h))
listed_names (Some (File b exec)) n h = absurd (true≢false (sym h))
listed_names (Some (Dir names)) n h = (Dir names, refl, h)
listed_names (Some (Link t)) n h = absurd (true≢false (sym h))

-- every mapped path that far down is among them
found : (levels : ℕ) (S : Store) → IsWhole S → (p t : List (List ℕ)) → is_some (S (p ++ t)) ≡ true → length t < levels → has_path (below levels S p) (p ++ t) ≡ true
found zero S whole p t h l = absurd (omega (arith, l))
found (suc levels) S whole p [] h l = at (S p) (ap is_some (ap S (sym (append-nil p))) ∙ h)
  where
    at : (x : Option Node) → is_some x ≡ true → has_path (below_node p (λ r. below levels S r) x) (p ++ []) ≡ true
    at None k = absurd (true≢false (sym k))
    at (Some node) k =
        let same : eq_by_cmp path_cmp (p ++ []) p ≡ true = subst (λ r. eq_by_cmp path_cmp r p ≡ true) (sym (append-nil p)) (path_itself p) in
        ap (λ b. b || has_path (below_each (λ n. below levels S (p /ₚ n)) (names_of (Some node))) (p ++ [])) same
found (suc levels) S whole p (n ∷ t) h l =
    let there : is_some (S ((p /ₚ n) ++ t)) ≡ true = ap (λ r. is_some (S r)) (append_assoc p (n ∷ []) t) ∙ h in
    let entry : is_some (S (p /ₚ n)) ≡ true = mapped_above S whole (p /ₚ n) t there in
    let listed : lists (S p) n ≡ true = sym (whole.listed p n) ∙ entry in
    let here : has_path (below levels S (p /ₚ n)) (p ++ n ∷ t) ≡ true = subst (λ r. has_path (below levels S (p /ₚ n)) r ≡ true) (append_assoc p (n ∷ []) t) (found levels S whole (p /ₚ n) t there (omega (arith, l))) in
    at (listed_names (S p) n listed) here
  where
    at : (node : Node) × (S p ≡ Some node) × (has (names_of (Some node)) n ≡ true) → has_path (below levels S (p /ₚ n)) (p ++ n ∷ t) ≡ true → has_path (below_node p (λ r. below levels S r) (S p)) (p ++ n ∷ t) ≡ true
    at w here = subst (λ x. has_path (below_node p (λ r. below levels S r) x) (p ++ n ∷ t) ≡ true) (sym w.1) (
        or_right (eq_by_cmp path_cmp (p ++ n ∷ t) p) _ (in_each (λ m. below levels S (p /ₚ m)) (names_of (Some w.0)) n (p ++ n ∷ t) w.2 here))

-- and no path that does not begin with the first
only_below : (levels : ℕ) (S : Store) (p r : List (List ℕ)) → has_path (below levels S p) r ≡ true → (t : List (List ℕ)) × (r ≡ p ++ t)
only_below zero S p r h = absurd (true≢false (sym h))
only_below (suc levels) S p r h = at (S p) h (λ q k. only_below levels S q r k)
  where
    among : (names : List (List ℕ)) → has_path (below_each (λ n. below levels S (p /ₚ n)) names) r ≡ true → ((q : List (List ℕ)) → has_path (below levels S q) r ≡ true → (t : List (List ℕ)) × (r ≡ q ++ t)) → (t : List (List ℕ)) × (r ≡ p ++ t)
    among [] h next = absurd (true≢false (sym h))
    among (n ∷ names) h next = first (has_path (below levels S (p /ₚ n)) r) refl (sym (list_any-append (eq_by_cmp path_cmp r) (below levels S (p /ₚ n)) (below_each (λ n. below levels S (p /ₚ n)) names)) ∙ h) (λ k. among names k next)
      where
        first : (b : Bool) → has_path (below levels S (p /ₚ n)) r ≡ b → (b || has_path (below_each (λ n. below levels S (p /ₚ n)) names) r) ≡ true → (has_path (below_each (λ n. below levels S (p /ₚ n)) names) r ≡ true → (t : List (List ℕ)) × (r ≡ p ++ t)) → (t : List (List ℕ)) × (r ≡ p ++ t)
        first true e k rest = let w : (t : List (List ℕ)) × (r ≡ (p /ₚ n) ++ t) = next (p /ₚ n) e in (n ∷ w.0, w.1 ∙ append_assoc p (n ∷ []) w.0)
        first false e k rest = rest k

    at : (x : Option Node) → has_path (below_node p (λ r. below levels S r) x) r ≡ true → ((q : List (List ℕ)) → has_path (below levels S q) r ≡ true → (t : List (List ℕ)) × (r ≡ q ++ t)) → (t : List (List ℕ)) × (r ≡ p ++ t)
    at None h next = absurd (true≢false (sym h))
    at (Some node) h next = first (eq_by_cmp path_cmp r p) refl h
      where
        first : (b : Bool) → eq_by_cmp path_cmp r p ≡ b → (b || has_path (below_each (λ n. below levels S (p /ₚ n)) (names_of (Some node))) r) ≡ true → (t : List (List ℕ)) × (r ≡ p ++ t)
        first true e k = ([], path_eq_same r p e ∙ sym (append-nil p))
        first false e k = among (names_of (Some node)) k next

-- ---------------------------------------------------------------------------------------------- names of one entry or more

pub has-set_of : (xs : List (List ℕ)) (n : List ℕ) → has (set_of xs) n ≡ has xs n
has-set_of xs n = has-text (set_of xs) n ∙ has_set n xs ∙ sym (has-text xs n)

module _ (S : Store) (q old new : List (List ℕ)) (fresh : List ℕ → Node) (can : CanRelist S q old new fresh) where
  abbrev pub gone : List ℕ → List Change
  gone n = answer S (clear (q /ₚ n))

  -- so many levels from an entry on have paths of at most 64 names
  abbrev levels : List ℕ → ℕ
  levels n = 65 - length (q /ₚ n)

  gone-is : (n : List ℕ) → gone n ≡ map removed (below (levels n) S (q /ₚ n))
  unfolding clear
  gone-is n = cleared-is (levels n) S (q /ₚ n)

  -- the removal of an entry leaves nothing there
  pub gone_target : (n : List ℕ) (rest : List (List ℕ)) (U : Store) → has new n ≡ false → (U (q ++ n ∷ rest) ≡ S (q ++ n ∷ rest)) ⊎ (U (q ++ n ∷ rest) ≡ relist_at S old new fresh (q ++ n ∷ rest) (Some (n ∷ rest)))
      → over U (gone n) (q ++ n ∷ rest) ≡ relist_at S old new fresh (q ++ n ∷ rest) (Some (n ∷ rest))
  gone_target n rest U h ok =
      ap (λ cs. over U cs (q ++ n ∷ rest)) (gone-is n) ∙ over-removals U (below (levels n) S (q /ₚ n)) (q ++ n ∷ rest) ∙ at (has_path (below (levels n) S (q /ₚ n)) (q ++ n ∷ rest)) refl ∙ rw h
    where
      empty : (x : Option Node) → S (q ++ n ∷ rest) ≡ x → has_path (below (levels n) S (q /ₚ n)) (q ++ n ∷ rest) ≡ false → x ≡ None
      empty None e f = refl
      empty (Some node) e f =
          let there : is_some (S ((q /ₚ n) ++ rest)) ≡ true = ap (λ r. is_some (S r)) (append_assoc q (n ∷ []) rest) ∙ ap is_some e in
          let short : length ((q /ₚ n) ++ rest) ≤ 64 = (can.whole.paths ((q /ₚ n) ++ rest) there).short in
          let few : length rest < levels n = omega (arith, short, length-append (q /ₚ n) rest) in
          absurd (true≢false (sym (subst (λ r. has_path (below (levels n) S (q /ₚ n)) r ≡ true) (append_assoc q (n ∷ []) rest) (found (levels n) S can.whole (q /ₚ n) rest there few)) ∙ f))

      left : (U (q ++ n ∷ rest) ≡ S (q ++ n ∷ rest)) ⊎ (U (q ++ n ∷ rest) ≡ relist_at S old new fresh (q ++ n ∷ rest) (Some (n ∷ rest))) → has_path (below (levels n) S (q /ₚ n)) (q ++ n ∷ rest) ≡ false → U (q ++ n ∷ rest) ≡ None
      left (inl f) e = f ∙ empty (S (q ++ n ∷ rest)) refl e
      left (inr f) e = f ∙ rw h

      at : (b : Bool) → has_path (below (levels n) S (q /ₚ n)) (q ++ n ∷ rest) ≡ b → cond b None (U (q ++ n ∷ rest)) ≡ None
      at true e = refl
      at false e = left ok e

  pub gone_away : (n : List ℕ) (r : List (List ℕ)) (U : Store) → ((rest : List (List ℕ)) → r ≢ q ++ n ∷ rest) → over U (gone n) r ≡ U r
  gone_away n r U away = ap (λ cs. over U cs r) (gone-is n) ∙ over-removals U (below (levels n) S (q /ₚ n)) r ∙ at (has_path (below (levels n) S (q /ₚ n)) r) refl
    where
      at : (b : Bool) → has_path (below (levels n) S (q /ₚ n)) r ≡ b → cond b None (U r) ≡ U r
      at true e = let w : (t : List (List ℕ)) × (r ≡ (q /ₚ n) ++ t) = only_below (levels n) S (q /ₚ n) r e in absurd (away w.0 (w.1 ∙ append_assoc q (n ∷ []) w.0))
      at false e = refl
