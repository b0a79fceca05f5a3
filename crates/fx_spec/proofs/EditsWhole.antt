-- Each edit leaves a whole filestore whole.
use Rattle.std.proofs.Common.{◌≡◌, ◌≢◌, ℕ, Bool, true, false, cond, ◌||◌, refl, ap, subst, sym, ◌∙◌, ◌⊎◌, inl, inr, List, [], ◌∷◌, ◌++◌, length, Option, Some, None, is_some, arith, length-append, append_assoc}
use mathlib.Core.Path.{fun_ext}
use Rattle.std.proofs.lemmas.List.{append-nil}
use Rattle.std.proofs.lemmas.Bool.{true≢false, or_right}
use Rattle.std.specs.Ordering.{eq_by_cmp}
use Rattle.std.specs.Option.{IfSome}
use Rattle.fx_base.proofs.Names.{path_itself, name_is, name_itself}
use Rattle.fx_base.proofs.Results.{none_of}
use Rattle.fx_store.specs.declared.node.Node.{Node}
use Rattle.fx_store.specs.declared.node.Node.TheVariants.{Dir}
use Rattle.fx_store.specs.declared.changes.Change.{Change}
use Rattle.fx_store.specs.Names.{path_cmp, name_cmp, has, rest_of}
use Rattle.fx_store.specs.Orders.{path_eq_same}
use Rattle.fx_store.specs.Relisted.{fresh_at, relist_at, IsLeaf, CanRelist}
use Rattle.fx_store.specs.Resolve.{◌/ₚ◌}
use Rattle.fx_store.specs.Whole.{Store, IsWhole, IsNode, lists, update, over}
use Rattle.fx_store.proofs.Relisted.{IsWhole-relisted, has_old}
use Rattle.fx_store.proofs.PathLists.{rest_append, rest_is}
use Rattle.fx_spec.proofs.Tasks.{over-append}
use Rattle.fx_spec.specs.Edit.{set_to}

pub path_apart : (p q : List (List ℕ)) → p ≢ q → eq_by_cmp path_cmp p q ≡ false
path_apart p q differ = at (eq_by_cmp path_cmp p q) refl
  where
    at : (b : Bool) → eq_by_cmp path_cmp p q ≡ b → b ≡ false
    at true e = absurd (differ (path_eq_same p q e))
    at false e = refl

pub update_here : (S : Store) (c : Change) (p : List (List ℕ)) → p ≡ c.path → update S c p ≡ c.node
update_here S c p e = rw (e, path_itself c.path)

pub update_away : (S : Store) (c : Change) (p : List (List ℕ)) → p ≢ c.path → update S c p ≡ S p
update_away S c p differ = rw (path_apart p c.path differ)

-- a later change of a path counts alone
pub overwritten : (S : Store) (p : List (List ℕ)) (a b : Option Node) (cs : List Change) → over S (record { path = p; node = a } ∷ record { path = p; node = b } ∷ cs) ≡ over S (record { path = p; node = b } ∷ cs)
overwritten S p a b cs = ap (λ T. over T cs) (fun_ext (λ r. at r (eq_by_cmp path_cmp r p)))
  where
    at : (r : List (List ℕ)) (t : Bool) → cond t b (cond t a (S r)) ≡ cond t b (S r)
    at r true = refl
    at r false = refl

-- nothing is below a path where nothing is
pub nothing_below : (S : Store) → IsWhole S → (t q : List (List ℕ)) → S q ≡ None → S (q ++ t) ≡ None
nothing_below S whole [] q e = rw (append-nil q) e
nothing_below S whole (n ∷ t) q e =
    let here : S (q /ₚ n) ≡ None = none_of (S (q /ₚ n)) (whole.listed q n ∙ ap (λ x. lists x n) e) in
    subst (λ r. S r ≡ None) (append_assoc q (n ∷ []) t) (nothing_below S whole t (q /ₚ n) here)

-- a path is never one of those below it
pub longer : (q t : List (List ℕ)) (n : List ℕ) → q ≡ q ++ n ∷ t → ⊥
longer q t n e = omega (arith, ap length e, length-append q (n ∷ t))

-- what the same path has behind a common front
pub same_rest : (q a b : List (List ℕ)) → q ++ a ≡ q ++ b → a ≡ b
same_rest q a b e = same_some (sym (rest_append q a) ∙ ap (rest_of q) e ∙ rest_append q b)
  where
    same_some : ◌≡◌ {A = Option (List (List ℕ))} (Some a) (Some b) → a ≡ b
    same_some e = cc

-- ------------------------------------------------------------------------------------------------ the content of a node

-- a node that is no directory is replaced by another
module _ (S : Store) (q : List (List ℕ)) (old new : Node) (whole : IsWhole S) (there : S q ≡ Some old) (other : (names : List (List ℕ)) → old ≢ Dir names) (old_leaf : (n : List ℕ) → lists (Some old) n ≡ false) (leaf : IsLeaf q new) where
  abbrev put_at : List (List ℕ) → Bool → Option Node
  put_at r b = cond b (Some new) (S r)

  same_there : (r : List (List ℕ)) (b : Bool) → eq_by_cmp path_cmp r q ≡ b → is_some (put_at r b) ≡ is_some (S r)
  same_there r true e = sym (ap is_some (ap S (path_eq_same r q e) ∙ there))
  same_there r false e = refl

  same_lists : (p : List (List ℕ)) (n : List ℕ) (b : Bool) → eq_by_cmp path_cmp p q ≡ b → lists (put_at p b) n ≡ lists (S p) n
  same_lists p n true e = leaf.childless n ∙ sym (old_leaf n) ∙ sym (ap (λ x. lists x n) (ap S (path_eq_same p q e) ∙ there))
  same_lists p n false e = refl

  put_root : (b : Bool) → eq_by_cmp path_cmp [] q ≡ b → (names : List (List ℕ)) × (put_at [] b ≡ Some (Dir names))
  put_root true e = absurd (other whole.root.0 (some_same (sym there ∙ ap S (sym (path_eq_same [] q e)) ∙ whole.root.1)))
    where
      some_same : ◌≡◌ {A = Option Node} (Some old) (Some (Dir whole.root.0)) → old ≡ Dir whole.root.0
      some_same e = cc
  put_root false e = whole.root

  put_nodes : (r : List (List ℕ)) (b : Bool) → eq_by_cmp path_cmp r q ≡ b → IfSome (put_at r b) (IsNode r)
  put_nodes r true e = rw (path_eq_same r q e) leaf.limits
  put_nodes r false e = whole.nodes r

  pub IsWhole-put : IsWhole (over S (set_to q new ∷ []))
  IsWhole-put = record {
    root = put_root (eq_by_cmp path_cmp [] q) refl;
    listed = λ p n. same_there (p /ₚ n) (eq_by_cmp path_cmp (p /ₚ n) q) refl ∙ whole.listed p n ∙ sym (same_lists p n (eq_by_cmp path_cmp p q) refl);
    paths = λ r h. whole.paths r (sym (same_there r (eq_by_cmp path_cmp r q) refl) ∙ h);
    nodes = λ r. put_nodes r (eq_by_cmp path_cmp r q) refl;
  }

-- ------------------------------------------------------------------------------------------ the entries of a directory

abbrev pub changes_of : (List ℕ → List Change) → List (List ℕ) → List Change
changes_of C [] = []
changes_of C (n ∷ names) = C n ++ changes_of C names

module _ (S : Store) (q old new : List (List ℕ)) (fresh : List ℕ → Node) (can : CanRelist S q old new fresh) where
  -- what is in the end at a path below the directory
  abbrev pub target : List ℕ → List (List ℕ) → Option Node
  target n rest = relist_at S old new fresh (q ++ n ∷ rest) (Some (n ∷ rest))

  -- the changes of each entry bring it and all below it there, and touch nothing else
  pub record Brings (C : List ℕ → List Change) (among : List (List ℕ)) : Type 0 where
    pub own : (n : List ℕ) (rest : List (List ℕ)) (U : Store) → has among n ≡ true → (U (q ++ n ∷ rest) ≡ S (q ++ n ∷ rest)) ⊎ (U (q ++ n ∷ rest) ≡ target n rest) → over U (C n) (q ++ n ∷ rest) ≡ target n rest
    pub other : (n : List ℕ) (r : List (List ℕ)) (U : Store) → ((rest : List (List ℕ)) → r ≢ q ++ n ∷ rest) → over U (C n) r ≡ U r
    pub kept : (n : List ℕ) (rest : List (List ℕ)) → has among n ≡ false → S (q ++ n ∷ rest) ≡ target n rest

  module _ (C : List ℕ → List Change) (among : List (List ℕ)) (brings : Brings C among) where
    untouched : (names : List (List ℕ)) (r : List (List ℕ)) (U : Store) → ((n : List ℕ) (rest : List (List ℕ)) → r ≢ q ++ n ∷ rest) → over U (changes_of C names) r ≡ U r
    untouched [] r U away = refl
    untouched (m ∷ names) r U away =
        ap (λ (T : Store). T r) (over-append U (C m) (changes_of C names)) ∙ untouched names r (over U (C m)) away ∙ brings.other m r U (away m)

    at_names : (names : List (List ℕ)) → ((k : List ℕ) → has names k ≡ true → has among k ≡ true) → (n : List ℕ) (rest : List (List ℕ)) (U : Store) → (U (q ++ n ∷ rest) ≡ S (q ++ n ∷ rest)) ⊎ (U (q ++ n ∷ rest) ≡ target n rest)
        → over U (changes_of C names) (q ++ n ∷ rest) ≡ cond (has names n) (target n rest) (U (q ++ n ∷ rest))
    at_names [] inside n rest U ok = refl
    at_names (m ∷ names) inside n rest U ok =
        ap (λ (T : Store). T (q ++ n ∷ rest)) (over-append U (C m) (changes_of C names)) ∙ at (eq_by_cmp name_cmp n m) refl (λ V k. at_names names tail n rest V k)
      where
        tail : (k : List ℕ) → has names k ≡ true → has among k ≡ true
        tail k h = inside k (or_right (eq_by_cmp name_cmp k m) (has names k) h)

        differ : eq_by_cmp name_cmp n m ≡ false → (more : List (List ℕ)) → q ++ n ∷ rest ≢ q ++ m ∷ more
        differ e more f = true≢false (sym (name_itself n) ∙ ap (λ k. eq_by_cmp name_cmp n k) (heads (same_rest q (n ∷ rest) (m ∷ more) f)) ∙ e)
          where
            heads : n ∷ rest ≡ m ∷ more → n ≡ m
            heads g = cc

        at : (b : Bool) → eq_by_cmp name_cmp n m ≡ b
            → ((V : Store) → (V (q ++ n ∷ rest) ≡ S (q ++ n ∷ rest)) ⊎ (V (q ++ n ∷ rest) ≡ target n rest) → over V (changes_of C names) (q ++ n ∷ rest) ≡ cond (has names n) (target n rest) (V (q ++ n ∷ rest)))
            → over (over U (C m)) (changes_of C names) (q ++ n ∷ rest) ≡ cond (b || has names n) (target n rest) (U (q ++ n ∷ rest))
        at true e next =
            let same : n ≡ m = name_is n m e in
            let here : has among n ≡ true = inside n (ap (λ b. b || has names n) e) in
            let own : over U (C m) (q ++ n ∷ rest) ≡ target n rest = subst (λ k. over U (C k) (q ++ n ∷ rest) ≡ target n rest) same (brings.own n rest U here ok) in
            next (over U (C m)) (inr own) ∙ ap (λ x. cond (has names n) (target n rest) x) own ∙ both (has names n)
          where
            both : (b : Bool) → cond b (target n rest) (target n rest) ≡ target n rest
            both true = refl
            both false = refl
        at false e next =
            let away : over U (C m) (q ++ n ∷ rest) ≡ U (q ++ n ∷ rest) = brings.other m (q ++ n ∷ rest) U (differ e) in
            next (over U (C m)) (still away ok) ∙ ap (λ x. cond (has names n) (target n rest) x) away
          where
            still : over U (C m) (q ++ n ∷ rest) ≡ U (q ++ n ∷ rest) → (U (q ++ n ∷ rest) ≡ S (q ++ n ∷ rest)) ⊎ (U (q ++ n ∷ rest) ≡ target n rest) → (over U (C m) (q ++ n ∷ rest) ≡ S (q ++ n ∷ rest)) ⊎ (over U (C m) (q ++ n ∷ rest) ≡ target n rest)
            still f (inl g) = inl (f ∙ g)
            still f (inr g) = inr (f ∙ g)

    -- the directory's new names and then its entries' changes relist it
    pub relisting : (r : List (List ℕ)) (t : Option (List (List ℕ))) → rest_of q r ≡ t → over S (set_to q (Dir new) ∷ changes_of C among) r ≡ relist_at S old new fresh r t
    relisting r None e =
        untouched among r (update S (set_to q (Dir new))) away ∙ update_away S (set_to q (Dir new)) r not_q
      where
        away : (n : List ℕ) (rest : List (List ℕ)) → r ≢ q ++ n ∷ rest
        away n rest f = absurd (none_some (sym e ∙ ap (rest_of q) f ∙ rest_append q (n ∷ rest)))
          where
            none_some : ◌≡◌ {A = Option (List (List ℕ))} None (Some (n ∷ rest)) → ⊥
            none_some g = cc

        not_q : r ≢ q
        not_q f = none_some (sym e ∙ ap (rest_of q) (f ∙ sym (append-nil q)) ∙ rest_append q [])
          where
            none_some : ◌≡◌ {A = Option (List (List ℕ))} None (Some []) → ⊥
            none_some g = cc
    relisting r (Some []) e =
        untouched among r (update S (set_to q (Dir new))) away ∙ update_here S (set_to q (Dir new)) r (rest_is q r [] e ∙ append-nil q)
      where
        away : (n : List ℕ) (rest : List (List ℕ)) → r ≢ q ++ n ∷ rest
        away n rest f = longer q rest n (sym (rest_is q r [] e ∙ append-nil q) ∙ f)
    relisting r (Some (n ∷ rest)) e =
        subst (λ r. over S (set_to q (Dir new) ∷ changes_of C among) r ≡ relist_at S old new fresh r (Some (n ∷ rest))) (sym (rest_is q r (n ∷ rest) e)) (
        at_names among (λ k h. h) n rest (update S (set_to q (Dir new))) (inl same) ∙ at (has among n) refl)
      where
        same : update S (set_to q (Dir new)) (q ++ n ∷ rest) ≡ S (q ++ n ∷ rest)
        same = update_away S (set_to q (Dir new)) (q ++ n ∷ rest) (λ f. longer q rest n (sym f))

        at : (b : Bool) → has among n ≡ b → cond b (target n rest) (update S (set_to q (Dir new)) (q ++ n ∷ rest)) ≡ target n rest
        at true h = refl
        at false h = same ∙ brings.kept n rest h

    pub IsWhole-brought : IsWhole (over S (set_to q (Dir new) ∷ changes_of C among))
    IsWhole-brought = subst IsWhole (sym (fun_ext (λ r. relisting r (rest_of q r) refl))) (IsWhole-relisted S q old new fresh can)

  -- an entry that was not there stays so below
  pub absent_below : (n : List ℕ) (rest : List (List ℕ)) → has old n ≡ false → S (q ++ n ∷ rest) ≡ None
  absent_below n rest h = subst (λ r. S r ≡ None) (append_assoc q (n ∷ []) rest) (nothing_below S can.whole rest (q /ₚ n) (none_of (S (q /ₚ n)) (has_old S q old new fresh can n ∙ h)))

  -- a kept entry
  pub kept_target : (n : List ℕ) (rest : List (List ℕ)) → has new n ≡ has old n → S (q ++ n ∷ rest) ≡ target n rest
  kept_target n rest same = at (has old n) refl (same)
    where
      at : (b : Bool) → has old n ≡ b → has new n ≡ b → S (q ++ n ∷ rest) ≡ cond (has new n) (cond (has old n) (S (q ++ n ∷ rest)) (fresh_at (fresh n) rest)) None
      at true h g = rw (g, h)
      at false h g = absent_below n rest h ∙ rw g

  -- the entry that one change makes
  pub made_target : (n : List ℕ) (rest : List (List ℕ)) (U : Store) → has new n ≡ true → has old n ≡ false → (U (q ++ n ∷ rest) ≡ S (q ++ n ∷ rest)) ⊎ (U (q ++ n ∷ rest) ≡ target n rest) → over U (set_to (q /ₚ n) (fresh n) ∷ []) (q ++ n ∷ rest) ≡ target n rest
  made_target n [] U h g ok = update_here U (set_to (q /ₚ n) (fresh n)) (q /ₚ n) refl ∙ rw (h, g)
  made_target n (m ∷ rest) U h g ok =
      update_away U (set_to (q /ₚ n) (fresh n)) (q ++ n ∷ m ∷ rest) far ∙ at ok ∙ rw (h, g)
    where
      far : q ++ n ∷ m ∷ rest ≢ q /ₚ n
      far f = absurd (longer_rest (same_rest q (n ∷ m ∷ rest) (n ∷ []) f))
        where
          longer_rest : n ∷ m ∷ rest ≡ n ∷ [] → ⊥
          longer_rest f = cc

      empty : target n (m ∷ rest) ≡ None
      empty = rw (h, g)

      at : (U (q ++ n ∷ m ∷ rest) ≡ S (q ++ n ∷ m ∷ rest)) ⊎ (U (q ++ n ∷ m ∷ rest) ≡ target n (m ∷ rest)) → U (q ++ n ∷ m ∷ rest) ≡ None
      at (inl f) = f ∙ absent_below n (m ∷ rest) g
      at (inr f) = f ∙ empty

  pub made_away : (n : List ℕ) (r : List (List ℕ)) (U : Store) → ((rest : List (List ℕ)) → r ≢ q ++ n ∷ rest) → over U (set_to (q /ₚ n) (fresh n) ∷ []) r ≡ U r
  made_away n r U away = update_away U (set_to (q /ₚ n) (fresh n)) r (away [])
