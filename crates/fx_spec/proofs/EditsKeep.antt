-- Each edit that is not refused leaves a whole filestore whole.
use Rattle.std.proofs.Common.{◌≡◌, ◌≢◌, ℕ, suc, ◌-◌, ◌<◌, Bool, true, false, cond, not, ◌||◌, refl, ap, subst, sym, ◌∙◌, ◌⊎◌, inl, inr, List, [], ◌∷◌, ◌++◌, length, take, Option, Some, is_some, Ok, arith, bytes_eq}
use Rattle.std.proofs.Math.Seq.{take-length, take-suc}
use Rattle.std.proofs.lemmas.List.{append-nil}
use Rattle.std.proofs.lemmas.List.Folds.{list_any-append}
use Rattle.std.proofs.lemmas.List.Elements.{All-filter, All-nil}
use Rattle.std.proofs.lemmas.List.Kept.{IsStrictlySortedBy-filter}
use Rattle.std.proofs.lemmas.Bool.{true≢false}
use Rattle.std.specs.Cmp.Lexicographic.{texts_ties}
use Rattle.std.specs.Option.{IfSome}
use Rattle.std.specs.Ordering.{eq_by_cmp}
use Rattle.fx_base.proofs.Names.{name_is}
use Rattle.fx_base.specs.Sets.{without_name}
use Rattle.fx_store.specs.declared.node.Node.{Node}
use Rattle.fx_store.specs.declared.node.Node.TheVariants.{File, Dir}
use Rattle.fx_store.specs.declared.changes.Change.{Change}
use Rattle.fx_store.specs.Names.{name_cmp, IsName, IsNameSet, has, rest_of}
use Rattle.fx_store.specs.Relisted.{relist_at, IsLeaf, CanRelist, relisted}
use Rattle.fx_store.specs.Resolve.{◌/ₚ◌, parent}
use Rattle.fx_store.specs.Rule.{Ask, Answer, Look, answer, ◌>>=◌}
use Rattle.fx_store.specs.Whole.{Store, IsWhole, IsNode, over}
use Rattle.fx_store.proofs.Asks.{answer-bind}
use Rattle.fx_store.proofs.Landings.{listing_is_dir}
use Rattle.fx_expr.specs.Sets.{IsAscending, set_of}
use Rattle.fx_text.proofs.Canon.{ascending_set}
use Rattle.fx_spec.specs.Move.{Answered}
use Rattle.fx_spec.specs.Edit.{set_to, names_of, clear, entry, entries, new_names, last_name, remove_entry}
use Rattle.fx_spec.proofs.EditsWhole.{changes_of, Brings, relisting, IsWhole-brought, kept_target, made_target, made_away}
use Rattle.fx_spec.proofs.EditsClear.{has-set_of, gone_target, gone_away}

pub same_ok : {A : Type 0} (a b : A) → ◌≡◌ {A = Answered A} (Ok a) (Ok b) → a ≡ b
same_ok a b e = cc

pub empty_file : (path : List (List ℕ)) → IsLeaf path (File [] false)
empty_file path = record { childless = λ n. refl; limits = record { short = omega arith; bytes = All-nil _ } }

ascending_none : IsAscending []
ascending_none = ascending_set []

pub empty_dir : (path : List (List ℕ)) → IsLeaf path (Dir [])
empty_dir path = record { childless = λ n. refl; limits = (record { names = All-nil _; ascending = ascending_none }, λ e. refl) }

-- what the directory at a path lists is a set of names, with room below
pub dir_node : (S : Store) → IsWhole S → (q old : List (List ℕ)) → S q ≡ Some (Dir old) → IsNameSet old × (length q ≡ 64 → old ≡ [])
dir_node S whole q old e = subst (λ x. IfSome x (IsNode q)) e (whole.nodes q)

-- ------------------------------------------------------------------------------------------------ a directory's new names

entries-is : (S : Store) (f : List ℕ → Ask (List Change)) (names : List (List ℕ)) → answer S (entries f names) ≡ changes_of (λ n. answer S (f n)) names
entries-is S f [] = refl
entries-is S f (n ∷ names) =
    answer-bind S (f n) (λ first. entries f names >>= λ rest. Answer (first ++ rest)) ∙ answer-bind S (entries f names) (λ rest. Answer (answer S (f n) ++ rest)) ∙ ap (λ rest. answer S (f n) ++ rest) (entries-is S f names)

neither : (a b : Bool) → (a || b) ≡ false → b ≡ a
neither true b e = absurd (true≢false e)
neither false b e = e

module _ (S : Store) (q old new : List (List ℕ)) (can : CanRelist S q old new (λ n. File [] false)) where
  abbrev target : List ℕ → List (List ℕ) → Option Node
  target n rest = relist_at S old new (λ n. File [] false) (q ++ n ∷ rest) (Some (n ∷ rest))

  entry-brings : Brings S q old new (λ n. File [] false) can (λ n. answer S (entry q old new n)) (set_of (old ++ new))
  entry-brings = record {
    own = λ n rest U h ok. own n rest U ok (has new n) (has old n) refl refl;
    other = λ n r U away. other n r U away (has new n) (has old n);
    kept = λ n rest h. kept_target S q old new (λ n. File [] false) can n rest (neither (has old n) (has new n) (sym (list_any-append (eq_by_cmp name_cmp n) old new) ∙ sym (has-set_of (old ++ new) n) ∙ h));
  }
    where
      own : (n : List ℕ) (rest : List (List ℕ)) (U : Store) → (U (q ++ n ∷ rest) ≡ S (q ++ n ∷ rest)) ⊎ (U (q ++ n ∷ rest) ≡ target n rest) → (a b : Bool) → has new n ≡ a → has old n ≡ b
          → over U (answer S (cond a (cond b (Answer []) (Look (q /ₚ n) (λ node. Answer (set_to (q /ₚ n) (File [] false) ∷ [])))) (clear (q /ₚ n)))) (q ++ n ∷ rest) ≡ target n rest
      own n rest U (inl g) true true e f = g ∙ kept_target S q old new (λ n. File [] false) can n rest (e ∙ sym f)
      own n rest U (inr g) true true e f = g
      own n rest U ok true false e f = made_target S q old new (λ n. File [] false) can n rest U e f ok
      own n rest U ok false b e f = gone_target S q old new (λ n. File [] false) can n rest U e ok

      other : (n : List ℕ) (r : List (List ℕ)) (U : Store) → ((rest : List (List ℕ)) → r ≢ q ++ n ∷ rest) → (a b : Bool)
          → over U (answer S (cond a (cond b (Answer []) (Look (q /ₚ n) (λ node. Answer (set_to (q /ₚ n) (File [] false) ∷ [])))) (clear (q /ₚ n)))) r ≡ U r
      other n r U away true true = refl
      other n r U away true false = made_away S q old new (λ n. File [] false) can n r U away
      other n r U away false b = gone_away S q old new (λ n. File [] false) can n r U away

pub new_names_keep : (S : Store) (q old new : List (List ℕ)) → IsWhole S → S q ≡ Some (Dir old) → IsNameSet new → (length q ≡ 64 → new ≡ []) → (cs : List Change) → answer S (new_names q old new) ≡ Ok cs → IsWhole (over S cs)
new_names_keep S q old new whole e names room cs ok =
    let can : CanRelist S q old new (λ n. File [] false) = record { whole = whole; dir = e; names = names; room = room; leaves = λ n h. empty_file (q /ₚ n) } in
    let is : answer S (new_names q old new) ≡ Ok (set_to q (Dir new) ∷ changes_of (λ n. answer S (entry q old new n)) (set_of (old ++ new))) =
    answer-bind S (entries (entry q old new) (set_of (old ++ new))) (λ below. Answer (Ok (set_to q (Dir new) ∷ below))) ∙ ap (λ below. Ok (set_to q (Dir new) ∷ below)) (entries-is S (entry q old new) (set_of (old ++ new))) in
    subst (λ cs. IsWhole (over S cs)) (same_ok _ _ (sym is ∙ ok)) (IsWhole-brought S q old new (λ n. File [] false) can (λ n. answer S (entry q old new n)) (set_of (old ++ new)) (entry-brings S q old new can))

-- and the filestore is as before, but that the directory lists the new names
pub new_names_relist : (S : Store) (q old new : List (List ℕ)) → IsWhole S → S q ≡ Some (Dir old) → IsNameSet new → (length q ≡ 64 → new ≡ []) → (cs : List Change) → answer S (new_names q old new) ≡ Ok cs → (r : List (List ℕ)) → over S cs r ≡ relisted S q old new (λ n. File [] false) r
new_names_relist S q old new whole e names room cs ok r =
    let can : CanRelist S q old new (λ n. File [] false) = record { whole = whole; dir = e; names = names; room = room; leaves = λ n h. empty_file (q /ₚ n) } in
    let is : answer S (new_names q old new) ≡ Ok (set_to q (Dir new) ∷ changes_of (λ n. answer S (entry q old new n)) (set_of (old ++ new))) =
    answer-bind S (entries (entry q old new) (set_of (old ++ new))) (λ below. Answer (Ok (set_to q (Dir new) ∷ below))) ∙ ap (λ below. Ok (set_to q (Dir new) ∷ below)) (entries-is S (entry q old new) (set_of (old ++ new))) in
    ap (λ cs. over S cs r) (sym (same_ok _ _ (sym is ∙ ok))) ∙ relisting S q old new (λ n. File [] false) can (λ n. answer S (entry q old new n)) (set_of (old ++ new)) (entry-brings S q old new can) r (rest_of q r) refl

-- ---------------------------------------------------------------------------------------------------- a removed entry

not_same : (n x : List ℕ) → bytes_eq n x ≡ eq_by_cmp name_cmp n x
not_same n x = texts_ties n x

pub without_own : (n : List ℕ) (names : List (List ℕ)) → has (without_name n names) n ≡ false
without_own n [] = refl
without_own n (x ∷ names) = at (bytes_eq n x) refl (without_own n names)
  where
    at : (b : Bool) → bytes_eq n x ≡ b → has (without_name n names) n ≡ false → has (cond (not b) (x ∷ without_name n names) (without_name n names)) n ≡ false
    at true e h = h
    at false e h = rw (sym (not_same n x) ∙ e) h

pub without_other : (n m : List ℕ) (names : List (List ℕ)) → eq_by_cmp name_cmp m n ≡ false → has (without_name n names) m ≡ has names m
without_other n m [] e = refl
without_other n m (x ∷ names) e = at (bytes_eq n x) refl (without_other n m names e)
  where
    at : (b : Bool) → bytes_eq n x ≡ b → has (without_name n names) m ≡ has names m → has (cond (not b) (x ∷ without_name n names) (without_name n names)) m ≡ (eq_by_cmp name_cmp m x || has names m)
    at true f h = h ∙ sym (ap (λ b. b || has names m) (subst (λ k. eq_by_cmp name_cmp m k ≡ false) (name_is n x (sym (not_same n x) ∙ f)) e))
    at false f h = ap (λ t. eq_by_cmp name_cmp m x || t) h

pub one_has : (n m : List ℕ) → has (n ∷ []) m ≡ true → m ≡ n
one_has n m h = at (eq_by_cmp name_cmp m n) refl h
  where
    at : (b : Bool) → eq_by_cmp name_cmp m n ≡ b → (b || false) ≡ true → m ≡ n
    at true e k = name_is m n e
    at false e k = absurd (true≢false (sym k))

pub one_lacks : (n m : List ℕ) → has (n ∷ []) m ≡ false → eq_by_cmp name_cmp m n ≡ false
one_lacks n m h = at (eq_by_cmp name_cmp m n) refl h
  where
    at : (b : Bool) → eq_by_cmp name_cmp m n ≡ b → (b || false) ≡ false → b ≡ false
    at true e k = absurd (true≢false k)
    at false e k = refl

-- a path that is not the root, by its parent and its last name
pub ends_in : (q : List (List ℕ)) → 0 < length q → q ≡ parent q /ₚ last_name q
ends_in q l =
    let n : suc (length q - 1) ≡ length q = omega (arith, l) in
    sym (take-length q) ∙ ap (λ k. take k q) (sym n) ∙ take-suc q (length q - 1) [] (omega (arith, l))

module _ (S : Store) (up : List (List ℕ)) (n : List ℕ) (old : List (List ℕ)) (whole : IsWhole S) (e : S up ≡ Some (Dir old)) where
  pub can_remove : CanRelist S up old (without_name n old) (λ m. File [] false)
  can_remove =
      let listing = dir_node S whole up old e in
      record {
        whole = whole;
        dir = e;
        names = record { names = All-filter (λ m. not (bytes_eq n m)) IsName old listing.0.names; ascending = IsStrictlySortedBy-filter name_cmp (λ m. not (bytes_eq n m)) old listing.0.ascending };
        room = λ full. ap (λ l. without_name n l) (listing.1 full);
        leaves = λ m h. empty_file (up /ₚ m);
      }

  removal_brings : Brings S up old (without_name n old) (λ m. File [] false) can_remove (λ m. answer S (clear (up /ₚ m))) (n ∷ [])
  removal_brings = record {
    own = λ m rest U h ok. gone_target S up old (without_name n old) (λ m. File [] false) can_remove m rest U (subst (λ k. has (without_name n old) k ≡ false) (sym (one_has n m h)) (without_own n old)) ok;
    other = λ m r U away. gone_away S up old (without_name n old) (λ m. File [] false) can_remove m r U away;
    kept = λ m rest h. kept_target S up old (without_name n old) (λ m. File [] false) can_remove m rest (without_other n m old (one_lacks n m h));
  }

  abbrev removal : List Change
  removal = set_to up (Dir (without_name n old)) ∷ answer S (clear (up /ₚ n))

  removed_whole : IsWhole (over S removal)
  removed_whole =
      subst (λ cs. IsWhole (over S (set_to up (Dir (without_name n old)) ∷ cs))) (append-nil (answer S (clear (up /ₚ n)))) (
      IsWhole-brought S up old (without_name n old) (λ m. File [] false) can_remove (λ m. answer S (clear (up /ₚ m))) (n ∷ []) removal_brings)

  -- the filestore is as before, but that the directory lists the name no more
  pub removal_relists : (r : List (List ℕ)) → over S removal r ≡ relisted S up old (without_name n old) (λ m. File [] false) r
  removal_relists r =
      ap (λ cs. over S (set_to up (Dir (without_name n old)) ∷ cs) r) (sym (append-nil (answer S (clear (up /ₚ n)))))
      ∙ relisting S up old (without_name n old) (λ m. File [] false) can_remove (λ m. answer S (clear (up /ₚ m))) (n ∷ []) removal_brings r (rest_of up r) refl

-- what a removal changes, at a path that is not the root
pub remove_is : (S : Store) → IsWhole S → (q : List (List ℕ)) → is_some (S q) ≡ true → (cs : List Change) → answer S (remove_entry q) ≡ Ok cs
    → (0 < length q) × ((old : List (List ℕ)) × ((S (parent q) ≡ Some (Dir old)) × (set_to (parent q) (Dir (without_name (last_name q) old)) ∷ answer S (clear (parent q /ₚ last_name q)) ≡ cs)))
remove_is S whole [] there cs ok = cc
remove_is S whole (m ∷ names) there cs ok = at (listing_is_dir (S (parent q)) (last_name q) (sym (whole.listed (parent q) (last_name q)) ∙ subst (λ r. is_some (S r) ≡ true) split there))
  where
    q : List (List ℕ)
    q = m ∷ names

    split : m ∷ names ≡ parent (m ∷ names) /ₚ last_name (m ∷ names)
    split = ends_in (m ∷ names) (omega arith)

    is : answer S (remove_entry (m ∷ names)) ≡ Ok (set_to (parent (m ∷ names)) (Dir (without_name (last_name (m ∷ names)) (names_of (S (parent (m ∷ names)))))) ∷ answer S (clear (m ∷ names)))
    is = answer-bind S (clear (m ∷ names)) (λ below. Answer (Ok (set_to (parent (m ∷ names)) (Dir (without_name (last_name (m ∷ names)) (names_of (S (parent (m ∷ names)))))) ∷ below)))

    at : (old : List (List ℕ)) × (S (parent (m ∷ names)) ≡ Some (Dir old))
        → (0 < length (m ∷ names)) × ((old : List (List ℕ)) × ((S (parent (m ∷ names)) ≡ Some (Dir old)) × (set_to (parent (m ∷ names)) (Dir (without_name (last_name (m ∷ names)) old)) ∷ answer S (clear (parent (m ∷ names) /ₚ last_name (m ∷ names))) ≡ cs)))
    at w =
        let listed : names_of (S (parent (m ∷ names))) ≡ w.0 = ap names_of w.1 in
        let same : set_to (parent (m ∷ names)) (Dir (without_name (last_name (m ∷ names)) w.0)) ∷ answer S (clear (parent (m ∷ names) /ₚ last_name (m ∷ names))) ≡ cs =
        (λ i. set_to (parent (m ∷ names)) (Dir (without_name (last_name (m ∷ names)) (sym listed i))) ∷ answer S (clear (sym split i))) ∙ same_ok _ _ (sym is ∙ ok) in
        (omega arith, (w.0, (w.1, same)))

pub remove_keeps : (S : Store) → IsWhole S → (q : List (List ℕ)) → is_some (S q) ≡ true → (cs : List Change) → answer S (remove_entry q) ≡ Ok cs → IsWhole (over S cs)
remove_keeps S whole q there cs ok =
    let is = remove_is S whole q there cs ok in
    subst (λ cs. IsWhole (over S cs)) is.1.1.1 (removed_whole S (parent q) (last_name q) is.1.0 whole is.1.1.0)
