-- A creation and a removal leave what was there.
use Rattle.std.proofs.Common.{◌≡◌, ◌≢◌, ℕ, suc, ◌-◌, ◌<◌, Bool, true, false, cond, not, refl, ap, sym, subst, ◌∙◌, List, [], ◌∷◌, ◌++◌, length, Option, Some, None, is_some, Ok, Err, arith, length-append, get_or}
use Rattle.std.proofs.Math.Seq.{take-append_seam}
use Rattle.std.proofs.lemmas.Bool.{true≢false, or_parts}
use Rattle.std.specs.Cmp.Lexicographic.{texts_ties}
use Rattle.std.specs.declared.cmp.Ordering.{Ordering}
use Rattle.std.specs.declared.cmp.Ordering.TheVariants.{Less, Equal, Greater}
use Rattle.std.specs.Ordering.{eq_by_cmp, match_ordering}
use Rattle.fx_base.proofs.Names.{name_itself, path_itself}
use Rattle.fx_base.specs.Sets.{without_name}
use Rattle.fx_store.specs.declared.node.Node.{Node}
use Rattle.fx_store.specs.declared.node.Node.TheVariants.{Dir}
use Rattle.fx_store.specs.declared.node.Landing.TheVariants.{At}
use Rattle.fx_store.specs.declared.changes.Change.{Change}
use Rattle.fx_store.specs.Landings.{IsDir, IsTrueOf}
use Rattle.fx_store.specs.Names.{name_cmp, path_cmp, has, rest_of}
use Rattle.fx_store.specs.Orders.{path_eq_same}
use Rattle.fx_store.specs.Resolve.{◌/ₚ◌, parent, resolve, lands}
use Rattle.fx_store.specs.Rule.{answer, Answer, ◌>>=◌}
use Rattle.fx_store.specs.Whole.{Store, IsWhole, lists, over}
use Rattle.fx_store.proofs.Asks.{answer-bind}
use Rattle.fx_store.proofs.Landings.{landings_are_true}
use Rattle.fx_store.proofs.PathLists.{rest_append, rest_is}
use Rattle.fx_expr.specs.Sets.{with_text}
use Rattle.fx_spec.specs.declared.refusal.Refusal.{Refusal}
use Rattle.fx_spec.specs.Edit.{set_to, names_of, clear, bare_node, create_landed, create_at, last_name, remove_entry, remove_landed, remove_at}
use Rattle.fx_spec.specs.Move.{unrefused, needed}
use Rattle.fx_spec.proofs.EditLaws.{edits_keep_whole}
use Rattle.fx_spec.proofs.EditsWhole.{nothing_below}
use Rattle.fx_laws.specs.Created.{IsRemovedAgain, CreationsAreUndone}
use Rattle.fx_laws.specs.Edited.{IsWithin, IsWithout, HasNodeMade}
use Rattle.fx_laws.specs.Stored.{Same}
use Rattle.fx_laws.proofs.Among.{Path}
use Rattle.fx_laws.proofs.Edited.{creations_make, removals_remove}
use Rattle.fx_laws.proofs.Landed.{made_lands}

-- ---- a name that is put in and left out

left_out : (n : List ℕ) (xs : Path) → has xs n ≡ false → without_name n xs ≡ xs
left_out n [] e = refl
left_out n (x ∷ xs) e =
    let apart = or_parts (eq_by_cmp name_cmp n x) (has xs n) e in
    ap (λ b. cond (not b) (x ∷ without_name n xs) (without_name n xs)) (texts_ties n x ∙ apart.0) ∙ ap (λ ys. x ∷ ys) (left_out n xs apart.1)

put_and_left_out : (n : List ℕ) (xs : Path) → has xs n ≡ false → without_name n (with_text n xs) ≡ xs
put_and_left_out n [] e = ap (λ b. cond (not b) (n ∷ []) []) (texts_ties n n ∙ name_itself n)
put_and_left_out n (x ∷ xs) e = by (name_cmp n x) refl (put_and_left_out n xs apart.1)
  where
    apart : (eq_by_cmp name_cmp n x ≡ false) × (has xs n ≡ false)
    apart = or_parts (eq_by_cmp name_cmp n x) (has xs n) e

    by : (o : Ordering) → name_cmp n x ≡ o → without_name n (with_text n xs) ≡ xs → without_name n (match_ordering o (n ∷ x ∷ xs) (x ∷ xs) (x ∷ with_text n xs)) ≡ x ∷ xs
    by Less is more = ap (λ b. cond (not b) (n ∷ without_name n (x ∷ xs)) (without_name n (x ∷ xs))) (texts_ties n n ∙ name_itself n) ∙ left_out n (x ∷ xs) e
    by Equal is more = left_out n (x ∷ xs) e
    by Greater is more = ap (λ b. cond (not b) (x ∷ without_name n (with_text n xs)) (without_name n (with_text n xs))) (texts_ties n x ∙ apart.0) ∙ ap (λ ys. x ∷ ys) more

-- ---- the last name of a path

up_of : (here : Path) (n : List ℕ) → parent (here /ₚ n) ≡ here
up_of here n = let e : length (here ++ n ∷ []) - 1 ≡ length here = omega (arith, length-append here (n ∷ [])) in rw e (take-append_seam here (n ∷ []))

last_of : (here : Path) (n : List ℕ) → last_name (here /ₚ n) ≡ n
last_of [] n = refl
last_of (a ∷ here) n = let e : length ((a ∷ here) ++ n ∷ []) - 1 ≡ suc (length (here ++ n ∷ []) - 1) = omega (arith, length-append here (n ∷ [])) in ap (λ k. get_or ((a ∷ here) ++ n ∷ []) k []) e ∙ last_of here n

-- ---- a removal that is accepted

removes : (T : Store) (q : Path) → 0 < length q → (cs : List Change) × (answer T (remove_entry q) ≡ Ok cs)
removes T [] some = absurd (omega arith)
removes T (m ∷ names) some =
    (_, answer-bind T (clear (m ∷ names)) (λ below. Answer (Ok (set_to (parent (m ∷ names)) (Dir (without_name (last_name (m ∷ names)) (names_of (T (parent (m ∷ names)))))) ∷ below))))

-- ---- both

module _ (S T U : Store) (whole : IsWhole S) (here : Path) (n : List ℕ) (node : Node) (made : HasNodeMade S T here n [] node) (old : Path) (dir : S here ≡ Some (Dir old)) (none : S (here /ₚ n) ≡ None) (without : IsWithout T U (here /ₚ n)) where
  unlisted : has old n ≡ false
  unlisted = sym (ap (λ x. lists x n) dir) ∙ (sym (whole.listed here n) ∙ ap is_some none)

  at_here : U here ≡ S here
  at_here =
      ap U (sym (up_of here n))
      ∙ (without.above (with_text n old) (ap T (up_of here n) ∙ made.above old dir)
      ∙ (ap (λ m. Some (Dir (without_name m (with_text n old)))) (last_of here n) ∙ (ap (λ names. Some (Dir names)) (put_and_left_out n old unlisted) ∙ sym dir)))

  restored : Same S U
  restored p = by (rest_of (here /ₚ n) p) refl (eq_by_cmp path_cmp p here) refl
    where
      by : (o : Option Path) → rest_of (here /ₚ n) p ≡ o → (b : Bool) → eq_by_cmp path_cmp p here ≡ b → U p ≡ S p
      by o is true e = ap U (path_eq_same p here e) ∙ (at_here ∙ ap S (sym (path_eq_same p here e)))
      by (Some t) is false e =
          let within : p ≡ (here /ₚ n) ++ t = rest_is (here /ₚ n) p t is in
          ap U within ∙ (without.gone t ∙ (sym (nothing_below S whole t (here /ₚ n) none) ∙ ap S (sym within)))
      by None is false e = without.others p (λ same. apart (same ∙ up_of here n)) outside ∙ made.others p apart outside
        where
          apart : p ≢ here
          apart same = true≢false (sym (path_itself here) ∙ (ap (λ r. eq_by_cmp path_cmp r here) (sym same) ∙ e))

          outside : IsWithin (here /ₚ n) p → ⊥
          outside w = let found : rest_of (here /ₚ n) p ≡ Some w.0 = ap (rest_of (here /ₚ n)) w.1 ∙ rest_append (here /ₚ n) w.0 in cc

pub creations_are_undone : CreationsAreUndone
creations_are_undone S whole at is_path here n landing cs e = by (bare_node at.spec) refl
  where
    true_landing : IsDir S here × (S (here /ₚ n) ≡ None)
    true_landing = subst (IsTrueOf S) landing (landings_are_true S whole at.path false)

    same_at : (p q : Path) → At p ≡ At q → p ≡ q
    same_at p q e = cc

    by : (o : Option Node) → bare_node at.spec ≡ o → IsRemovedAgain S (over S cs) at
    by None is = let refused : answer S (create_at at) ≡ Err Refusal.NoDefault = ap (λ o. answer S (unrefused (λ node. resolve at.path false >>= create_landed at.path node) (needed Refusal.NoDefault o))) is in cc
    by (Some node) is =
        let made : HasNodeMade S (over S cs) here n [] node = creations_make S at node here n [] is landing cs e in
        let kept : IsWhole (over S cs) = edits_keep_whole.create S whole at is_path cs e in
        let lands_there : lands (over S cs) at.path false ≡ At (here /ₚ n) = made_lands S (over S cs) whole kept here n [] node made true_landing.0.0 true_landing.0.1 true_landing.1 false (λ text same. refl) at.path landing in
        let some : 0 < length (here ++ n ∷ []) = omega (arith, length-append here (n ∷ [])) in
        let gone = removes (over S cs) (here /ₚ n) some in
        let removed : answer (over S cs) (remove_at at) ≡ Ok gone.0 = answer-bind (over S cs) (resolve at.path false) (remove_landed at.path) ∙ (ap (λ l. answer (over S cs) (remove_landed at.path l)) lands_there ∙ gone.1) in
        let w = removals_remove (over S cs) kept at gone.0 removed in
        record {
          changes = gone.0;
          removes = removed;
          same = restored S (over S cs) (over (over S cs) gone.0) whole here n node made true_landing.0.0 true_landing.0.1 true_landing.1 (subst (λ q. IsWithout (over S cs) (over (over S cs) gone.0) q) (same_at w.0 (here /ₚ n) (sym w.1.0 ∙ lands_there)) w.1.1);
        }
