-- How many of the first reads an edit leaves untouched.
use Rattle.std.proofs.Common.{◌≡◌, ℕ, List, [], ◌∷◌, ◌++◌, min, take, Option, Some, None, IfSome, refl, sym, ap, subst, ◌∙◌, IsSome}
use Rattle.std.specs.Prelude.{slice_get}
use Rattle.std.proofs.lemmas.List.{map-append}
use Rattle.fx_store.specs.declared.node.Node.{Node}
use Rattle.fx_store.specs.declared.changes.Change.{Change}
use Rattle.fx_store.specs.Changes.{changed_paths}
use Rattle.fx_view.specs.OwnList.{OwnList}
use Rattle.fx_view.specs.ReadList.{ReadList}
use Rattle.fx_view.specs.Reads.{count_before}
use Rattle.fx_view.specs.Own.{own_at, put_all, SameOver}
use Rattle.fx_view.proofs.Apart.{count_append, next_among, same_before, put_among}
use Rattle.fx_edit.specs.Edits.{IsNextSet}

-- one change more
pub count_push : (reads : ReadList) (cs : List Change) (c : Change) (n : ℕ) → n ≡ count_before (changed_paths cs) reads → min n (count_before (c.path ∷ []) reads) ≡ count_before (changed_paths (cs ++ c ∷ [])) reads
count_push reads cs c n is =
    ap (λ n. min n (count_before (c.path ∷ []) reads)) is
    ∙ sym (count_append (changed_paths cs) (c.path ∷ []) reads)
    ∙ ap (λ ps. count_before ps reads) (sym (map-append (λ (c : Change). c.path) cs (c ∷ [])))

module _ {own kept after : OwnList} {reads now : ReadList} {n : ℕ} (cs : List Change) (keeps : kept ≡ own) (put_on : after ≡ put_all kept cs) (same : reads ≡ now) (is : n ≡ count_before (changed_paths cs) reads) where
  put : after ≡ put_all own cs
  put = put_on ∙ ap (λ own. put_all own cs) keeps

  pub untouched_same : SameOver (take n now) (own_at own) (own_at after)
  untouched_same =
      subst (λ after. SameOver (take n now) (own_at own) (own_at after)) (sym put)
      (subst (λ now. SameOver (take n now) (own_at own) (own_at (put_all own cs))) same
      (subst (λ n. SameOver (take n reads) (own_at own) (own_at (put_all own cs))) (sym is) (same_before own cs reads)))

  next_set : IsNextSet reads (put_all own cs) (count_before (changed_paths cs) reads)
  next_set = at (slice_get reads (count_before (changed_paths cs) reads)) refl
    where
      at : (r : Option (List (List ℕ) × (Option Node × ℕ))) → slice_get reads (count_before (changed_paths cs) reads) ≡ r → IfSome r (λ read. IsSome (own_at (put_all own cs) read.0))
      at None here = tt
      at (Some r) here = put_among own cs r.0 (next_among (changed_paths cs) reads r here)

  pub untouched_next : IsNextSet now after n
  untouched_next =
      subst (λ after. IsNextSet now after n) (sym put)
      (subst (λ now. IsNextSet now (put_all own cs) n) same
      (subst (λ n. IsNextSet reads (put_all own cs) n) (sym is) next_set))
