-- An entry that is added is read at its path alone.
use Rattle.std.proofs.Common.{◌≡◌, ◌≢◌, ℕ, Bool, true, false, cond, List, Some, None, refl, ap, sym, subst, ◌∙◌}
use Rattle.std.proofs.lemmas.Cmp.{tied_itself}
use Rattle.std.proofs.lemmas.List.Splits.{join_with_byte-slice_split}
use Rattle.std.proofs.lemmas.Option.{same_Some}
use Rattle.std.specs.Cmp.{Equal-is}
use Rattle.std.specs.FinMap.{get, insert, get-insert}
use Rattle.std.specs.List.{join_with_byte}
use Rattle.std.specs.Ordering.{eq_by_cmp, is_eq}
use Rattle.fx_outside.specs.Path.{parts_cmp, parts, is_fit}
use Rattle.fx_outside.specs.Tree.{Tree, Entry, entry_at, told_with}
use Rattle.fx_outside.proofs.Trees.{parts_total, parts_same}
use Rattle.fx_laws.specs.Written.{IsReadBack, WrittenIsRead}

same_path : (a b : List ℕ) → parts a ≡ parts b → a ≡ b
same_path a b e = sym (join_with_byte-slice_split 47 a) ∙ ap (join_with_byte 47) e ∙ join_with_byte-slice_split 47 b

module _ (tree : Tree) (path : List ℕ) (entry : Entry) where
  there : is_fit path ≡ true → entry_at (insert tree (parts path) entry) path ≡ Some entry
  there fit =
      ap (λ b. cond b (get (insert tree (parts path) entry) (parts path)) None) fit
      ∙ (get-insert parts_total tree (parts path) entry (parts path) ∙ ap (λ b. cond b (Some entry) (get tree (parts path))) (ap is_eq (tied_itself parts_total (parts path))))

  elsewhere : (other : List ℕ) → other ≢ path → get (insert tree (parts path) entry) (parts other) ≡ get tree (parts other)
  elsewhere other apart = get-insert parts_total tree (parts path) entry (parts other) ∙ by (eq_by_cmp parts_cmp (parts other) (parts path)) refl
    where
      by : (b : Bool) → eq_by_cmp parts_cmp (parts other) (parts path) ≡ b → cond b (Some entry) (get tree (parts other)) ≡ get tree (parts other)
      by true e = absurd (apart (same_path other path (parts_same (parts other) (parts path) ((Equal-is (parts_cmp (parts other) (parts path))).0 e))))
      by false e = refl

  is_read_back : IsReadBack tree (insert tree (parts path) entry) path entry
  is_read_back = record { there = there; others = λ other apart. ap (λ o. cond (is_fit other) o None) (elsewhere other apart) }

pub written_is_read : WrittenIsRead
written_is_read old new tree tree' path entry was is adds =
    let told : Some (insert tree (parts path) entry) ≡ Some tree' = sym (adds ∙ ap (λ t. told_with t path entry) was) ∙ is in
    subst (λ t. IsReadBack tree t path entry) (same_Some (insert tree (parts path) entry) tree' told) (is_read_back tree path entry)
